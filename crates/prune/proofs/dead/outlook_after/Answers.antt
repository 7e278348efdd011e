use Rattle.std.proofs.Common.{arith, sym}
use Rattle.prune.proofs.Cuts.{lives-nowhere, outlook-there}
use Rattle.prune.proofs.dead.outlook_after.Goals as goal

pub returns-in-Some : goal.returns-in-Some
returns-in-Some c =
    outlook-there c.args.statuses.now c.args.horizon.0 c.args.so_far.turn c.args.page.now.slots c.args.number c.in-Some.header c.outlook_with.result
    (sym c.in-Some.ensures.value) c.outlook_with.ensures

pub returns-in-None : goal.returns-in-None
returns-in-None c = (
  lives-nowhere c.args.statuses.now c.args.horizon.0 c.args.so_far.turn c.args.page.now.slots c.args.number (sym c.in-None.ensures.value),
  (omega arith),
  c.requires.known,
  (λ there. there),
)
