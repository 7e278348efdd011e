use Rattle.std.proofs.Common.{◌≡◌, ◌<◌, set, length, subst, None, arith}
use Rattle.history.specs.Moves.{stepped}
use Rattle.plain_history.specs.Plain.{Plain, world_of}
use Rattle.plain_history.proofs.Worlds.{world-step}
use Rattle.plain_history.proofs.plain.PlainHistory.end_wait.Goals as goal

pub returns : goal.returns
returns c =
    let p : Plain = record { history = c.self.inside.history; sessions = c.self.inside.sessions.items; waits = c.self.inside.waits.items; indexed = c.self.inside.indexed; too_new = c.self.inside.too_new.items; has_vacuum = c.self.inside.vacuuming } in
    let within : c.args.s < length c.self.inside.waits.items = omega arith in
    subst (λ (q : Plain). world_of (record p { waits = set p.waits c.args.s None }) ≡ stepped (world_of q) c.args.s) c.self.view_is (world-step p c.args.s within)
