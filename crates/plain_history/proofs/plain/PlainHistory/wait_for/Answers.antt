use Rattle.std.proofs.Common.{◌≡◌, ◌<◌, set, length, subst, Some, arith}
use Rattle.history.specs.Moves.{blocked_by}
use Rattle.plain_history.specs.Plain.{Plain, world_of}
use Rattle.plain_history.proofs.Worlds.{world-wait}
use Rattle.plain_history.proofs.plain.PlainHistory.wait_for.Goals as goal

pub returns : goal.returns
returns c =
    let p : Plain = record { history = c.self.inside.history; sessions = c.self.inside.sessions.items; waits = c.self.inside.waits.items; indexed = c.self.inside.indexed; too_new = c.self.inside.too_new.items; has_vacuum = c.self.inside.vacuuming } in
    let within : c.args.s < length c.self.inside.waits.items = omega arith in
    subst (λ (q : Plain). world_of (record p { waits = set p.waits c.args.s (Some c.args.o) }) ≡ blocked_by (world_of q) c.args.s c.args.o) c.self.view_is (world-wait p c.args.s c.args.o within)
