use Rattle.std.proofs.Common.{◌≡◌, ◌<◌, set, length, replicate, false, subst, arith}
use Rattle.history.specs.Moves.{free_to_scan}
use Rattle.plain_history.specs.Plain.{Plain, world_of}
use Rattle.plain_history.proofs.Worlds.{world-free}
use Rattle.plain_history.proofs.plain.PlainHistory.may_scan_all.Goals as goal

pub returns : goal.returns
returns c =
    let p : Plain = record { history = c.self.inside.history; sessions = c.self.inside.sessions.items; waits = c.self.inside.waits.items; indexed = c.self.inside.indexed; too_new = c.self.inside.too_new.items; has_vacuum = c.self.inside.vacuuming } in
    let within : c.args.s < length c.self.inside.too_new.items = omega arith in
    subst (λ (q : Plain). world_of (record p { too_new = set p.too_new c.args.s (replicate 5 false) }) ≡ free_to_scan (world_of q) c.args.s) c.self.view_is (world-free p c.args.s 5 within)
