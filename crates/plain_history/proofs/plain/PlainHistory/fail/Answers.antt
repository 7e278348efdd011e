use Rattle.std.proofs.Common.{◌≡◌, ◌<◌, set, length, subst, None, arith}
use Rattle.history.specs.Moves.{change, as_failed}
use Rattle.plain_history.specs.Plain.{Plain, world_of}
use Rattle.plain_history.proofs.Worlds.{world-change}
use Rattle.plain_history.proofs.plain.PlainHistory.fail.Goals as goal

pub returns : goal.returns
returns c =
    let p : Plain = record { history = c.self.inside.history; sessions = c.self.inside.sessions.items; waits = c.self.inside.waits.items; indexed = c.self.inside.indexed; too_new = c.self.inside.too_new.items; has_vacuum = c.self.inside.vacuuming } in
    let within : c.args.s < length c.self.inside.waits.items = omega arith in
    let within' : c.args.s < length c.self.inside.sessions.items = omega arith in
    subst (λ (q : Plain). world_of (record p { sessions = set p.sessions c.args.s c.fail.new.session; waits = set p.waits c.args.s None }) ≡ change (world_of q) c.args.s as_failed)
    c.self.view_is (world-change p c.args.s c.index_mut-2.result.now c.fail.new.session as_failed within' within c.fail.ensures c.index_mut-2.ensures.value)
