use Rattle.std.proofs.Common.{◌≡◌, ◌<◌, set, length, subst, None, arith}
use Rattle.history.specs.Moves.{change, with_taken}
use Rattle.plain_history.specs.Plain.{Plain, world_of}
use Rattle.plain_history.proofs.Worlds.{world-change}
use Rattle.plain_history.proofs.plain.PlainHistory.pass_keys.Goals as goal

pub returns : goal.returns
returns c =
    let p : Plain = record { history = c.self.inside.history; sessions = c.self.inside.sessions.items; waits = c.self.inside.waits.items; indexed = c.self.inside.indexed; too_new = c.self.inside.too_new.items; has_vacuum = c.self.inside.vacuuming } in
    let within : c.args.s < length c.self.inside.waits.items = omega arith in
    let within' : c.args.s < length c.self.inside.sessions.items = omega arith in
    subst (λ (q : Plain). world_of (record p { sessions = set p.sessions c.args.s c.pass_keys.new.session; waits = set p.waits c.args.s None }) ≡ change (world_of q) c.args.s (with_taken c.args.keys.now))
    c.self.view_is (world-change p c.args.s c.index_mut-2.result.now c.pass_keys.new.session (with_taken c.args.keys.now) within' within c.pass_keys.ensures c.index_mut-2.ensures.value)
