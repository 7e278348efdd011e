use Rattle.std.proofs.Common.{◌≡◌, ◌<◌, set, length, subst, None, arith}
use Rattle.std.specs.Option.{option_map}
use Rattle.history.specs.Moves.{put}
use Rattle.plain_history.specs.Plain.{Plain, open_of, world_of}
use Rattle.plain_history.proofs.Worlds.{world-put}
use Rattle.plain_history.proofs.plain.PlainHistory.put.Goals as goal

pub returns : goal.returns
returns c =
    let p : Plain = record { history = c.self.inside.history; sessions = c.self.inside.sessions.items; waits = c.self.inside.waits.items; indexed = c.self.inside.indexed; too_new = c.self.inside.too_new.items; has_vacuum = c.self.inside.vacuuming } in
    let within : c.args.s < length c.self.inside.waits.items = omega arith in
    let within' : c.args.s < length c.self.inside.sessions.items = omega arith in
    subst (λ (q : Plain). world_of (record p { sessions = set p.sessions c.args.s c.args.session; waits = set p.waits c.args.s None }) ≡ put (world_of q) c.args.s (option_map open_of c.args.session))
    c.self.view_is (world-put p c.args.s c.args.session within' within)
