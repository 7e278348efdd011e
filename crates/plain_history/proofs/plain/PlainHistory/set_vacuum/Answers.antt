use Rattle.std.proofs.Common.{◌≡◌, refl, subst}
use Rattle.history.specs.Moves.{with_vacuum}
use Rattle.plain_history.specs.Plain.{Plain, world_of}
use Rattle.plain_history.proofs.plain.PlainHistory.set_vacuum.Goals as goal

pub returns : goal.returns
returns c =
    let p : Plain = record { history = c.self.inside.history; sessions = c.self.inside.sessions.items; waits = c.self.inside.waits.items; indexed = c.self.inside.indexed; too_new = c.self.inside.too_new.items; has_vacuum = c.self.inside.vacuuming } in
    subst (λ (q : Plain). world_of (record p { has_vacuum = c.args.runs }) ≡ with_vacuum c.args.runs (world_of q)) c.self.view_is refl
