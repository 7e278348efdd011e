use Rattle.std.proofs.Common.{subst}
use Rattle.std.specs.Prelude.{MatchOption}
use Rattle.session_steps.specs.State.{State}
use Rattle.session_steps.specs.Making.{SomeoneHasId}
use Rattle.session_steps.proofs.Marking.{writer-among}
use Rattle.session_steps.proofs.engine.SessionEngine.writer.Goals as goal

pub returns : goal.returns
returns c = subst (λ (st : State). MatchOption c.first_with_id.result (¬ SomeoneHasId st) (λ s. SomeoneHasId st)) c.self.view_is
    (writer-among (record { settings = c.self.inside.settings; heap = c.self.inside.heap; sessions = c.self.inside.sessions }) c.places_in_use.result.now c.first_with_id.result c.places_in_use.ensures c.first_with_id.ensures)
