-- What an explanation of a key shows as seen is what the session's view has.
use Rattle.std.proofs.Common.{◌≡◌, ℕ, Some, refl}
use Rattle.tuple_header.specs.IndexValue.{value_in}
use Rattle.tuple_header.specs.declared.version.Row.{Row}
use Rattle.table_integrity.proofs.InUse.{index-sound}
use Rattle.history.specs.World.{World, OpenSession, view}
use Rattle.sound_explanations.specs.Showing.{FindsRow}
use Rattle.sound_explanations.proofs.ShowingLemmas.{explanations-show-what-is-found}
use Rattle.sessions.specs.declared.session.Session.{Session}
use Rattle.session_steps.specs.State.{State, session_at}
use Rattle.sessions.specs.Session.{statement_snapshot}
use Rattle.session_steps.specs.Agrees.{Agrees}
use Rattle.session_steps.specs.Laws.{FindsRows}
use Rattle.session_looks.specs.Explaining.{vantage_of, ExplanationsShowTheView}
use Rattle.session_steps.proofs.ByIndex.{views-by-index}

finds-row : (st : State) (w : World) (e : Session) (m : OpenSession) (key : ℕ)
    → FindsRows st.heap (statement_snapshot st.heap.statuses e.isolation) e.own.ids 0 (view w.history m) → FindsRow (vantage_of st e) key (view w.history m key)
finds-row st w e m key finds = record {
  sound = λ value p t found. (finds.sound value key p t found).0;
  there = λ r is. let some = finds.there key r is in (value_in 0 r, some.0, some.1, some.2);
  one = λ value other p q t u found found'. finds.one value other key p q t u found found';
}

pub explanations-show-the-view : ExplanationsShowTheView
explanations-show-the-view st w agrees s e m at there key =
    let used = agrees.sound.by_key in
    let finds = ((views-by-index st w agrees 0 used).0 s e m at there ((agrees.indexes 0).0 used, agrees.scans s e at 0)).now in
    explanations-show-what-is-found (vantage_of st e) key (view w.history m key) (index-sound st.heap agrees.sound.table 0 used) (finds-row st w e m key finds)
