-- A session fails beside its steps.
use Rattle.std.proofs.Common.{◌≡◌, ℕ, Option, Some, None, refl, sym, ap, ◌∙◌, subst}
use Rattle.std.specs.Prelude.{IsSome}
use Rattle.std.specs.Option.{option_map}
use Rattle.commit_status.specs.Window.{next_id}
use Rattle.snapshot.specs.Snap.{earliest}
use Rattle.history.specs.World.{World, OpenSession}
use Rattle.sessions.specs.declared.session.Session.{Session}
use Rattle.session_steps.specs.State as core
use Rattle.session_steps.specs.State.{reader_of}
use Rattle.session_steps.specs.Agrees as core_agrees
use Rattle.session_steps.proofs.Follows.{same-back, led-same}
use Rattle.session_steps.proofs.Hindering.{fails-agree}
use Rattle.session_steps.proofs.StateLemmas.{failed_session}
use Rattle.sound_vacuum.specs.Maps.{MapsAreTrue}
use Rattle.sound_vacuum.specs.Vacuuming.{KeepsVacuum}
use Rattle.vacuum_engine.specs.Laws.{FailingAgrees}

-- who is open in the world is open in the engine
pub open_there : (st : core.State) (w : World) (s : ℕ) → core_agrees.Agrees st w → IsSome (w.session s) → (e : Session) × (core.session_at st s ≡ Some e)
open_there st w s agrees some = of (core.session_at st s) refl
  where
    of : (o : Option Session) → core.session_at st s ≡ o → (e : Session) × (core.session_at st s ≡ Some e)
    of None at = absurd (let none : IsSome {T = OpenSession} None = subst (λ o. IsSome o) (agrees.found.idle s (ap (option_map reader_of) at)) some in cc)
    of (Some e) at = (e, at)

-- it holds back what it held back
failed-horizon : (st : core.State) (s : ℕ) (e : Session) → core.session_at st s ≡ Some e → core.horizon_of (core.with_failed st s) ≡ core.horizon_of st
failed-horizon st s e at =
    ap (λ o. core.horizon_of (core.put_session st s (option_map failed_session o))) at
    ∙ ap (λ back. earliest (next_id st.heap.statuses) back) (same-back st.sessions s e (failed_session e) at refl)

pub failing-agrees : FailingAgrees
failing-agrees e w s agrees some =
    let there = open_there e.core w s agrees.core some in
    let horizon = failed-horizon e.core s there.0 there.1 in (
      record {
        core = fails-agree e.core w s there.0 there.1 agrees.core;
        runs = agrees.runs;
        maps = subst (λ n. MapsAreTrue e.core.heap.statuses n e.core.heap.pages.pages e.core.heap.pages.marks) (sym horizon) agrees.maps;
        vacuum = λ v at. subst (λ n. KeepsVacuum e.core.heap n v) (sym horizon) (agrees.vacuum v at);
        within = agrees.within;
      },
      led-same e.core w agrees.core,
    )
