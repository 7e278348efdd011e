-- A vacuum of the engine's table: how it begins, what its steps do beside it, and what is forgotten at its end.
use Rattle.std.specs.Prelude.{◌≡◌, ◌<◌, ◌≤◌, ℕ, length, Option, Some, Contains}
use Rattle.forgetting.specs.Cutoffs.{cutoff_at}
use Rattle.commit_status.specs.Window.{IsUpToNext, next_id, turns}
use Rattle.table_indexes.specs.Indexes.{HasIndexes, all_entries}
use Rattle.heap_write.specs.Cleaning.{ForgetsBefore}
use Rattle.calls.specs.declared.vacuum.Mode.{Mode}
use Rattle.calls.specs.declared.vacuum.Piece.{Piece}
use Rattle.vacuum_passes.specs.View.{VacuumView, new_vacuum}
use Rattle.vacuum_passes.specs.Steps.{Steps}
use Rattle.sessions.specs.declared.session.Session.{Session}
use Rattle.session_steps.specs.State.{State, session_at, horizon_of}

-- The settings and the indexes are what an engine has from its beginning.
pub record IsSetUp (st : State) : Type 0 where
  pub limit : 0 < st.settings.dead_limit
  pub indexes : HasIndexes st.heap.indexes

-- a vacuum that begins now, with the cutoff of this moment
abbrev pub vacuum_begun : Mode → State → VacuumView
vacuum_begun mode st = new_vacuum mode (horizon_of st)
    (cutoff_at st.heap.statuses.first (next_id st.heap.statuses) (horizon_of st) st.settings.freeze_min_age)
    (length st.heap.pages.pages) (all_entries st.heap.indexes) st.settings.dead_limit

-- a vacuum does its next step, at the present horizon, and nothing but the heap changes
pub record VacuumWorks (old new : State) (v : VacuumView) (after : Option VacuumView)
    (did : Option Piece) : Type 0 where
  pub steps : Steps old.heap new.heap v (horizon_of old) after did
  pub is : new ≡ record old { heap = new.heap }

-- Old ids can be forgotten: the cutoff is remembered or the next id, and no open session has an id before it. So it is wherever the
-- engine agrees with a world; it is tested, since the engine's type keeps that own ids are in progress.
pub record MayForget (st : State) (cutoff : ℕ) : Type 0 where
  pub upto : IsUpToNext st.heap.statuses cutoff
  pub unowned : (s : ℕ) (e : Session) (x : ℕ) → session_at st s ≡ Some e → Contains e.own.ids x
      → turns st.heap.statuses.first cutoff ≤ turns st.heap.statuses.first x

-- ids before the cutoff are forgotten, if they can be, and nothing else changes
pub record Forgets (old new : State) (cutoff : ℕ) : Type 0 where
  pub forgets : MayForget old cutoff → ForgetsBefore old.heap new.heap cutoff
  pub keeps : ¬ MayForget old cutoff → new.heap ≡ old.heap
  pub is : new ≡ record old { heap = new.heap }
