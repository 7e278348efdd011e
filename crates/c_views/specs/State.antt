-- What a table is like, as C reads it.
use Rattle.std.specs.Prelude.{◌≡◌, ◌↔◌, ◌≤◌, ℕ, Bool, [], ◌∷◌, map, length, Option, Some, None}
use Rattle.std.specs.Option.{option_map, is_some, unwrap_or}
use Rattle.commit_status.specs.Window.{next_id}
use Rattle.commit_status.specs.Changes.{CanGive}
use Rattle.root_index.specs.View.{IndexView}
use Rattle.calls.specs.declared.vacuum.Mode.{Mode}
use Rattle.calls.specs.declared.vacuum.Mode.TheVariants.{Normal, Aggressive}
use Rattle.session_steps.specs.State.{State, engine_index}
use Rattle.sessions.specs.Session.{open_bits}
use Rattle.vacuum_passes.specs.View.{VacuumView}
use Rattle.session_core.specs.State.{WaitingView}
use Rattle.c_views.specs.declared.state.SandpiperState.{SandpiperState}

-- how many entries the index of this number has: 0 where there is none
abbrev pub entry_count : State → ℕ → ℕ
entry_count st number = unwrap_or (option_map (λ (index : IndexView). length index.entries) (engine_index st number)) 0

-- whether there is an index of this number
abbrev pub has_index : State → ℕ → Bool
has_index st number = is_some (engine_index st number)

-- the mode of the vacuum that is running, if one is
abbrev pub vacuum_mode : WaitingView → Option Mode
vacuum_mode engine = option_map (λ (v : VacuumView). v.mode) engine.engine.vacuum

-- the number that C has for the mode of a vacuum, or for none
abbrev pub number_of_mode : Option Mode → ℕ
number_of_mode None = 0
number_of_mode (Some Normal) = 1
number_of_mode (Some Aggressive) = 2

-- C's place has what the engine is like
pub record ShowsState (engine : WaitingView) (state : SandpiperState) : Type 0 where
  pub next : state.next_id ≡ next_id engine.engine.core.heap.statuses
  pub oldest : state.oldest_id ≡ engine.engine.core.heap.statuses.first
  -- so many ids can be given, one after another, and no more
  pub left : (n : ℕ) → CanGive engine.engine.core.heap.statuses n ↔ (n ≤ state.ids_left)
  pub pages : state.pages ≡ length engine.engine.core.heap.pages.pages
  pub sessions : state.open_sessions ≡ open_bits engine.engine.core.sessions
  pub entries : state.entries ≡ map (entry_count engine.engine.core) (0 ∷ 1 ∷ 2 ∷ 3 ∷ 4 ∷ [])
  pub indexes : state.has_index ≡ map (has_index engine.engine.core) (0 ∷ 1 ∷ 2 ∷ 3 ∷ 4 ∷ [])
  pub vacuum : state.vacuum ≡ number_of_mode (vacuum_mode engine)
