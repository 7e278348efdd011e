-- An index by a column is made while sessions are open.
use Rattle.std.specs.Prelude.{◌≡◌, ◌≢◌, ℕ, suc, ◌<◌, ◌≤◌, [], Some, None, IsSome}
use Rattle.heap_write.specs.Heap.{slots_of}
use Rattle.index_making.specs.Making.{SomeCurrent}
use Rattle.heap_write.specs.Making.{MakesIndex}
use Rattle.calls.specs.declared.reply.Refusal.{Refusal}
use Rattle.calls.specs.declared.reply.Refusal.TheVariants as refusal
use Rattle.sessions.specs.declared.session.Session.{Session}
use Rattle.session_steps.specs.State.{State, session_at, engine_index}
use Rattle.sessions.specs.Marks.{MarksAll}
use Rattle.tuple_header.specs.declared.version.TheConstants.{COLUMNS}

-- the index by the column is not there, and may be made
abbrev pub LacksIndexOn : State → (column : ℕ) → Type 0
LacksIndexOn st c = (c < COLUMNS) × (engine_index st (suc c) ≡ None)

-- an open session has an id: it wrote, though it may have failed since, or rolled all of it back
abbrev pub SomeoneHasId : State → Type 0
SomeoneHasId st = (s : ℕ) × (e : Session) × (session_at st s ≡ Some e) × (e.own.ids ≢ [])

-- the index is made, and who was open by snapshot then may not scan it
pub record MakesIndexOn (old new : State) (column : ℕ) : Type 0 where
  pub settings : new.settings ≡ old.settings
  pub heap : MakesIndex old.heap new.heap column
  pub sessions : MarksAll (suc column) old.sessions new.sessions

-- The index is there, and nothing changes; or it is made, as it may be while no open session has an id.
pub data HasOrMakes (old new : State) (column : ℕ) : Type 0 where
  has : column < COLUMNS → IsSome (engine_index old (suc column)) → new ≡ old → HasOrMakes old new column
  makes : LacksIndexOn old column → ¬ SomeoneHasId old → MakesIndexOn old new column → HasOrMakes old new column

-- Why it is not made, of the first reason in this order. Memory is asked for only where an entry comes.
abbrev pub RefusesIndexOn : State → (column : ℕ) → Refusal → Type 0
RefusesIndexOn st c refusal.NoSuchIndex = COLUMNS ≤ c
RefusesIndexOn st c refusal.IndexBusy = LacksIndexOn st c × SomeoneHasId st
RefusesIndexOn st c refusal.NoMemory = LacksIndexOn st c × (¬ SomeoneHasId st) × SomeCurrent st.heap.statuses (slots_of st.heap)
RefusesIndexOn st c refusal = ⊥
