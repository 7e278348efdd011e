-- A new engine.
use Rattle.std.specs.Prelude.{[], ◌≡◌, ℕ, None}
use Rattle.history.specs.World.{beginning}
use Rattle.table_indexes.specs.Indexes.{entries_at, since_at, new_entries}
use Rattle.calls.specs.declared.settings.Settings.{Settings}
use Rattle.session_steps.specs.State.{State}
use Rattle.session_steps.specs.Agrees.{Agrees}

-- an engine of these settings on which nothing was done: no id is given, no page in use, and no index has an entry
pub record IsNew (asked : Settings) (st : State) : Type 0 where
  pub settings : st.settings ≡ asked
  pub first : st.heap.statuses.first ≡ asked.first_xid
  pub ids : st.heap.statuses.entries ≡ []
  pub pages : st.heap.pages.pages ≡ []
  pub marks : st.heap.pages.marks ≡ []
  pub indexes : (n : ℕ) → entries_at st.heap.indexes n ≡ new_entries asked.indexed n
  -- each that the settings ask for was always exact: it was made with the table, and not in use
  pub since : (n : ℕ) → since_at st.heap.indexes n ≡ None
  pub agrees : Agrees st (beginning asked.indexed)
