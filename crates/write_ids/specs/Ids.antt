-- The ids of a write.
--
-- A session writes under the id of its newest level. Each of its levels that has none is given one before, the lowest
-- first and each under the one below it, all or none. (The manual's "Subtransactions"; AssignTransactionId in
-- src/backend/access/transam/xact.c.)
use Rattle.std.specs.Prelude.{◌≡◌, ℕ, ◌≤◌, List, [], ◌∷◌, ◌++◌, length, Option, Some}
use Rattle.commit_status.specs.Window.{Window, IsGiven, next_id}
use Rattle.commit_status.specs.Changes.{Gives, CanGive}
use Rattle.snapshot.specs.Own.{Own, unassigned_levels, current_xid, saved_with_each}

-- the newest id of the session, if it has one, was given
abbrev pub NewestIsGiven : Window → Own → Type 0
NewestIsGiven w own = (x : ℕ) → current_xid own.ids own.saved ≡ Some x → IsGiven w x

-- the levels need more ids than can be given
abbrev pub NeedsFreeze : Window → Own → Type 0
NeedsFreeze w own = ¬ CanGive w (unassigned_levels own.ids own.saved)

-- the ids are given one after another, the first under this parent, and each other under the one before it
abbrev pub GivesUnder : Window → Option ℕ → List ℕ → Window → Type 0
GivesUnder w parent [] w' = w' ≡ w
GivesUnder w parent (x ∷ xs) w' = (between : Window) × (x ≡ next_id w) × Gives w between parent × GivesUnder between (Some x) xs w'

-- each level that lacked an id has one now, and x is the newest level's
pub record TakesIds (w w' : Window) (own own' : Own) (x : ℕ) : Type 0 where
  pub given : List ℕ
  pub count : length given ≡ unassigned_levels own.ids own.saved
  pub gives : GivesUnder w (current_xid own.ids own.saved) given w'
  pub ids : own'.ids ≡ own.ids ++ given
  pub saved : own'.saved ≡ saved_with_each given own.saved
  pub newest : current_xid own'.ids own'.saved ≡ Some x

-- the session's ids are as they were, though there may be more memory
pub record SameOwn (own own' : Own) : Type 0 where
  pub ids : own'.ids ≡ own.ids
  pub saved : own'.saved ≡ own.saved

-- Memory.

-- the ids are as they were, though there may be more memory
pub record SameIds (w w' : Window) : Type 0 where
  pub first : w'.first ≡ w.first
  pub stop_age : w'.stop_age ≡ w.stop_age
  pub entries : w'.entries ≡ w.entries

-- the table and the session's own list can note the ids that its levels lack
pub record HasIds (w : Window) (own : Own) : Type 0 where
  pub in_table : unassigned_levels own.ids own.saved ≤ w.spare
  pub in_own : unassigned_levels own.ids own.saved ≤ own.spare
