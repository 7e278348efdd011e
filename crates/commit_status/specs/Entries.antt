-- How what is known of ids is kept: the status of each, and beside these the ids that have a parent.
use Rattle.std.specs.Prelude.{◌≡◌, ℕ, suc, ◌-◌, ◌<◌, ◌==◌, if◌then◌else◌, List, [], ◌∷◌, ◌++◌, Option, Some, None, slice_get}
use Rattle.commit_status.specs.declared.status.Status.{Status}
use Rattle.commit_status.specs.declared.entries.Child.{Child}
use Rattle.commit_status.specs.Window.{IdEntry}

pub record EntriesView : Type 0 where
  -- what is known of each id, in order of giving
  pub items : List IdEntry
  -- how many more can be added without memory
  pub spare : ℕ

abbrev pub known_with : Status → Option ℕ → IdEntry
known_with status parent = record { status = status; parent = parent }

-- the parent of the id at this place, if it is a child
abbrev pub parent_for : List Child → ℕ → Option ℕ
parent_for [] place = None
parent_for (c ∷ children) place = if c.place == place then Some c.parent else parent_for children place

-- what is known of ids at this place and behind it
abbrev pub known_from : ℕ → List Status → List Child → List IdEntry
known_from place [] children = []
known_from place (status ∷ statuses) children = known_with status (parent_for children place) ∷ known_from (suc place) statuses children

-- each child stands once, in order of giving
abbrev pub StandInOrder : List Child → Type 0
StandInOrder children = (i j : ℕ) (a b : Child) → i < j → slice_get children i ≡ Some a → slice_get children j ≡ Some b → a.place < b.place

-- and is one of so many ids
abbrev pub AreWithin : List Child → ℕ → Type 0
AreWithin children count = (i : ℕ) (a : Child) → slice_get children i ≡ Some a → a.place < count

pub record AreChildren (children : List Child) (count : ℕ) : Type 0 where
  pub in_order : StandInOrder children
  pub within : AreWithin children count

-- once so many ids before it are forgotten
abbrev pub placed_earlier : ℕ → Child → Child
placed_earlier count child = record child { place = child.place - count }

-- with the id at this place, which is given last, under its parent
abbrev pub with_child : List Child → ℕ → Option ℕ → List Child
with_child children place None = children
with_child children place (Some parent) = children ++ record { place = place; parent = parent } ∷ []
