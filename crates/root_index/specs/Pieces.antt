-- Entries to dead places are removed piece by piece. How long a piece is, is left open here. In the code it ends with a leaf.
use Rattle.std.specs.Prelude.{◌↔◌, List, Option, Contains}
use Rattle.xid_circle.specs.declared.Tid.{Tid}
use Rattle.index_entries.specs.declared.entry.Entry.{Entry}
use Rattle.index_entries.specs.Order.{EntryPrecedes, IsAscending}
use Rattle.index_entries.specs.Sets.{IsAfter}
use Rattle.root_index.specs.declared.progress.Progress.{Progress}
use Rattle.root_index.specs.declared.progress.Progress.TheVariants.{More, Done}

-- up to and with the entry that was looked at last
abbrev pub IsUpTo : Progress → Entry → Type 0
IsUpTo (More last) e = ¬ EntryPrecedes last e
IsUpTo Done e = Unit {0}

-- More is answered exactly where an entry comes after the last one, which is after `from`: so no piece is empty where any entry is left
abbrev pub GoesOn : List Entry → Option Entry → Progress → Type 0
GoesOn entries from (More last) = Contains entries last × IsAfter from last × ((next : Entry) × Contains entries next × EntryPrecedes last next)
GoesOn entries from Done = Unit {0}

-- a piece that begins after `from`: of its entries those that lead to one of these places go, and no others
pub record RemovesPiece (old new : List Entry) (dead : List Tid) (from : Option Entry) (progress : Progress) : Type 0 where
  pub ascending : IsAscending new
  pub members : (e : Entry) → Contains new e ↔ (Contains old e × ¬ (IsAfter from e × IsUpTo progress e × Contains dead e.tid))
  pub goes_on : GoesOn old from progress
