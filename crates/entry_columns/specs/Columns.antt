-- Entries as columns.
use Rattle.std.specs.Prelude.{◌≡◌, ◌<◌, ◌≤◌, ◌/◌, ◌%◌, ℤ, List, [], ◌∷◌}
use Rattle.xid_circle.specs.Numbers.{Key, Count}
use Rattle.xid_circle.specs.declared.Tid.{Tid}
use Rattle.index_entries.specs.declared.entry.Entry.{Entry}
use Rattle.index_entries.specs.declared.node.TheConstants.{MOST_PARTS, HALF}
use Rattle.entry_columns.specs.declared.short_tid.ShortTid.{ShortTid}

-- a place as others have it
abbrev pub long : ShortTid → Tid
long place = record { page = place.number / 65536; slot = place.number % 65536 }

-- the entry with this label and this place
abbrev pub entry_with : {L : Type 0} → (L → ℤ) → (L → Key) → L → ShortTid → Entry
entry_with value key label place = record { value = value label; key = key label; tid = long place }

-- the entries with these labels and these places, each with its own
abbrev pub entries_with : {L : Type 0} → (L → ℤ) → (L → Key) → List L → List ShortTid → List Entry
entries_with value key [] places = []
entries_with value key (label ∷ labels) [] = []
entries_with value key (label ∷ labels) (place ∷ places) = entry_with value key label place ∷ entries_with value key labels places

-- columns as others see them
pub record ColumnsView : Type 0 where
  -- in order
  pub entries : List Entry
  -- for so many there are places in memory
  pub room : Count

-- as many labels as places, and room for half of all that there may be; for all of them where there are more than half
pub record AreColumns (labels places label_room place_room : Count) : Type 0 where
  pub alike : labels ≡ places
  pub few : labels ≤ MOST_PARTS
  pub labels_reserved : HALF ≤ label_room
  pub places_reserved : HALF ≤ place_room
  pub large : HALF < labels → (MOST_PARTS ≤ label_room) × (MOST_PARTS ≤ place_room)
