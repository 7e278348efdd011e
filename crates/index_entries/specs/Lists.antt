-- Lists of entries, one after another.
use Rattle.std.specs.Prelude.{◌≡◌, ◌<◌, ◌≤◌, ◌+◌, ◌-◌, ◌||◌, ◌&&◌, ◌==◌, ◌∷◌, [], ℕ, List, Bool, true, false, not, length, take, slice_get, Some, slice_index_or}
use Rattle.std.specs.List.{flat_map}
use Rattle.std.specs.Ordering.{is_lt}
use Rattle.xid_circle.specs.declared.Tid.{Tid}
use Rattle.index_entries.specs.declared.entry.Entry.{Entry}
use Rattle.index_entries.specs.Order.{comparison}

-- the entries of the lists, one list after another
abbrev pub concatenated : List (List Entry) → List Entry
concatenated lists = flat_map (λ list. list) lists

-- the list of this number, counted from 0
abbrev pub list_of : List (List Entry) → ℕ → List Entry
list_of lists i = slice_index_or lists i []

-- in a list, or right after its last entry
pub record EntryPlace : Type 0 where
  -- the list's number, counted from 0
  pub list : ℕ
  -- the place in the list, counted from 0
  pub entry : ℕ

-- where the entry at a place stands among all
abbrev pub rank : List (List Entry) → EntryPlace → ℕ
rank lists place = length (concatenated (take place.list lists)) + place.entry

-- the sought entry precedes the list's first
abbrev pub begins_after : Entry → List Entry → Bool
begins_after sought [] = false
begins_after sought (first ∷ rest) = is_lt (comparison sought first)

-- this one is the list's first, if it has any
abbrev pub IsFirst : Entry → List Entry → Type 0
IsFirst entry [] = Unit {0}
IsFirst entry (first ∷ rest) = entry ≡ first

-- this one is the list's last, if it has any
abbrev pub IsLast : Entry → List Entry → Type 0
IsLast entry entries = 0 < length entries → slice_get entries (length entries - 1) ≡ Some entry

-- one of these two lists or one between them is the last that doesn't begin after the entry
pub record IsLastBetween (lists : List (List Entry)) (sought : Entry) (low high : ℕ) : Type 0 where
  pub order : low < high
  pub in_range : high ≤ length lists
  pub below : 0 < low → begins_after sought (list_of lists low) ≡ false
  pub above : high < length lists → begins_after sought (list_of lists high) ≡ true

-- Whether an entry leads to none of these places.

abbrev pub is_among : List Tid → Tid → Bool
is_among [] tid = false
is_among (t ∷ dead) tid = (t.page == tid.page && t.slot == tid.slot) || is_among dead tid

abbrev pub stays : List Tid → Entry → Bool
stays dead e = not (is_among dead e.tid)
