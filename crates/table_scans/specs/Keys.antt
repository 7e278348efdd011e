-- A scan over keys alone, along the index by key: which it meets on its way, and how many it takes.
use Rattle.std.specs.Prelude.{◌≡◌, ℕ, ◌<◌, ◌≤◌, max, List, [], ◌∷◌, ◌++◌, length, Option, Some, Vec, MatchOption}
use Rattle.std.specs.declared.alloc.Global.{Global}
use Rattle.xid_circle.specs.Numbers.{Count}
use Rattle.tuple_header.specs.declared.row_place.RowPlace.{RowPlace}
use Rattle.index_lookup.specs.declared.index_scan.IndexPosition.{IndexPosition}
use Rattle.index_lookup.specs.declared.index_scan.IndexRange.{IndexRange}
use Rattle.index_lookup.specs.Keys.{IsNextKey, NoKeyLeft}
use Rattle.table_indexes.specs.Indexes.{entries_in}
use Rattle.table_scans.specs.declared.progress.KeyRange.{KeyRange}
use Rattle.table_scans.specs.Scans.{Sight}

-- the keys, as a part of the index by key
abbrev pub span_of : KeyRange → IndexRange
span_of range = record { index = 0; low = range.low; high = range.high; last = range.last }

-- the first key of the range that shows, and its place in the order
abbrev pub IsNextKeyIn : Sight → KeyRange → IndexPosition → Type 0
IsNextKeyIn t range position = IsNextKey t.statuses t.sees t.heap.pages (entries_in t.heap.indexes 0) (span_of range) position

-- none shows
abbrev pub NoKeyIsIn : Sight → KeyRange → Type 0
NoKeyIsIn t range = NoKeyLeft t.statuses t.sees t.heap.pages (entries_in t.heap.indexes 0) (span_of range)

-- a scan of the range meets these keys, one after another, and this is left of it
pub data ScansKeys (t : Sight) (range : KeyRange) : KeyRange → List ℕ → Type 0 where
  keys_begin : ScansKeys t range range []
  keys_go_on : (left : KeyRange) (keys : List ℕ) (position : IndexPosition) → ScansKeys t range left keys → IsNextKeyIn t left position
      → ScansKeys t range (record left { last = Some position }) (keys ++ position.key ∷ [])

-- it meets some key
abbrev pub MeetsSomeKey : Sight → KeyRange → Type 0
MeetsSomeKey t range = (left : KeyRange) × (keys : List ℕ) × ScansKeys t range left keys × (0 < length keys)

-- as many as were asked for, or all
pub record TakesKeys (t : Sight) (range left : KeyRange) (count : ℕ) (keys : List ℕ) : Type 0 where
  pub scans : ScansKeys t range left keys
  pub at_most : length keys ≤ count
  pub all : length keys < count → NoKeyIsIn t left

-- there are some, of n that are asked for, where 0 counts as 1
pub record TakesSomeKeys (t : Sight) (range : KeyRange) (n : Count) (keys : List ℕ) (left : KeyRange) : Type 0 where
  pub some : 0 < length keys
  pub takes : TakesKeys t range left (max 1 n) keys

-- or none is left
abbrev pub TakesNextKeys : Sight → KeyRange → Count → Option (Vec ℕ Global × KeyRange) → Type 0
TakesNextKeys t range n answer = MatchOption answer (NoKeyIsIn t range) (λ found. TakesSomeKeys t range n found.0.items found.1)

-- Keys in places that a caller keeps.

-- the places once these keys are written to the first of them: all others stay, and all but the key of these
abbrev pub places_with_keys : List ℕ → List RowPlace → List RowPlace
places_with_keys (key ∷ keys) (place ∷ places) = record place { key = key } ∷ places_with_keys keys places
places_with_keys keys places = places

-- so many keys were written to the first places: as many as there are, or all that are left
pub record PutsKeys (t : Sight) (range : KeyRange) (places : List RowPlace) (count : ℕ) (left : KeyRange) (after : List RowPlace) : Type 0 where
  pub keys : List ℕ
  pub number : length keys ≡ count
  pub written : after ≡ places_with_keys keys places
  pub takes : TakesKeys t range left (length places) keys
