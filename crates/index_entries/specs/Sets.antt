-- What calls do to the set of entries, and what they look for in it.
use Rattle.std.specs.Prelude.{◌≡◌, ◌↔◌, ◌⊎◌, ◌<◌, ◌<ℤ◌, ◌+◌, ℕ, ℤ, Bool, IsTrue, List, ◌≤◌, length, slice_get, Option, Some, None, IsSomeAnd, Contains}
use Rattle.xid_circle.specs.declared.Tid.{Tid}
use Rattle.index_entries.specs.declared.entry.Entry.{Entry}
use Rattle.index_entries.specs.Order.{EntryPrecedes, IsAscending}

-- the same entries and this one
pub record AddsEntry (old new : List Entry) (entry : Entry) : Type 0 where
  pub ascending : IsAscending new
  pub members : (e : Entry) → Contains new e ↔ (Contains old e ⊎ (e ≡ entry))

-- the same entries but some of those that lead to one of these places, as a piece of a sweep leaves them
pub record Loses (old new : List Entry) (dead : List Tid) : Type 0 where
  pub none_new : (e : Entry) → Contains new e → Contains old e
  pub kept : (e : Entry) → Contains old e → ¬ Contains dead e.tid → Contains new e

-- the first of the entries that have P, if any has
abbrev pub IsLeast : List Entry → (Entry → Type 0) → Option Entry → Type 0
IsLeast entries P None = (e : Entry) → Contains entries e → ¬ P e
IsLeast entries P (Some first) = Contains entries first × P first × ((e : Entry) → Contains entries e → P e → ¬ EntryPrecedes e first)

-- after this entry, be it in the set or not; where there is none, any entry
abbrev pub IsAfter : Option Entry → Entry → Type 0
IsAfter None e = Unit {0}
IsAfter (Some from) e = EntryPrecedes from e

-- of a lower value, or of this value and a lower key
abbrev pub IsBelow : ℤ → ℕ → Entry → Type 0
IsBelow value key e = (e.value <ℤ value) ⊎ ((e.value ≡ value) × (e.key < key))

-- of this value and this key
abbrev pub IsOf : ℤ → ℕ → Entry → Type 0
IsOf value key e = (e.value ≡ value) × (e.key ≡ key)

-- no other entry of its value and its key comes after this one
abbrev pub IsLastOf : List Entry → Entry → Type 0
IsLastOf entries last = (e : Entry) → Contains entries e → IsOf last.value last.key e → ¬ EntryPrecedes last e

-- Places in the list, counted from 0.

-- the entry stands at this place
abbrev pub IsAt : List Entry → Entry → ℕ → Type 0
IsAt entries entry i = slice_get entries i ≡ Some entry

-- the one behind this place is of another value or another key than this entry
abbrev pub IsEndAt : List Entry → Entry → ℕ → Type 0
IsEndAt entries entry i = IsSomeAnd (slice_get entries (i + 1)) (λ next. ¬ IsOf entry.value entry.key next)

-- the entries from this place on have P, and none before it has
pub record IsStart (entries : List Entry) (P : Entry → Type 0) (i : ℕ) : Type 0 where
  pub in_range : i ≤ length entries
  pub before : (k : ℕ) (e : Entry) → k < i → slice_get entries k ≡ Some e → ¬ P e
  pub from : (k : ℕ) (e : Entry) → i ≤ k → slice_get entries k ≡ Some e → P e

-- the entry is not there, and would stand at this place
pub record IsGapFor (entries : List Entry) (entry : Entry) (i : ℕ) : Type 0 where
  pub in_range : i ≤ length entries
  pub before : (k : ℕ) (e : Entry) → k < i → slice_get entries k ≡ Some e → EntryPrecedes e entry
  pub after : (k : ℕ) (e : Entry) → i ≤ k → slice_get entries k ≡ Some e → EntryPrecedes entry e

-- some entries stand before this place, and all of them precede the entry
pub record GoesBehind (entries : List Entry) (entry : Entry) (i : ℕ) : Type 0 where
  pub some : 0 < i
  pub in_range : i ≤ length entries
  pub before : (k : ℕ) (e : Entry) → k < i → slice_get entries k ≡ Some e → EntryPrecedes e entry

-- the entry precedes all from this place on, and some stand there unless no others follow the list
pub record GoesBefore (entries : List Entry) (entry : Entry) (is_last : Bool) (i : ℕ) : Type 0 where
  pub after : (k : ℕ) (e : Entry) → i ≤ k → slice_get entries k ≡ Some e → EntryPrecedes entry e
  pub more : (i < length entries) ⊎ IsTrue is_last
