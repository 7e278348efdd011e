-- What a search along the entries of one value and one key finds. It goes by entries and chains alone, sound or not.
use Rattle.std.specs.Prelude.{◌≡◌, ℕ, ℤ, ◌<◌, List, length, Option, Some, None, slice_index, Contains, MatchOption}
use Rattle.xid_circle.specs.declared.Tid.{Tid}
use Rattle.xid_circle.specs.declared.Xid.{Xid}
use Rattle.tuple_header.specs.Version.{Version}
use Rattle.tuple_header.specs.declared.version.Header.{Header}
use Rattle.tuple_header.specs.declared.version.Row.{Row}
use Rattle.page_sheet.specs.declared.slot.Slot.{Slot}
use Rattle.page_sheet.specs.Slots.{version_at, row_at}
use Rattle.commit_status.specs.Window.{Window}
use Rattle.hot_chain.specs.Chain.{has_aborted, IsChain, NoneSeen, IsSeenIn, Fetched}
use Rattle.index_entries.specs.declared.entry.Entry.{Entry}
use Rattle.index_entries.specs.Order.{EntryPrecedes}
use Rattle.index_entries.specs.Sets.{IsLeast, IsAfter, IsOf}
use Rattle.index_lookup.specs.Pages.{slots_on}

-- the first entry of this value and this key that comes after another one, or the first of all
abbrev pub IsNextOf : List Entry → ℤ → ℕ → Option Entry → Option Entry → Type 0
IsNextOf entries value key from answer = IsLeast entries (λ e. IsOf value key e × IsAfter from e) answer

-- the entry is there, and is the first of its value and its key
abbrev pub IsFirstOf : List Entry → Entry → Type 0
IsFirstOf entries first = IsNextOf entries first.value first.key None (Some first)

-- the first version that is seen in the chain of a place, if there is one
abbrev pub FetchedAt : Window → (Header → Type 0) → List (List Slot) → Tid → Option Version → Type 0
FetchedAt w seen pages p answer = Fetched (has_aborted w) seen (slots_on pages p.page) p.slot answer

abbrev pub NoneFound : Window → (Header → Type 0) → List (List Slot) → List Entry → ℤ → ℕ → Type 0
NoneFound w seen pages entries value key = (e : Entry) → Contains entries e → IsOf value key e → FetchedAt w seen pages e.tid None

-- The place of what is found.

-- the first version that is seen in the chain of p is at q
pub record IsSeenAt (w : Window) (seen : Header → Type 0) (pages : List (List Slot)) (p q : Tid) : Type 0 where
  pub page : q.page ≡ p.page
  pub chain : List ℕ
  pub is_chain : IsChain (has_aborted w) (slots_on pages p.page) p.slot chain
  pub seen_in : IsSeenIn seen (slots_on pages p.page) chain q.slot

abbrev pub SeenAt : Window → (Header → Type 0) → List (List Slot) → Tid → Option Tid → Type 0
SeenAt w seen pages p answer = MatchOption answer (FetchedAt w seen pages p None) (IsSeenAt w seen pages p)

-- the place of the first of these slots, on the page of this number, whose version is seen, if there is one
abbrev pub IsPlaceAmong : (Header → Type 0) → ℕ → List Slot → List ℕ → Option Tid → Type 0
IsPlaceAmong seen number slots chain answer = MatchOption answer (NoneSeen seen slots chain) (λ q. (q.page ≡ number) × IsSeenIn seen slots chain q.slot)

-- the place of the first version that is seen in the chain of p's slot, on its page, if there is one
abbrev pub IsPlaceAlong : Window → (Header → Type 0) → List Slot → Tid → Option Tid → Type 0
IsPlaceAlong w seen slots p answer = (chain : List ℕ) × IsChain (has_aborted w) slots p.slot chain × IsPlaceAmong seen p.page slots chain answer

-- the place of this version, if it is seen
abbrev pub IsPlaceIn : (Header → Type 0) → Tid → Header → Option Tid → Type 0
IsPlaceIn seen place h answer = MatchOption answer (¬ seen h) (λ q. (q ≡ place) × seen h)

-- the place of the first version that is seen, by the entries in their order, and by the chain of each
pub record IsFirstPlace (w : Window) (seen : Header → Type 0) (pages : List (List Slot)) (entries : List Entry) (value : ℤ) (key : ℕ) (q : Tid) : Type 0 where
  pub entry : Entry
  pub there : Contains entries entry
  pub of : IsOf value key entry
  pub seen_at : IsSeenAt w seen pages entry.tid q
  pub none_before : (e : Entry) → Contains entries e → IsOf value key e → EntryPrecedes e entry → FetchedAt w seen pages e.tid None

abbrev pub FirstPlace : Window → (Header → Type 0) → List (List Slot) → List Entry → ℤ → ℕ → Option Tid → Type 0
FirstPlace w seen pages entries value key answer = MatchOption answer (NoneFound w seen pages entries value key) (IsFirstPlace w seen pages entries value key)

-- the row of that version
abbrev pub IsFirstFound : Window → (Header → Type 0) → List (List Slot) → List Entry → ℤ → ℕ → Row → Type 0
IsFirstFound w seen pages entries value key row = (q : Tid) × IsFirstPlace w seen pages entries value key q × (row_at (slots_on pages q.page) q.slot ≡ Some row)

abbrev pub FirstFound : Window → (Header → Type 0) → List (List Slot) → List Entry → ℤ → ℕ → Option Row → Type 0
FirstFound w seen pages entries value key answer = MatchOption answer (NoneFound w seen pages entries value key) (IsFirstFound w seen pages entries value key)

-- Versions that ids made or deleted.

-- a version in one of these slots has P
pub record SomeAmong (P : Header → Type 0) (slots : List Slot) (chain : List ℕ) : Type 0 where
  pub place : ℕ
  pub version : Version
  pub within : place < length chain
  pub there : version_at slots (slice_index chain place) ≡ Some version
  pub has : P version.header

-- a version in the chain of a place
pub record SomeAt (w : Window) (P : Header → Type 0) (pages : List (List Slot)) (p : Tid) : Type 0 where
  pub chain : List ℕ
  pub is_chain : IsChain (has_aborted w) (slots_on pages p.page) p.slot chain
  pub some : SomeAmong P (slots_on pages p.page) chain

-- a version in the chain to which an entry of this value and this key leads
pub record SomeOf (w : Window) (P : Header → Type 0) (pages : List (List Slot)) (entries : List Entry) (value : ℤ) (key : ℕ) : Type 0 where
  pub entry : Entry
  pub there : Contains entries entry
  pub of : IsOf value key entry
  pub at : SomeAt w P pages entry.tid

-- An id is answered that P says of a version there, or there is none.

abbrev pub IsIdIn : (ℕ → Header → Type 0) → Header → Option Xid → Type 0
IsIdIn P h answer = MatchOption answer ((x : ℕ) → ¬ P x h) (λ x. P x.0 h)

abbrev pub IsIdAmong : (ℕ → Header → Type 0) → List Slot → List ℕ → Option Xid → Type 0
IsIdAmong P slots chain answer = MatchOption answer ((x : ℕ) → ¬ SomeAmong (P x) slots chain) (λ x. SomeAmong (P x.0) slots chain)

abbrev pub IsIdAt : Window → (ℕ → Header → Type 0) → List (List Slot) → Tid → Option Xid → Type 0
IsIdAt w P pages p answer = MatchOption answer ((x : ℕ) → ¬ SomeAt w (P x) pages p) (λ x. SomeAt w (P x.0) pages p)

abbrev pub IsIdOf : Window → (ℕ → Header → Type 0) → List (List Slot) → List Entry → ℤ → ℕ → Option Xid → Type 0
IsIdOf w P pages entries value key answer = MatchOption answer
    ((x : ℕ) → ¬ SomeOf w (P x) pages entries value key)
    (λ x. SomeOf w (P x.0) pages entries value key)

-- what was found before stays; where nothing was, this is said of the answer
abbrev pub IsKept : {A : Type 0} → Option A → (Option A → Type 0) → Option A → Type 0
IsKept before Here after = MatchOption before (Here after) (λ x. after ≡ Some x)
