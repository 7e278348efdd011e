-- What a walk along an index finds that hands out keys alone. It trusts what is noted of a page, true or not.
use Rattle.std.specs.Prelude.{◌≡◌, ◌⊎◌, ℕ, ℤ, true, List, Option, Contains, MatchOption}
use Rattle.xid_circle.specs.declared.Tid.{Tid}
use Rattle.tuple_header.specs.declared.version.Header.{Header}
use Rattle.commit_status.specs.Window.{Window}
use Rattle.space_maps.specs.declared.mark.Mark.{Mark}
use Rattle.space_maps.specs.View.{mark_on, says_visible}
use Rattle.index_entries.specs.declared.entry.Entry.{Entry}
use Rattle.index_entries.specs.Sets.{IsOf}
use Rattle.heap_pages.specs.View.{PagesView}
use Rattle.index_lookup.specs.Pages.{page_slots_of}
use Rattle.index_lookup.specs.Looking.{SomeAt}
use Rattle.index_lookup.specs.declared.index_scan.IndexPosition.{IndexPosition}
use Rattle.index_lookup.specs.declared.index_scan.IndexRange.{IndexRange}
use Rattle.index_lookup.specs.Walking.{LiesIn, IsBeforePosition}

-- the visibility map says that all versions on the page of this number are seen by everybody
abbrev pub IsNotedVisible : List Mark → ℕ → Type 0
IsNotedVisible marks n = says_visible (mark_on marks n) ≡ true

-- the page of a place is noted so, or a version in the chain of the place is seen
abbrev pub PlaceShows : Window → (Header → Type 0) → PagesView → Tid → Type 0
PlaceShows w seen pages p = IsNotedVisible pages.marks p.page ⊎ SomeAt w seen (page_slots_of pages) p

-- an entry of this value and this key leads to such a place
pub record KeyShows (w : Window) (seen : Header → Type 0) (pages : PagesView) (entries : List Entry) (value : ℤ) (key : ℕ) : Type 0 where
  pub entry : Entry
  pub there : Contains entries entry
  pub of : IsOf value key entry
  pub shows : PlaceShows w seen pages entry.tid

-- an entry of the span stands at this place, whose key shows; before it none does
pub record IsNextKey (w : Window) (seen : Header → Type 0) (pages : PagesView) (entries : List Entry) (span : IndexRange) (position : IndexPosition) : Type 0 where
  pub entry : Entry
  pub there : Contains entries entry
  pub lies : LiesIn span entry
  pub value : position.value ≡ entry.value
  pub key : position.key ≡ entry.key
  pub shows : KeyShows w seen pages entries position.value position.key
  pub none_before : (e : Entry) → Contains entries e → LiesIn span e → IsBeforePosition e position → ¬ KeyShows w seen pages entries e.value e.key

-- the key of no entry of the span shows
abbrev pub NoKeyLeft : Window → (Header → Type 0) → PagesView → List Entry → IndexRange → Type 0
NoKeyLeft w seen pages entries span = (e : Entry) → Contains entries e → LiesIn span e → ¬ KeyShows w seen pages entries e.value e.key

abbrev pub NextKey : Window → (Header → Type 0) → PagesView → List Entry → IndexRange → Option IndexPosition → Type 0
NextKey w seen pages entries span answer = MatchOption answer (NoKeyLeft w seen pages entries span) (IsNextKey w seen pages entries span)
