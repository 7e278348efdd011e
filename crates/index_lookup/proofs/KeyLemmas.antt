-- Keys that show, of one value and one key, and along a walk.
use Rattle.std.proofs.Common.{inl, inr, ⊎_elim, ℕ, ℤ, List, Some, None, subst, Contains}
use Rattle.tuple_header.specs.declared.version.Header.{Header}
use Rattle.commit_status.specs.Window.{Window}
use Rattle.index_entries.specs.declared.entry.Entry.{Entry}
use Rattle.index_entries.specs.Sets.{IsLeast, IsOf}
use Rattle.heap_pages.specs.View.{PagesView}
use Rattle.index_lookup.specs.declared.index_scan.IndexPosition.{IndexPosition}
use Rattle.index_lookup.specs.declared.index_scan.IndexRange.{IndexRange}
use Rattle.hot_chain.specs.Chain.{has_aborted}
use Rattle.hot_chain.proofs.Chains.{chain-one}
use Rattle.page_sheet.specs.declared.slot.Slot.{Slot}
use Rattle.xid_circle.specs.declared.Tid.{Tid}
use Rattle.index_lookup.specs.Pages.{page_slots_of, slots_on}
use Rattle.index_lookup.specs.Looking.{FetchedAt, SomeAmong, SomeAt}
use Rattle.index_lookup.specs.Walking.{LiesIn}
use Rattle.index_lookup.specs.Keys.{IsNotedVisible, PlaceShows, KeyShows, IsNextKey}
use Rattle.index_lookup.proofs.SpanLemmas.{IsPlaceOf, lower-precedes}
use Rattle.index_lookup.proofs.WalkLemmas.{Walked, before-lower}

-- At one place.

none-seen : (w : Window) (seen : Header → Type 0) (pages : List (List Slot)) (p : Tid) → FetchedAt w seen pages p None → ¬ SomeAt w seen pages p
none-seen w seen pages p (chain, is, none) other =
    let one = chain-one (has_aborted w) (slots_on pages p.page) p.slot other.chain chain other.is_chain is in
    let some = subst (λ c. SomeAmong seen (slots_on pages p.page) c) one other.some in
    none some.place some.version some.within some.there some.has

pub place-hides : (w : Window) (seen : Header → Type 0) (pages : PagesView) (p : Tid) → ¬ IsNotedVisible pages.marks p.page → FetchedAt w seen (page_slots_of pages) p None → ¬ PlaceShows w seen pages p
place-hides w seen pages p unnoted none (inl noted) = unnoted noted
place-hides w seen pages p unnoted none (inr some) = none-seen w seen (page_slots_of pages) p none some

-- Along entries.

-- no entry of this value and this key shows it
pub none-shows : (w : Window) (seen : Header → Type 0) (pages : PagesView) (entries : List Entry) (value : ℤ) (key : ℕ)
    → ((e : Entry) → Contains entries e → IsOf value key e → ¬ PlaceShows w seen pages e.tid) → ¬ KeyShows w seen pages entries value key
none-shows w seen pages entries value key none shows = none shows.entry shows.there shows.of shows.shows

pub walked-key : (w : Window) (seen : Header → Type 0) (pages : PagesView) (entries : List Entry) (span left : IndexRange) (turn : ℕ) (f : Entry) (position : IndexPosition)
    → Walked entries (λ value key. ¬ KeyShows w seen pages entries value key) span left turn → IsLeast entries (LiesIn left) (Some f) → IsPlaceOf f position
    → KeyShows w seen pages entries f.value f.key → IsNextKey w seen pages entries span position
walked-key w seen pages entries span left turn f position l least is shows = record {
  entry = f;
  there = least.0;
  lies = l.of f least.1;
  value = is.0;
  key = is.1;
  shows = rw (is.0, is.1) shows;
  none_before = λ e there lies before. ⊎_elim
      (λ in_left. absurd (least.2 e there in_left (lower-precedes e f (before-lower f e position is before))))
      (λ has. has)
      (l.rest e there lies);
}
