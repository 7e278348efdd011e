-- A search that goes along the entries for the first of something, and keeps what it has found.
use Rattle.std.proofs.Common.{◌≡◌, ◌⊎◌, ℕ, ℤ, ◌+◌, ◌≤◌, List, length, map, Option, Some, None, refl, sym, ◌∙◌, subst, inl, inr, slice_get}
use Rattle.std.specs.List.{Contains}
use Rattle.std.specs.Prelude.{MatchOption}
use Rattle.std.proofs.lemmas.Option.{none-some, same_Some}
use Rattle.xid_circle.specs.declared.Tid.{Tid}
use Rattle.xid_circle.specs.declared.Xid.{Xid}
use Rattle.tuple_header.specs.declared.version.Header.{Header}
use Rattle.page_sheet.specs.declared.slot.Slot.{Slot}
use Rattle.page_slots.specs.View.{PageView}
use Rattle.commit_status.specs.Window.{Window}
use Rattle.hot_chain.specs.Chain.{has_aborted, IsChain, IsSeenIn}
use Rattle.index_entries.specs.declared.entry.Entry.{Entry}
use Rattle.index_entries.specs.Order.{EntryPrecedes, IsAscending}
use Rattle.index_entries.specs.Sets.{IsOf}
use Rattle.index_lookup.specs.Looking.{IsKept, IsPlaceAmong, IsNextOf, FetchedAt, IsSeenAt, SeenAt, IsFirstPlace, FirstPlace, SomeAt, SomeOf, IsIdAt, IsIdOf}
use Rattle.index_lookup.specs.declared.write_check.WriteCheck.{WriteCheck}
use Rattle.index_lookup.proofs.Among.{none-of}
use Rattle.index_lookup.proofs.PageLists.{slots-there}
use Rattle.index_lookup.proofs.Fetching.{none-on_page}
use Rattle.index_lookup.proofs.Turns.{Looked, looked-first, looked-next, looked-end, looked-none, looked-before}

pub kept-same : {A : Type 0} (before : Option A) (Here : Option A → Type 0) → Here None → IsKept before Here before
kept-same None Here here = here
kept-same (Some x) Here here = refl

pub kept-map : {A : Type 0} (before after : Option A) (On Here : Option A → Type 0) → (On after → Here after) → IsKept before On after → IsKept before Here after
kept-map None after On Here go kept = go kept
kept-map (Some x) after On Here go kept = kept

none-before : {A : Type 0} (before after : Option A) (Here : Option A → Type 0) → IsKept before Here after → after ≡ None → before ≡ None
none-before None after Here kept none = refl
none-before (Some x) after Here kept none = absurd (none-some x (sym none ∙ kept))

-- the place in a chain, on its page
pub place-on_page : (w : Window) (seen : Header → Type 0) (pages : List PageView) (p : Tid) (page : PageView) (chain : List ℕ) (answer : Option Tid) → slice_get pages p.page ≡ Some page
    → IsChain (has_aborted w) page.slots p.slot chain
    → IsPlaceAmong seen p.page page.slots chain answer → SeenAt w seen (map (λ (q : PageView). q.slots) pages) p answer
place-on_page w seen pages p page chain None at is none = none-on_page w seen pages p page chain at is none
place-on_page w seen pages p page chain (Some q) at is found =
    let same = slots-there pages p.page page at in
    record {
      page = found.0;
      chain = chain;
      is_chain = subst (λ slots. IsChain (has_aborted w) slots p.slot chain) (sym same) is;
      seen_in = subst (λ slots. IsSeenIn seen slots chain q.slot) (sym same) found.1;
    }

-- if nothing was found so far, there is nothing at this entry
abbrev pub IfNothing : {A : Type 0} → (Entry → Type 0) → Option A → Entry → Type 0
IfNothing HasNone answer e = answer ≡ None → HasNone e

-- after so many turns: what was found is right, and if nothing was, then no entry before the next one has anything
pub record Searched {A : Type 0} (entries : List Entry) (value : ℤ) (key : ℕ) (HasNone : Entry → Type 0) (IsFound : A → Type 0) (turn : ℕ) (next : Option Entry) (answer : Option A) : Type 0 where
  pub looked : Looked entries value key (IfNothing HasNone answer) turn next
  pub found : (x : A) → answer ≡ Some x → IsFound x

looked-map : (entries : List Entry) (value : ℤ) (key : ℕ) (P Q : Entry → Type 0) (turn : ℕ) (next : Option Entry) → ((e : Entry) → P e → Q e) → Looked entries value key P turn next
    → Looked entries value key Q turn next
looked-map entries value key P Q turn next go l = record {
  there = l.there;
  of = l.of;
  place = l.place;
  none_before = λ e there of before. go e (l.none_before e there of before);
}

pub searched-first : {A : Type 0} (entries : List Entry) (value : ℤ) (key : ℕ) (HasNone : Entry → Type 0) (IsFound : A → Type 0) (next : Option Entry) → IsNextOf entries value key None next
    → Searched {A = A} entries value key HasNone IsFound 0 next None
searched-first {A = A} entries value key HasNone IsFound next least = record {
  looked = looked-first entries value key (IfNothing {A = A} HasNone None) next least;
  found = λ x is. absurd (none-some x is);
}

pub searched-next : {A : Type 0} (entries : List Entry) (value : ℤ) (key : ℕ) (HasNone : Entry → Type 0) (IsFound : A → Type 0) (IsHere : A → Type 0) (turn : ℕ) (at : Option Entry) (from : Entry)
    (next : Option Entry) (before after : Option A) → IsAscending entries
    → Searched entries value key HasNone IsFound turn at before → at ≡ Some from → IsNextOf entries value key (Some from) next
    → IsKept before (λ answer. MatchOption answer (HasNone from) IsHere) after
    → (Contains entries from → IsOf value key from → ((e : Entry) → Contains entries e → IsOf value key e → EntryPrecedes e from → before ≡ None → HasNone e) → (x : A) → before ≡ None → IsHere x → IsFound x)
    → Searched entries value key HasNone IsFound (turn + 1) next after
searched-next {A = A} entries value key HasNone IsFound IsHere turn at from next before after up s is least kept here = record {
  looked = looked-next entries value key (IfNothing HasNone after) turn at from next up
      (looked-map entries value key (IfNothing HasNone before) (IfNothing HasNone after) turn at
      (λ e none gone. none (none-before before after (λ answer. MatchOption answer (HasNone from) IsHere) kept gone)) s.looked)
      is (none-here before after kept) least;
  found = λ x got. by before after refl kept s.found x got;
}
  where
    none-here : (b a : Option A) → IsKept b (λ answer. MatchOption answer (HasNone from) IsHere) a → a ≡ None → HasNone from
    none-here None None k none = k
    none-here None (Some x) k none = absurd (none-some x (sym none))
    none-here (Some y) a k none = absurd (none-some y (sym none ∙ k))

    met : (x : A) → before ≡ None → IsHere x → IsFound x
    met = here (s.looked.there from is) (s.looked.of from is) (looked-before entries value key (IfNothing HasNone before) turn at from s.looked is)

    by : (b a : Option A) → before ≡ b → IsKept b (λ answer. MatchOption answer (HasNone from) IsHere) a → ((x : A) → b ≡ Some x → IsFound x) → (x : A) → a ≡ Some x → IsFound x
    by None None same k old x got = absurd (none-some x got)
    by None (Some y) same k old x got = subst IsFound (same_Some y x got) (met y same k)
    by (Some y) a same k old x got = old x (sym k ∙ got)

ended : {A : Type 0} (HasNone : Type 0) (IsFound : A → Type 0) (answer : Option A) → (answer ≡ None → HasNone) → ((x : A) → answer ≡ Some x → IsFound x) → MatchOption answer HasNone IsFound
ended HasNone IsFound None none found = none refl
ended HasNone IsFound (Some x) none found = found x refl

pub searched-end : {A : Type 0} (entries : List Entry) (value : ℤ) (key : ℕ) (HasNone : Entry → Type 0) (IsFound : A → Type 0) (turn : ℕ) (next : Option Entry) (answer : Option A)
    → Searched entries value key HasNone IsFound turn next answer → length entries ≤ turn
    → MatchOption answer ((e : Entry) → Contains entries e → IsOf value key e → HasNone e) IsFound
searched-end entries value key HasNone IsFound turn next answer s all =
    ended ((e : Entry) → Contains entries e → IsOf value key e → HasNone e) IsFound answer
    (λ none e there of. looked-end entries value key (IfNothing HasNone answer) turn next s.looked all e there of none) s.found

pub searched-none : {A : Type 0} (entries : List Entry) (value : ℤ) (key : ℕ) (HasNone : Entry → Type 0) (IsFound : A → Type 0) (turn : ℕ) (next : Option Entry) (answer : Option A)
    → Searched entries value key HasNone IsFound turn next answer → next ≡ None
    → MatchOption answer ((e : Entry) → Contains entries e → IsOf value key e → HasNone e) IsFound
searched-none entries value key HasNone IsFound turn next answer s none =
    ended ((e : Entry) → Contains entries e → IsOf value key e → HasNone e) IsFound answer
    (λ gone e there of. looked-none entries value key (IfNothing HasNone answer) turn next s.looked none e there of gone) s.found

-- For the place that a reader reads.

abbrev pub PlaceSearched : Window → (Header → Type 0) → List (List Slot) → List Entry → ℤ → ℕ → ℕ → Option Entry → Option Tid → Type 0
PlaceSearched w seen pages entries value key = Searched entries value key (λ e. FetchedAt w seen pages e.tid None) (IsFirstPlace w seen pages entries value key)

pub place-next : (w : Window) (seen : Header → Type 0) (pages : List (List Slot)) (entries : List Entry) (value : ℤ) (key turn : ℕ) (at : Option Entry) (from : Entry) (next : Option Entry)
    (before after : Option Tid) → IsAscending entries → PlaceSearched w seen pages entries value key turn at before → at ≡ Some from → IsNextOf entries value key (Some from) next
    → IsKept before (SeenAt w seen pages from.tid) after → PlaceSearched w seen pages entries value key (turn + 1) next after
place-next w seen pages entries value key turn at from next before after up s is least kept =
    searched-next entries value key (λ e. FetchedAt w seen pages e.tid None) (IsFirstPlace w seen pages entries value key) (IsSeenAt w seen pages from.tid) turn at from next before after
    up s is least kept
    (λ there of none x first seen_at. record { entry = from; there = there; of = of; seen_at = seen_at; none_before = λ e in_entries e_of less. none e in_entries e_of less first })

-- For an id.

abbrev pub IdSearched : Window → (ℕ → Header → Type 0) → List (List Slot) → List Entry → ℤ → ℕ → ℕ → Option Entry → Option Xid → Type 0
IdSearched w P pages entries value key = Searched entries value key (λ e. (x : ℕ) → ¬ SomeAt w (P x) pages e.tid) (λ (x : Xid). SomeOf w (P x.0) pages entries value key)

pub id-next : (w : Window) (P : ℕ → Header → Type 0) (pages : List (List Slot)) (entries : List Entry) (value : ℤ) (key turn : ℕ) (at : Option Entry) (from : Entry) (next : Option Entry)
    (before after : Option Xid) → IsAscending entries → IdSearched w P pages entries value key turn at before → at ≡ Some from → IsNextOf entries value key (Some from) next
    → IsKept before (IsIdAt w P pages from.tid) after → IdSearched w P pages entries value key (turn + 1) next after
id-next w P pages entries value key turn at from next before after up s is least kept =
    searched-next entries value key (λ e. (x : ℕ) → ¬ SomeAt w (P x) pages e.tid) (λ (x : Xid). SomeOf w (P x.0) pages entries value key) (λ (x : Xid). SomeAt w (P x.0) pages from.tid)
    turn at from next before after up s is least kept
    (λ there of none x first some. record { entry = from; there = there; of = of; at = some })

pub id-of : (w : Window) (P : ℕ → Header → Type 0) (pages : List (List Slot)) (entries : List Entry) (value : ℤ) (key : ℕ) (answer : Option Xid)
    → MatchOption answer ((e : Entry) → Contains entries e → IsOf value key e → (x : ℕ) → ¬ SomeAt w (P x) pages e.tid) (λ x. SomeOf w (P x.0) pages entries value key)
    → IsIdOf w P pages entries value key answer
id-of w P pages entries value key None none = none-of w P pages entries value key none
id-of w P pages entries value key (Some x) some = some

-- For all that a session has to know of a key.

pub record CheckSearched (w : Window) (seen : Header → Type 0) (Newer Other : ℕ → Header → Type 0) (pages : List (List Slot)) (entries : List Entry) (value : ℤ) (key turn : ℕ) (next : Option Entry)
    (check : WriteCheck) : Type 0 where
  pub place : PlaceSearched w seen pages entries value key turn next check.place
  pub newer_commit : IdSearched w Newer pages entries value key turn next check.newer_commit
  pub other_writer : IdSearched w Other pages entries value key turn next check.other_writer

pub check-first : (w : Window) (seen : Header → Type 0) (Newer Other : ℕ → Header → Type 0) (pages : List (List Slot)) (entries : List Entry) (value : ℤ) (key : ℕ) (next : Option Entry)
    → IsNextOf entries value key None next → CheckSearched w seen Newer Other pages entries value key 0 next (record { place = None; newer_commit = None; other_writer = None })
check-first w seen Newer Other pages entries value key next least = record {
  place = searched-first entries value key (λ e. FetchedAt w seen pages e.tid None) (IsFirstPlace w seen pages entries value key) next least;
  newer_commit = searched-first entries value key (λ e. (x : ℕ) → ¬ SomeAt w (Newer x) pages e.tid) (λ (x : Xid). SomeOf w (Newer x.0) pages entries value key) next least;
  other_writer = searched-first entries value key (λ e. (x : ℕ) → ¬ SomeAt w (Other x) pages e.tid) (λ (x : Xid). SomeOf w (Other x.0) pages entries value key) next least;
}

pub check-next : (w : Window) (seen : Header → Type 0) (Newer Other : ℕ → Header → Type 0) (pages : List (List Slot)) (entries : List Entry) (value : ℤ) (key turn : ℕ) (at : Option Entry)
    (from : Entry) (next : Option Entry) (before after : WriteCheck) → IsAscending entries → CheckSearched w seen Newer Other pages entries value key turn at before → at ≡ Some from
    → IsNextOf entries value key (Some from) next → IsKept before.place (SeenAt w seen pages from.tid) after.place → IsKept before.newer_commit (IsIdAt w Newer pages from.tid) after.newer_commit
    → IsKept before.other_writer (IsIdAt w Other pages from.tid) after.other_writer → CheckSearched w seen Newer Other pages entries value key (turn + 1) next after
check-next w seen Newer Other pages entries value key turn at from next before after up s is least place newer_commit other_writer = record {
  place = place-next w seen pages entries value key turn at from next before.place after.place up s.place is least place;
  newer_commit = id-next w Newer pages entries value key turn at from next before.newer_commit after.newer_commit up s.newer_commit is least newer_commit;
  other_writer = id-next w Other pages entries value key turn at from next before.other_writer after.other_writer up s.other_writer is least other_writer;
}

-- the search has come to its end
searched-all : {A : Type 0} (entries : List Entry) (value : ℤ) (key : ℕ) (HasNone : Entry → Type 0) (IsFound : A → Type 0) (turn : ℕ) (next : Option Entry) (answer : Option A)
    → Searched entries value key HasNone IsFound turn next answer → (length entries ≤ turn) ⊎ (next ≡ None)
    → MatchOption answer ((e : Entry) → Contains entries e → IsOf value key e → HasNone e) IsFound
searched-all entries value key HasNone IsFound turn next answer s (inl all) = searched-end entries value key HasNone IsFound turn next answer s all
searched-all entries value key HasNone IsFound turn next answer s (inr none) = searched-none entries value key HasNone IsFound turn next answer s none

-- what the search has found in the end, of a value that is stored as this
pub check-place : (w : Window) (seen : Header → Type 0) (Newer Other : ℕ → Header → Type 0) (pages : List (List Slot)) (entries : List Entry) (stored value : ℤ) (key turn : ℕ) (next : Option Entry)
    (check : WriteCheck) → stored ≡ value → CheckSearched w seen Newer Other pages entries stored key turn next check → (length entries ≤ turn) ⊎ (next ≡ None)
    → FirstPlace w seen pages entries value key check.place
check-place w seen Newer Other pages entries stored value key turn next check same s all =
    subst (λ v. FirstPlace w seen pages entries v key check.place) same
    (searched-all entries stored key (λ e. FetchedAt w seen pages e.tid None) (IsFirstPlace w seen pages entries stored key) turn next check.place s.place all)

found-id : (w : Window) (P : ℕ → Header → Type 0) (pages : List (List Slot)) (entries : List Entry) (stored value : ℤ) (key turn : ℕ) (next : Option Entry) (answer : Option Xid) → stored ≡ value
    → IdSearched w P pages entries stored key turn next answer → (length entries ≤ turn) ⊎ (next ≡ None) → IsIdOf w P pages entries value key answer
found-id w P pages entries stored value key turn next answer same s all =
    subst (λ v. IsIdOf w P pages entries v key answer) same
    (id-of w P pages entries stored key answer
    (searched-all entries stored key (λ e. (x : ℕ) → ¬ SomeAt w (P x) pages e.tid) (λ (x : Xid). SomeOf w (P x.0) pages entries stored key) turn next answer s all))

pub check-newer_commit : (w : Window) (seen : Header → Type 0) (Newer Other : ℕ → Header → Type 0) (pages : List (List Slot)) (entries : List Entry) (stored value : ℤ) (key turn : ℕ) (next : Option Entry)
    (check : WriteCheck) → stored ≡ value → CheckSearched w seen Newer Other pages entries stored key turn next check → (length entries ≤ turn) ⊎ (next ≡ None)
    → IsIdOf w Newer pages entries value key check.newer_commit
check-newer_commit w seen Newer Other pages entries stored value key turn next check same s all = found-id w Newer pages entries stored value key turn next check.newer_commit same s.newer_commit all

pub check-other_writer : (w : Window) (seen : Header → Type 0) (Newer Other : ℕ → Header → Type 0) (pages : List (List Slot)) (entries : List Entry) (stored value : ℤ) (key turn : ℕ) (next : Option Entry)
    (check : WriteCheck) → stored ≡ value → CheckSearched w seen Newer Other pages entries stored key turn next check → (length entries ≤ turn) ⊎ (next ≡ None)
    → IsIdOf w Other pages entries value key check.other_writer
check-other_writer w seen Newer Other pages entries stored value key turn next check same s all = found-id w Other pages entries stored value key turn next check.other_writer same s.other_writer all
