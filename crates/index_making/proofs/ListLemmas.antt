-- The entries of the current rows, as far as the pages were gone through.
use Rattle.std.proofs.Common.{◌≡◌, ℕ, zero, suc, ◌+◌, ◌<◌, ◌≤◌, false, inl, inr, List, [], map, length, Some, refl, sym, ap, ◌∙◌, subst, ⊎_elim, arith, slice_get}
use Rattle.std.specs.List.{Contains}
use Rattle.std.proofs.lemmas.Bool.{true≢false, cases_lt}
use Rattle.std.proofs.lemmas.Option.{slice_get_past}
use Rattle.xid_circle.specs.declared.Tid.{Tid}
use Rattle.tuple_header.specs.Version.{Version}
use Rattle.page_sheet.specs.declared.slot.Slot.{Slot}
use Rattle.page_slots.specs.View.{PageView}
use Rattle.commit_status.specs.Window.{Window}
use Rattle.hot_chain.specs.Chain.{is_root, is_root_in}
use Rattle.index_entries.specs.declared.entry.Entry.{Entry}
use Rattle.index_lookup.specs.Pages.{slots_on}
use Rattle.index_lookup.proofs.PageLists.{slots-there, slots-none}
use Rattle.table_indexes.specs.Indexes.{index_entry_of}
use Rattle.index_making.specs.Making.{LeadsToCurrent, IsOfCurrent, ListsCurrent, SomeCurrent}
use Rattle.index_making.specs.Filling.{HaveSame, HoldsEntry}
use Rattle.index_making.specs.Listing.{IsFirstCurrent, SomeFirstCurrent, AddsCurrent, IsPlaceBefore, ListsUpTo}
use Rattle.index_making.proofs.CurrentLemmas.{first-leads}

-- Places that hold no root.

unrooted : (slots : List Slot) (n : ℕ) → length slots < n → is_root slots n ≡ false
unrooted slots zero past = refl
unrooted slots (suc i) past = ap is_root_in (slice_get_past slots i (omega arith))

nowhere : (n : ℕ) → is_root [] n ≡ false
nowhere zero = refl
nowhere (suc n) = refl

not-past : (w : Window) (pages : List (List Slot)) (place : Tid) (t : Version) → length (slots_on pages place.page) < place.slot → LeadsToCurrent w pages place t → ⊥
not-past w pages place t past leads = true≢false (sym leads.leads.starts ∙ unrooted (slots_on pages place.page) place.slot past)

not-zero : (w : Window) (pages : List (List Slot)) (place : Tid) (t : Version) → place.slot ≡ 0 → LeadsToCurrent w pages place t → ⊥
not-zero w pages place t first leads = true≢false (sym leads.leads.starts ∙ ap (is_root (slots_on pages place.page)) first)

-- From the beginning to the end.

abbrev HasEntryAt : List Entry → Tid → Type 0
HasEntryAt entries place = (e : Entry) × Contains entries e × (e.tid ≡ place)

-- no page has a slot 0
pub page-begun : (w : Window) (pages : List (List Slot)) (number p : ℕ) (entries : List Entry) → ListsUpTo w pages number p 0 entries → ListsUpTo w pages number p 1 entries
page-begun w pages number p entries lists = record { each = by; only = lists.only }
  where
    by : (place : Tid) (t : Version) → IsPlaceBefore p 1 place → LeadsToCurrent w pages place t → HasEntryAt entries place
    by place t (IsPlaceBefore.earlier_page lt) leads = lists.each place t (IsPlaceBefore.earlier_page lt) leads
    by place t (IsPlaceBefore.earlier_slot same lt) leads = absurd (not-zero w pages place t (omega arith) leads)

-- after the last slot of a page comes the next page
pub page-ended : (w : Window) (pages : List (List Slot)) (number p slot : ℕ) (entries : List Entry) → length (slots_on pages p) < slot → ListsUpTo w pages number p slot entries
    → ListsUpTo w pages number (p + 1) 0 entries
page-ended w pages number p slot entries past lists = record { each = by; only = lists.only }
  where
    by-page : (place : Tid) (t : Version) → place.page < p + 1 → LeadsToCurrent w pages place t → HasEntryAt entries place
    by-page place t lt leads = elim (cases_lt place.page p) [
      | inl below ↦ lists.each place t (IsPlaceBefore.earlier_page below) leads
      | inr above ↦
          let same : place.page ≡ p = omega (arith, lt, above) in
          elim (cases_lt place.slot slot) [
            | inl within ↦ lists.each place t (IsPlaceBefore.earlier_slot same within) leads
            | inr behind ↦ absurd (not-past w pages place t
                (let long : length (slots_on pages place.page) < slot = subst (λ n. length (slots_on pages n) < slot) (sym same) past in omega (arith, long, behind)) leads)
          ]
    ]

    by : (place : Tid) (t : Version) → IsPlaceBefore (p + 1) 0 place → LeadsToCurrent w pages place t → HasEntryAt entries place
    by place t (IsPlaceBefore.earlier_page lt) leads = by-page place t lt leads
    by place t (IsPlaceBefore.earlier_slot same lt) leads = absurd (omega arith)

-- behind the last page there are no slots
pub all-listed : (w : Window) (pages : List PageView) (number p : ℕ) (entries : List Entry) → length pages ≤ p → ListsUpTo w (map (λ (q : PageView). q.slots) pages) number p 0 entries
    → ListsCurrent w (map (λ (q : PageView). q.slots) pages) number entries
all-listed w pages number p entries past lists = record { each = by; only = lists.only }
  where
    by : (place : Tid) (t : Version) → LeadsToCurrent w (map (λ (q : PageView). q.slots) pages) place t → HasEntryAt entries place
    by place t leads = elim (cases_lt place.page p) [
      | inl below ↦ lists.each place t (IsPlaceBefore.earlier_page below) leads
      | inr above ↦
          let none = slots-none pages place.page (slice_get_past pages place.page (omega (arith, above, past))) in
          absurd (true≢false (sym leads.leads.starts ∙ ap (λ (slots : List Slot). is_root slots place.slot) none ∙ nowhere place.slot))
    ]

-- One place more.

abbrev tid : ℕ → ℕ → Tid
tid p slot = record { page = p; slot = slot }

the-place : (place : Tid) (p slot : ℕ) → place.page ≡ p → place.slot ≡ slot → tid p slot ≡ place
the-place place p slot page number = ap (λ n. tid n slot) (sym page) ∙ ap (λ n. tid place.page n) (sym number)

-- an entry is there still, or it is that of the place
kept : (entries entries' : List Entry) (place : Tid) → ((e : Entry) → Contains entries e → Contains entries' e) → HasEntryAt entries place → HasEntryAt entries' place
kept entries entries' place stays (e, there, at) = (e, stays e there, at)

-- what is looked at now is one place more
each-more : (w : Window) (pages : List (List Slot)) (number p slot : ℕ) (entries entries' : List Entry) → ListsUpTo w pages number p slot entries
    → ((e : Entry) → Contains entries e → Contains entries' e)
    → ((t : Version) → LeadsToCurrent w pages (record { page = p; slot = slot }) t → HasEntryAt entries' (record { page = p; slot = slot }))
    → (place : Tid) (t : Version) → IsPlaceBefore p (slot + 1) place → LeadsToCurrent w pages place t → HasEntryAt entries' place
each-more w pages number p slot entries entries' lists stays here place t (IsPlaceBefore.earlier_page lt) leads =
    kept entries entries' place stays (lists.each place t (IsPlaceBefore.earlier_page lt) leads)
each-more w pages number p slot entries entries' lists stays here place t (IsPlaceBefore.earlier_slot same lt) leads = elim (cases_lt place.slot slot) [
  | inl before ↦ kept entries entries' place stays (lists.each place t (IsPlaceBefore.earlier_slot same before) leads)
  | inr past ↦
      let is = the-place place p slot same (omega (arith, lt, past)) in
      subst (HasEntryAt entries') is (here t (subst (λ (q : Tid). LeadsToCurrent w pages q t) (sym is) leads))
]

of-current : (w : Window) (pages : List (List Slot)) (number : ℕ) (place : Tid) (t : Version) (e : Entry) → IsFirstCurrent w (slots_on pages place.page) place.slot t
    → e ≡ index_entry_of number t.row place → IsOfCurrent w pages number e
of-current w pages number place t e first is =
    subst (IsOfCurrent w pages number) (sym is) (record { root = first.starts; version = t; first = first.first; is = refl })

pub place-listed : (w : Window) (pages : List (List Slot)) (number p slot : ℕ) (entries entries' : List Entry) → ListsUpTo w pages number p slot entries
    → AddsCurrent w (slots_on pages p) number (record { page = p; slot = slot }) entries entries' → ListsUpTo w pages number p (slot + 1) entries'
place-listed w pages number p slot entries entries' lists (AddsCurrent.enters t first adds) =
    let place : Tid = record { page = p; slot = slot } in
    let entry = index_entry_of number t.row place in
    record {
      each = each-more w pages number p slot entries entries' lists (λ e there. (adds e).1 (inl there)) (λ u leads. (entry, (adds entry).1 (inr refl), refl));
      only = λ e there. ⊎_elim (λ old. lists.only e old) (λ new. of-current w pages number place t e first new) ((adds e).0 there);
    }
place-listed w pages number p slot entries entries' lists (AddsCurrent.leaves lacks same) = record {
  each = each-more w pages number p slot entries entries' lists (λ e there. subst (λ (es : List Entry). Contains es e) (sym same) there)
      (λ u leads. absurd (lacks leads.slot u leads.leads leads.there leads.current));
  only = λ e there. lists.only e (subst (λ (es : List Entry). Contains es e) same there);
}

-- an entry that is to come is that of a current row
pub some-current : (w : Window) (pages : List (List Slot)) (p slot : ℕ) → SomeFirstCurrent w (slots_on pages p) slot → SomeCurrent w pages
some-current w pages p slot some =
    let found = first-leads w (slots_on pages p) slot some.version some.is_first in
    (record { page = p; slot = slot }, some.version, record { slot = found.0; leads = found.1; there = found.2; current = found.3 })

-- so is each that is listed
pub some-listed : (w : Window) (pages : List (List Slot)) (number : ℕ) (entries : List Entry) → ListsCurrent w pages number entries → HoldsEntry entries → SomeCurrent w pages
some-listed w pages number entries lists (e, there) =
    let of = lists.only e there in
    some-current w pages e.tid.page e.tid.slot (record { version = of.version; is_first = record { starts = of.root; first = of.first } })

-- whatever their order
pub same-lists : (w : Window) (pages : List (List Slot)) (number : ℕ) (entries entries' : List Entry) → HaveSame entries entries' → ListsCurrent w pages number entries
    → ListsCurrent w pages number entries'
same-lists w pages number entries entries' same lists = record {
  each = λ place t leads. let found = lists.each place t leads in (found.0, (same found.0).1 found.1, found.2);
  only = λ e there. lists.only e ((same e).0 there);
}

-- The same, by what is read of the page.

pub place-on_page : (w v : Window) (pages : List PageView) (number p slot : ℕ) (page : PageView) (entries entries' : List Entry) → slice_get pages p ≡ Some page → v ≡ w
    → ListsUpTo w (map (λ (q : PageView). q.slots) pages) number p slot entries → AddsCurrent v page.slots number (record { page = p; slot = slot }) entries entries'
    → ListsUpTo w (map (λ (q : PageView). q.slots) pages) number p (slot + 1) entries'
place-on_page w v pages number p slot page entries entries' at same lists adds =
    place-listed w (map (λ (q : PageView). q.slots) pages) number p slot entries entries' lists
    (subst (λ (u : Window). AddsCurrent u (slots_on (map (λ (q : PageView). q.slots) pages) p) number (record { page = p; slot = slot }) entries entries') same
    (subst (λ (slots : List Slot). AddsCurrent v slots number (record { page = p; slot = slot }) entries entries') (sym (slots-there pages p page at)) adds))

pub current-on_page : (w v : Window) (pages : List PageView) (p slot : ℕ) (page : PageView) → slice_get pages p ≡ Some page → v ≡ w → SomeFirstCurrent v page.slots slot
    → SomeCurrent w (map (λ (q : PageView). q.slots) pages)
current-on_page w v pages p slot page at same some =
    some-current w (map (λ (q : PageView). q.slots) pages) p slot
    (subst (λ (u : Window). SomeFirstCurrent u (slots_on (map (λ (q : PageView). q.slots) pages) p) slot) same
    (subst (λ (slots : List Slot). SomeFirstCurrent v slots slot) (sym (slots-there pages p page at)) some))

pub last-on_page : (w : Window) (pages : List PageView) (number p slot : ℕ) (page : PageView) (entries : List Entry) → slice_get pages p ≡ Some page → length page.slots < slot
    → ListsUpTo w (map (λ (q : PageView). q.slots) pages) number p slot entries → ListsUpTo w (map (λ (q : PageView). q.slots) pages) number (p + 1) 0 entries
last-on_page w pages number p slot page entries at past =
    page-ended w (map (λ (q : PageView). q.slots) pages) number p slot entries (subst (λ (slots : List Slot). length slots < slot) (sym (slots-there pages p page at)) past)
