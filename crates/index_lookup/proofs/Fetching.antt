-- What is fetched in the chain of a place, and along the entries of one value and one key.
use Rattle.std.proofs.Common.{◌≡◌, ℕ, zero, suc, ℤ, Bool, List, [], map, Option, Some, None, refl, sym, ap, ◌∙◌, subst, arith, slice_get}
use Rattle.std.specs.List.{IsDistinct}
use Rattle.std.specs.Option.{option_map}
use Rattle.xid_circle.specs.declared.Tid.{Tid}
use Rattle.tuple_header.specs.Version.{Version}
use Rattle.tuple_header.specs.declared.version.Header.{Header}
use Rattle.tuple_header.specs.declared.version.Row.{Row}
use Rattle.page_sheet.specs.declared.slot.Slot.{Slot}
use Rattle.page_sheet.specs.Slots.{version_at, row_at}
use Rattle.page_slots.specs.View.{PageView}
use Rattle.commit_status.specs.Window.{Window}
use Rattle.hot_chain.specs.Chain.{has_aborted, first_of, IsChain, NoneSeen, Fetched}
use Rattle.index_entries.specs.declared.entry.Entry.{Entry}
use Rattle.index_lookup.specs.Pages.{slots_on, version_in}
use Rattle.index_lookup.specs.Looking.{IsNextOf, FetchedAt, FirstFound, IsSeenAt, IsFirstPlace, FirstPlace}
use Rattle.index_lookup.proofs.PageLists.{slots-there, slots-none}

pub none-first : (n : ℕ) → first_of [] n ≡ None
none-first zero = refl
none-first (suc n) = refl

empty-fetched : (aborted : ℕ → Bool) (seen : Header → Type 0) (n : ℕ) → Fetched aborted seen [] n None
unfolding IsDistinct
empty-fetched aborted seen n = (
  [],
  record { start = sym (none-first n); linked = λ i h. absurd (omega arith); distinct = tt; end = λ h. absurd (omega arith) },
  λ j u h at. absurd (omega arith),
)

pub fetched-nowhere : (w : Window) (seen : Header → Type 0) (pages : List PageView) (p : Tid) → slice_get pages p.page ≡ None
    → FetchedAt w seen (map (λ (q : PageView). q.slots) pages) p None
fetched-nowhere w seen pages p none = subst (λ slots. Fetched (has_aborted w) seen slots p.slot None) (sym (slots-none pages p.page none)) (empty-fetched (has_aborted w) seen p.slot)

pub none-on_page : (w : Window) (seen : Header → Type 0) (pages : List PageView) (p : Tid) (page : PageView) (chain : List ℕ) → slice_get pages p.page ≡ Some page
    → IsChain (has_aborted w) page.slots p.slot chain → NoneSeen seen page.slots chain → FetchedAt w seen (map (λ (q : PageView). q.slots) pages) p None
none-on_page w seen pages p page chain at is none =
    subst (λ slots. Fetched (has_aborted w) seen slots p.slot None) (sym (slots-there pages p.page page at)) (chain, is, none)

-- The row at a place.

pub row-there : (pages : List PageView) (p : Tid) (page : PageView) → slice_get pages p.page ≡ Some page
    → row_at page.slots p.slot ≡ option_map (λ (t : Version). t.row) (version_in (map (λ (q : PageView). q.slots) pages) p)
row-there pages p page at = ap (λ slots. row_at slots p.slot) (sym (slots-there pages p.page page at))

pub row-nowhere : (pages : List PageView) (p : Tid) → slice_get pages p.page ≡ None
    → None ≡ option_map (λ (t : Version). t.row) (version_in (map (λ (q : PageView). q.slots) pages) p)
row-nowhere pages p none = by p.slot ∙ ap (λ slots. row_at slots p.slot) (sym (slots-none pages p.page none))
  where
    by : (n : ℕ) → None ≡ row_at [] n
    by zero = refl
    by (suc n) = refl

-- what is at the place of the first version that is seen
pub seen-there : (w : Window) (seen : Header → Type 0) (pages : List (List Slot)) (p q : Tid) (s : IsSeenAt w seen pages p q) → version_in pages q ≡ Some s.seen_in.version
seen-there w seen pages p q s =
    ap (λ n. version_at (slots_on pages n) q.slot) s.page ∙ ap (version_at (slots_on pages p.page)) s.seen_in.slot ∙ s.seen_in.first.there

pub row-found : (w : Window) (seen : Header → Type 0) (pages : List (List Slot)) (entries : List Entry) (value : ℤ) (key : ℕ) (q : Tid) (answer : Option Row)
    → IsFirstPlace w seen pages entries value key q → answer ≡ option_map (λ (t : Version). t.row) (version_in pages q) → FirstFound w seen pages entries value key answer
row-found w seen pages entries value key q answer f is =
    let s = f.seen_at in
    let row = ap (option_map (λ (t : Version). t.row)) (seen-there w seen pages f.entry.tid q s) in
    subst (FirstFound w seen pages entries value key) (sym (is ∙ row)) (q, f, row)

-- By the first entry of a value and a key.

pub place-from_first : (w : Window) (seen : Header → Type 0) (pages : List (List Slot)) (entries : List Entry) (stored value : ℤ) (key : ℕ) (first : Entry) (answer : Option Tid)
    → stored ≡ value → IsNextOf entries stored key None (Some first) → FirstPlace w seen pages entries first.value first.key answer → FirstPlace w seen pages entries value key answer
place-from_first w seen pages entries stored value key first answer same least place =
    subst (λ (v : ℤ). FirstPlace w seen pages entries v key answer) (least.1.0.0 ∙ same)
    (subst (λ (k : ℕ). FirstPlace w seen pages entries first.value k answer) least.1.0.1 place)

pub no-place : (w : Window) (seen : Header → Type 0) (pages : List (List Slot)) (entries : List Entry) (stored value : ℤ) (key : ℕ) → stored ≡ value → IsNextOf entries stored key None None
    → FirstPlace w seen pages entries value key None
no-place w seen pages entries stored value key same least = λ e there of. absurd (least e there ((of.0 ∙ sym same, of.1), tt))
