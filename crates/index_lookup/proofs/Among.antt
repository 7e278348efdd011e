-- Ids that made or deleted a version: in a chain, and along the entries.
use Rattle.std.proofs.Common.{◌≡◌, ◌⊎◌, ℕ, ℤ, ◌+◌, ◌<◌, List, length, get_or, map, Option, Some, None, sym, ap, ◌∙◌, subst, ⊎_elim, arith, slice_get}
use Rattle.std.specs.List.{Contains}
use Rattle.std.specs.Option.{option_map}
use Rattle.std.proofs.lemmas.Bool.{cases_lt}
use Rattle.std.proofs.lemmas.Option.{none-some, same_Some}
use Rattle.xid_circle.specs.declared.Tid.{Tid}
use Rattle.xid_circle.specs.declared.Xid.{Xid}
use Rattle.tuple_header.specs.Version.{Version}
use Rattle.tuple_header.specs.declared.version.Header.{Header}
use Rattle.page_sheet.specs.declared.slot.Slot.{Slot}
use Rattle.page_sheet.specs.Slots.{version_at, header_at}
use Rattle.page_slots.specs.View.{PageView}
use Rattle.page_sheet.proofs.SlotLemmas.{version_at-none, version-from_header}
use Rattle.commit_status.specs.Window.{Window}
use Rattle.visibility.proofs.Makers.{touch-cases}
use Rattle.visibility.specs.Visible.{IsFrozen}
use Rattle.visibility.specs.Seeing.{Touches}
use Rattle.hot_chain.specs.Chain.{has_aborted, IsChain}
use Rattle.hot_chain.proofs.Chains.{chain-one}
use Rattle.index_entries.specs.declared.entry.Entry.{Entry}
use Rattle.index_entries.specs.Sets.{IsOf}
use Rattle.index_lookup.specs.Looking.{SomeAmong, SomeAt, SomeOf, IsIdAmong, IsIdAt}
use Rattle.index_lookup.proofs.PageLists.{slots-there, slots-none}

-- One version.

-- neither the inserter nor the deleter of the version
pub none-touched : (h : Header) (P : ℕ → Type 0) → (IsFrozen h ⊎ (¬ P h.xmin.0)) → ((h.xmax.0 ≡ 0) ⊎ (¬ P h.xmax.0)) → (x : ℕ) → Touches x h → ¬ P x
none-touched h P inserter deleter x touch p = ⊎_elim
    (λ made. ⊎_elim (λ frozen. made.0 frozen) (λ none. none (subst P (sym made.1) p)) inserter)
    (λ gone. ⊎_elim (λ zero. gone.0 zero) (λ none. none (subst P (sym gone.1) p)) deleter)
    (touch-cases h x touch)

-- Slots one after another.

-- no version in this slot has P
abbrev pub NoneIn : (Header → Type 0) → List Slot → ℕ → Type 0
NoneIn P slots n = (u : Version) → version_at slots n ≡ Some u → ¬ P u.header

-- none does in the first i of these slots
abbrev pub NoneTo : (Header → Type 0) → List Slot → List ℕ → ℕ → Type 0
NoneTo P slots chain i = (j : ℕ) (u : Version) → j < i → version_at slots (get_or chain j 0) ≡ Some u → ¬ P u.header

pub none-yet : (P : Header → Type 0) (slots : List Slot) (chain : List ℕ) → NoneTo P slots chain 0
none-yet P slots chain j u before at = absurd (omega arith)

pub none-more : (P : Header → Type 0) (slots : List Slot) (chain : List ℕ) (i : ℕ) → NoneTo P slots chain i → NoneIn P slots (get_or chain i 0) → NoneTo P slots chain (i + 1)
none-more P slots chain i below here j u within at has = ⊎_elim
    (λ lt. below j u lt at has)
    (λ ge. let same : j ≡ i = omega arith in here u (ap (λ k. version_at slots (get_or chain k 0)) (sym same) ∙ at) has)
    (cases_lt j i)

pub none-here : (P : Header → Type 0) (slots : List Slot) (n : ℕ) (h : Header) → header_at slots n ≡ Some h → ¬ P h → NoneIn P slots n
none-here P slots n h is none u at has =
    let same : u.header ≡ h = same_Some u.header h (sym (ap (option_map (λ (t : Version). t.header)) at) ∙ is) in
    none (subst P same has)

pub none-other : (P : Header → Type 0) (slots : List Slot) (n : ℕ) → header_at slots n ≡ None → NoneIn P slots n
none-other P slots n is u at has = none-some u.header (sym is ∙ ap (option_map (λ (t : Version). t.header)) at)

-- the version in the slot at this place of the list
pub some-here : (P : Header → Type 0) (slots : List Slot) (chain : List ℕ) (i : ℕ) (h : Header) → i < length chain → header_at slots (get_or chain i 0) ≡ Some h → P h → SomeAmong P slots chain
some-here P slots chain i h within is has =
    let t = version-from_header slots (get_or chain i 0) h is in
    record { place = i; version = t.0; within = within; there = t.1; has = subst P t.2 has }

-- The chain of a place.

pub at-page : (w : Window) (P : ℕ → Header → Type 0) (pages : List PageView) (p : Tid) (page : PageView) (chain : List ℕ) (answer : Option Xid) → slice_get pages p.page ≡ Some page
    → IsChain (has_aborted w) page.slots p.slot chain → IsIdAmong P page.slots chain answer → IsIdAt w P (map (λ (q : PageView). q.slots) pages) p answer
at-page w P pages p page chain None at is none = λ x some.
    let same = slots-there pages p.page page at in
    let here = subst (λ slots. IsChain (has_aborted w) slots p.slot some.chain) same some.is_chain in
    let one = chain-one (has_aborted w) page.slots p.slot some.chain chain here is in
    none x (subst (SomeAmong (P x) page.slots) one (subst (λ slots. SomeAmong (P x) slots some.chain) same some.some))
at-page w P pages p page chain (Some x) at is some =
    let same = slots-there pages p.page page at in
    record {
      chain = chain;
      is_chain = subst (λ slots. IsChain (has_aborted w) slots p.slot chain) (sym same) is;
      some = subst (λ slots. SomeAmong (P x.0) slots chain) (sym same) some;
    }

pub at-nowhere : (w : Window) (P : ℕ → Header → Type 0) (pages : List PageView) (p : Tid) → slice_get pages p.page ≡ None
    → (x : ℕ) → SomeAt w (P x) (map (λ (q : PageView). q.slots) pages) p → ⊥
at-nowhere w P pages p none x some =
    let there = subst (λ slots. version_at slots (get_or some.chain some.some.place 0) ≡ Some some.some.version) (slots-none pages p.page none) some.some.there in
    version_at-none (get_or some.chain some.some.place 0) some.some.version there

-- Along the entries.

pub none-of : (w : Window) (P : ℕ → Header → Type 0) (pages : List (List Slot)) (entries : List Entry) (value : ℤ) (key : ℕ)
    → ((e : Entry) → Contains entries e → IsOf value key e → (x : ℕ) → SomeAt w (P x) pages e.tid → ⊥) → (x : ℕ) → SomeOf w (P x) pages entries value key → ⊥
none-of w P pages entries value key none x s = none s.entry s.there s.of x s.at
