-- A page that is not in use has no slots.
use Rattle.std.proofs.Common.{◌≡◌, ℕ, zero, suc, List, [], length, map, Option, None, rules, refl, sym, ap, ◌∙◌, subst, slice_get}
use Rattle.std.specs.Prelude.{◌↔◌, IsTrue, IsSome, false}
use Rattle.tuple_header.specs.Version.{Version}
use Rattle.page_sheet.specs.declared.slot.Slot.{Slot}
use Rattle.page_sheet.specs.Slots.{version_at, header_at, redirect_at}
use Rattle.page_slots.specs.View.{PageView}
use Rattle.index_lookup.specs.Pages.{slots_on}
use Rattle.index_lookup.proofs.PageLists.{slots-none}
use Rattle.session_steps.proofs.New.{none-at}

header-nowhere : (n : ℕ) → header_at [] n ≡ None
header-nowhere zero = refl
header-nowhere (suc n) = refl

redirect-nowhere : (n : ℕ) → redirect_at [] n ≡ None
redirect-nowhere zero = refl
redirect-nowhere (suc n) = refl

pub no-version : (pages : List PageView) (p n : ℕ) → None ≡ slice_get pages p → None ≡ version_at (slots_on (map (λ (v : PageView). v.slots) pages) p) n
no-version pages p n none = sym (ap (λ (slots : List Slot). version_at slots n) (slots-none pages p (sym none)) ∙ none-at n)

pub no-header : (pages : List PageView) (p n : ℕ) → None ≡ slice_get pages p → None ≡ header_at (slots_on (map (λ (v : PageView). v.slots) pages) p) n
no-header pages p n none = sym (ap (λ (slots : List Slot). header_at slots n) (slots-none pages p (sym none)) ∙ header-nowhere n)

pub no-redirect : (pages : List PageView) (p n : ℕ) → None ≡ slice_get pages p → None ≡ redirect_at (slots_on (map (λ (v : PageView). v.slots) pages) p) n
no-redirect pages p n none = sym (ap (λ (slots : List Slot). redirect_at slots n) (slots-none pages p (sym none)) ∙ redirect-nowhere n)

pub no-slots : (pages : List PageView) (p : ℕ) → None ≡ slice_get pages p → 0 ≡ length (slots_on (map (λ (v : PageView). v.slots) pages) p)
no-slots pages p none = sym (ap (λ (slots : List Slot). length slots) (slots-none pages p (sym none)))

pub none-there : (o : Option Version) → None ≡ o → IsTrue false ↔ IsSome o
none-there o e = subst (λ (q : Option Version). IsTrue false ↔ IsSome q) e (search rules)
