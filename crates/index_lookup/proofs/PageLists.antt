-- The pages of a table as a list of lists of slots.
use Rattle.std.proofs.Common.{◌≡◌, ℕ, zero, suc, ◌<◌, List, [], ◌∷◌, ◌++◌, length, map, Option, Some, None, refl, sym, ap, ◌∙◌, slice_get}
use Rattle.std.proofs.lemmas.Option.{none-some, same_Some}
use Rattle.page_slots.specs.View.{PageView}
use Rattle.heap_pages.specs.View.{PagesView, with_page}
use Rattle.heap_pages.proofs.PageLemmas.{page-with_page, page-with_page_other, page-pushed, page-pushed_other}
use Rattle.index_lookup.specs.Pages.{slots_on, Puts, page_slots_of}

pub slots-there : (pages : List PageView) (n : ℕ) (page : PageView) → slice_get pages n ≡ Some page → slots_on (map (λ (p : PageView). p.slots) pages) n ≡ page.slots
slots-there [] n page at = absurd (none-some page at)
slots-there (p ∷ ps) zero page at = ap (λ (q : PageView). q.slots) (same_Some p page at)
slots-there (p ∷ ps) (suc n) page at = slots-there ps n page at

pub slots-none : (pages : List PageView) (n : ℕ) → slice_get pages n ≡ None → slots_on (map (λ (p : PageView). p.slots) pages) n ≡ []
slots-none [] n none = refl
slots-none (p ∷ ps) zero none = absurd (none-some p (sym none))
slots-none (p ∷ ps) (suc n) none = slots-none ps n none

-- what a page of the table has, by its slots
slots-same : (ps qs : List PageView) (m : ℕ) → slice_get ps m ≡ slice_get qs m → slots_on (map (λ (p : PageView). p.slots) ps) m ≡ slots_on (map (λ (p : PageView). p.slots) qs) m
slots-same ps qs m same = by (slice_get qs m) refl
  where
    by : (o : Option PageView) → slice_get qs m ≡ o → slots_on (map (λ (p : PageView). p.slots) ps) m ≡ slots_on (map (λ (p : PageView). p.slots) qs) m
    by None at = slots-none ps m (same ∙ at) ∙ sym (slots-none qs m at)
    by (Some page) at = slots-there ps m page (same ∙ at) ∙ sym (slots-there qs m page at)

pub puts-with_page : (p : PagesView) (n : ℕ) (page : PageView) → n < length p.pages → Puts (page_slots_of p) (page_slots_of (with_page p n page)) n page.slots
puts-with_page p n page within = record {
  put = slots-there (with_page p n page).pages n page (page-with_page p n page within);
  others = λ m other. slots-same (with_page p n page).pages p.pages m (page-with_page_other p n m page other);
}

pub puts-pushed : (pages : List PageView) (page : PageView)
    → Puts (map (λ (p : PageView). p.slots) pages) (map (λ (p : PageView). p.slots) (pages ++ page ∷ [])) (length pages) page.slots
puts-pushed pages page = record {
  put = slots-there (pages ++ page ∷ []) (length pages) page (page-pushed pages page);
  others = λ m other. slots-same (pages ++ page ∷ []) pages m (page-pushed_other pages m page other);
}
