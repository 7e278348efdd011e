-- The pages as a map from numbers to pages: what a change does to it.
use Rattle.std.proofs.Common.{◌≡◌, ◌≢◌, ◌∙◌, ℕ, ◌+◌, ◌<◌, ◌≤◌, ⊎_elim, List, [], ◌∷◌, ◌++◌, length, set, Some, slice_get, sym, ap, refl, arith, length-append}
use Rattle.std.proofs.lemmas.Option.{slice_get-get_or, slice_get_past, slice_get_cases}
use Rattle.std.proofs.lemmas.List.{length-set, get_or-set_same, get_or-set_other}
use Rattle.std.proofs.Math.ListN.{get_or-append}
use Rattle.std.proofs.Math.Seq.{get_or-append_seam}
use Rattle.page_slots.specs.View.{PageView}
use Rattle.heap_pages.specs.View.{PagesView, with_page}

-- One page is changed.

pub page-with_page : (p : PagesView) (n : ℕ) (page : PageView) → n < length p.pages → slice_get (with_page p n page).pages n ≡ Some page
page-with_page p n page within =
    let long = length-set p.pages n page in
    slice_get-get_or (set p.pages n page) n page (omega arith) ∙ ap Some (get_or-set_same p.pages n page page within)

pub page-with_page_other : (p : PagesView) (n k : ℕ) (page : PageView) → k ≢ n → slice_get (with_page p n page).pages k ≡ slice_get p.pages k
page-with_page_other p n k page other =
    let long = length-set p.pages n page in
    ⊎_elim (λ a. let within : k < length (set p.pages n page) = omega (arith, a.1) in
    slice_get-get_or (set p.pages n page) k a.0 within ∙ ap Some (get_or-set_other p.pages n k page a.0 other ∙ a.3) ∙ sym a.2)
    (λ b. let past : length (set p.pages n page) ≤ k = omega (arith, b.0) in slice_get_past (set p.pages n page) k past ∙ sym b.1)
    (slice_get_cases p.pages k).1

-- A page is added.

pub page-pushed : (pages : List PageView) (page : PageView) → slice_get (pages ++ page ∷ []) (length pages) ≡ Some page
page-pushed pages page =
    let long : length (pages ++ page ∷ []) ≡ length pages + 1 = rw length-append refl in
    slice_get-get_or (pages ++ page ∷ []) (length pages) page (omega arith) ∙ ap Some (get_or-append_seam pages page [] page)

pub page-pushed_other : (pages : List PageView) (k : ℕ) (page : PageView) → k ≢ length pages → slice_get (pages ++ page ∷ []) k ≡ slice_get pages k
page-pushed_other pages k page other =
    let long : length (pages ++ page ∷ []) ≡ length pages + 1 = rw length-append refl in
    ⊎_elim (λ a. let within : k < length (pages ++ page ∷ []) = omega (arith, a.1) in
    slice_get-get_or (pages ++ page ∷ []) k a.0 within ∙ ap Some (get_or-append pages (page ∷ []) a.0 k a.1 ∙ a.3) ∙ sym a.2)
    (λ b. let past : length (pages ++ page ∷ []) ≤ k = omega (arith, b.0) in slice_get_past (pages ++ page ∷ []) k past ∙ sym b.1)
    (slice_get_cases pages k).1
