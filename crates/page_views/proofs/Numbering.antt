-- Pages beside their numbers, one after another.
use Rattle.std.proofs.Common.{◌≡◌, ◌∙◌, ◌+◌, ℕ, zero, suc, List, [], ◌∷◌, ◌++◌, take, drop, Option, Some, slice_get, refl, sym, ap, arith}
use Rattle.std.proofs.lemmas.List.{map-append}
use Rattle.std.specs.declared.sync.Arc.{Arc}
use Rattle.std.specs.declared.boxed.Box.{Box}
use Rattle.std.specs.declared.alloc.Global.{Global}
use Rattle.xid_circle.specs.Numbers.{PageNo}
use Rattle.page_slots.specs.View.{PageView}
use Rattle.page_views.specs.View.{numbered, page_behind, pages_behind}

numbered-suc : (first k : ℕ) (pages : List PageView) (page : PageView) → slice_get pages k ≡ Some page
    → numbered first (take (suc k) pages) ≡ numbered first (take k pages) ++ (first + k, page) ∷ []
numbered-suc first k [] page at = absurd (cc at)
numbered-suc first zero (p ∷ pages) page at =
    let same : p ≡ page = cc at in
    let here : first ≡ first + 0 = omega arith in
    ap (λ (q : PageView). (first, q) ∷ []) same ∙ ap (λ (n : ℕ). (n, page) ∷ []) here
numbered-suc first (suc k) (p ∷ pages) page at =
    let there : first + 1 + k ≡ first + suc k = omega arith in
    ap (λ rest. (first, p) ∷ rest) (numbered-suc (first + 1) k pages page at
    ∙ ap (λ (n : ℕ). numbered (first + 1) (take k pages) ++ (n, page) ∷ []) there)

slice_get-drop : (m k : ℕ) (pages : List PageView) → slice_get (drop m pages) k ≡ slice_get pages (m + k)
slice_get-drop zero k pages = let here : k ≡ 0 + k = omega arith in ap (slice_get pages) here
slice_get-drop (suc m) k [] = refl
slice_get-drop (suc m) k (p ∷ pages) =
    let there : suc (m + k) ≡ suc m + k = omega arith in
    slice_get-drop m k pages ∙ ap (slice_get (p ∷ pages)) there

-- one more page is taken beside its number
pub numbered-more : (from k number : ℕ) (pages : List PageView) (shared : List (ℕ × Arc (Box PageView Global) Global)) (page : Arc (Box PageView Global) Global)
    → number ≡ from + k → slice_get pages number ≡ Some page.value.value → pages_behind shared ≡ numbered from (take k (drop from pages))
    → pages_behind (shared ++ (number, page) ∷ []) ≡ numbered from (take (suc k) (drop from pages))
numbered-more from k number pages shared page is at taken =
    map-append page_behind shared ((number, page) ∷ [])
    ∙ ap (λ (those : List (PageNo × PageView)). those ++ (number, page.value.value) ∷ []) taken
    ∙ ap (λ (n : ℕ). numbered from (take k (drop from pages)) ++ (n, page.value.value) ∷ []) is
    ∙ sym (numbered-suc from k (drop from pages) page.value.value
    (slice_get-drop from k pages ∙ ap (slice_get pages) (sym is) ∙ at))
