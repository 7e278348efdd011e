-- The places of a set are marked, also where one is added.
use Rattle.std.proofs.Common.{◌≡◌, ◌∙◌, ℕ, ◌+◌, ◌*◌, ◌%◌, ◌<◌, inl, inr, ⊎_elim, List, length, get_or, set, sym, ap, refl, subst, arith, Contains}
use Rattle.std.proofs.lemmas.Bool.{cases_eq}
use Rattle.std.proofs.lemmas.List.{get_or-set_same, get_or-set_other}
use Rattle.xid_circle.specs.declared.Tid.{Tid}
use Rattle.dead_places.specs.declared.marks.TheConstants.{MARKS_OF_A_PAGE}
use Rattle.dead_places.specs.Marks.{place_mark, HaveMarks}
use Rattle.dead_places.specs.Places.{AddsPlace}

pub some-added : (old new : List Tid) (tid : Tid) → AddsPlace old new tid → 0 < length new
some-added old new tid adds = some ((adds.members tid).1 (inr refl))
  where
    some : Contains new tid → 0 < length new
    some (k, within, is) = omega (arith, within)

pub mark-within : (marks : List ℕ) (tid : Tid) → length marks ≡ 8192 → place_mark tid < length marks
mark-within marks tid long = subst (λ n. place_mark tid < n) (sym long) (below (tid.page * MARKS_OF_A_PAGE + tid.slot))
  where
    below : (n : ℕ) → n % 8192 < 8192
    below n = omega arith

pub marked-added : (old new : List Tid) (marks : List ℕ) (tid : Tid) (hint : ℕ) → AddsPlace old new tid → HaveMarks old marks → place_mark tid < length marks → 0 < hint
    → HaveMarks new (set marks (place_mark tid) hint)
marked-added old new marks tid hint adds marked within some t there = elim (cases_eq (place_mark t) (place_mark tid)) [
  | inl same ↦ subst (λ h. 0 < h) (sym (ap (λ n. get_or (set marks (place_mark tid) hint) n 0) same ∙ get_or-set_same marks (place_mark tid) hint 0 within)) some
  | inr other ↦ subst (λ h. 0 < h) (sym (get_or-set_other marks (place_mark tid) (place_mark t) hint 0 other))
      (⊎_elim (λ before. marked t before) (λ is. absurd (other (ap place_mark is))) ((adds.members t).0 there))
]
