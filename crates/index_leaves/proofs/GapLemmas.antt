-- The entries of a leaf and the places to which none of them leads: what stays, and who goes.
use Rattle.std.proofs.Common.{◌≡◌, ◌∙◌, ℕ, List, [], ◌∷◌, take, drop, ◌++◌, cond, true, sym, ap, refl, Contains}
use Rattle.std.specs.List.{insert, filter}
use Rattle.std.proofs.lemmas.List.{take-append-drop}
use Rattle.std.proofs.lemmas.List.Elements.{All-cons, All-head, All-tail, All-same, All-append, All-take, All-drop, All-filter, All-weaker}
use Rattle.std.proofs.lemmas.List.Sorted.{IsPermutation-insert, All-permutation}
use Rattle.xid_circle.specs.declared.Tid.{Tid}
use Rattle.entry_columns.specs.declared.gap.Gap.{Gap}
use Rattle.entry_columns.specs.Gaps.{IsInside, AreOutside}
use Rattle.index_entries.specs.declared.entry.Entry.{Entry}
use Rattle.index_entries.specs.Lists.{stays}
use Rattle.index_entries.proofs.SetLemmas.{stays-is}

-- Entries that lead to no place of a gap.

pub outside_inserted : (g g' : Gap) (xs : List Entry) (i : ℕ) (y : Entry) → AreOutside g xs → ((t : Tid) → IsInside g' t → IsInside g t) → ¬ IsInside g' y.tid → AreOutside g' (insert xs i y)
outside_inserted g g' xs i y out narrower here =
    All-permutation (λ e. ¬ IsInside g' e.tid) (y ∷ xs) (insert xs i y) (IsPermutation-insert xs i y)
    (All-cons (λ e. ¬ IsInside g' e.tid) y xs here (All-weaker (λ e. ¬ IsInside g e.tid) (λ e. ¬ IsInside g' e.tid) (λ e not_in inside. not_in (narrower e.tid inside)) xs out))

-- where all dead places are in the gap no entry goes
all_stay : (g : Gap) (dead : List Tid) (xs : List Entry) → AreOutside g xs → ((t : Tid) → Contains dead t → IsInside g t) → filter (stays dead) xs ≡ xs
all_stay g dead [] out inside = refl
all_stay g dead (x ∷ xs) out inside =
    let here : stays dead x ≡ true = (stays-is dead x).1 (λ there. All-head (λ e. ¬ IsInside g e.tid) x xs out (inside x.tid there)) in
    ap (λ b. cond b (x ∷ filter (stays dead) xs) (filter (stays dead) xs)) here ∙ ap (λ rest. x ∷ rest) (all_stay g dead xs (All-tail (λ e. ¬ IsInside g e.tid) x xs out) inside)

pub none_goes : (g : Gap) (dead : List Tid) (xs : List Entry) (from : ℕ) → AreOutside g xs → ((t : Tid) → Contains dead t → IsInside g t) → xs ≡ take from xs ++ filter (stays dead) (drop from xs)
none_goes g dead xs from out inside =
    sym (take-append-drop from xs) ∙ ap (λ ys. take from xs ++ ys) (sym (all_stay g dead (drop from xs) (All-drop (λ e. ¬ IsInside g e.tid) from xs out) inside))

-- nor do those that are left of them
pub outside_left : (g : Gap) (dead : List Tid) (xs ys : List Entry) (from : ℕ) → AreOutside g xs → ys ≡ take from xs ++ filter (stays dead) (drop from xs) → AreOutside g ys
outside_left g dead xs ys from out is =
    All-same (λ e. ¬ IsInside g e.tid) ys (take from xs ++ filter (stays dead) (drop from xs)) is
    (All-append (λ e. ¬ IsInside g e.tid) (take from xs) (filter (stays dead) (drop from xs)) (All-take (λ e. ¬ IsInside g e.tid) from xs out)
    (All-filter (stays dead) (λ e. ¬ IsInside g e.tid) (drop from xs) (All-drop (λ e. ¬ IsInside g e.tid) from xs out)))
