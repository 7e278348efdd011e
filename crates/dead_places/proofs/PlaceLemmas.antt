-- The order of places is total; what a search finds in an ascending list of them, and what an edit there does.
use Rattle.std.proofs.Common.{◌≡◌, ◌∙◌, ℕ, zero, suc, ◌+◌, ◌-◌, ◌<◌, ◌≤◌, ◌⊎◌, true, inl, inr, ⊎_elim, List, [], ◌∷◌, ◌++◌, length, get_or, Some, slice_get, Result, Ok, Err, IfOk, IfErr, IsTrue, is_ok, ◌↔◌, sym, ap, refl, subst, arith, Contains}
use Rattle.std.specs.Cmp.{IsTotalOrder}
use Rattle.std.specs.Ordering.{nat_cmp, ordering_reverse, ordering_then, is_lt}
use Rattle.std.specs.declared.cmp.Ordering.{Ordering}
use Rattle.std.specs.declared.cmp.Ordering.TheVariants.{Less, Equal, Greater}
use Rattle.std.specs.List.{insert, All}
use Rattle.std.proofs.lemmas.Bool.{cases_lt}
use Rattle.std.proofs.lemmas.Cmp.{then_total, on_total, nat_cmp_total, ranked, tied_itself}
use Rattle.std.proofs.lemmas.List.Edits.{insert_end}
use Rattle.std.proofs.lemmas.List.Elements.{All-cons}
use Rattle.std.proofs.lemmas.List.Kept.{AllPairs-cons}
use Rattle.std.proofs.lemmas.List.Sorted.{Contains-permutation, IsPermutation-insert, IsPermutation-sym, All-permutation}
use Rattle.std.proofs.lemmas.Option.{slice_get-get_or, slice_get_within, get_or_from_slice_get}
use Rattle.xid_circle.specs.declared.Tid.{Tid}
use Rattle.xid_circle.proofs.Members.{Contains-first, Contains-rest, Contains-cases}
use Rattle.xid_circle.proofs.Tids.{same-tid}
use Rattle.dead_places.specs.Places.{place_order, PlacePrecedes, AreAscending, AddsPlace, IsRoomFor}

-- Two comparisons, the second where the first finds nothing.

pub less_both : (o p : Ordering) → ordering_then o p ≡ Less → (o ≡ Less) ⊎ ((o ≡ Equal) × (p ≡ Less))
less_both Less p e = inl refl
less_both Equal p e = inr (refl, e)
less_both Greater p e = absurd (cc e)

pub equal_both : (o p : Ordering) → ordering_then o p ≡ Equal → (o ≡ Equal) × (p ≡ Equal)
equal_both Less p e = absurd (cc e)
equal_both Equal p e = (refl, e)
equal_both Greater p e = absurd (cc e)

pub less_from_test : (o : Ordering) → is_lt o ≡ true → o ≡ Less
less_from_test Less h = refl
less_from_test Equal h = absurd (cc h)
less_from_test Greater h = absurd (cc h)

-- The order.

pub place_total : IsTotalOrder place_order
place_total = then_total (on_total (λ (t : Tid). t.page) nat_cmp_total) (on_total (λ (t : Tid). t.slot) nat_cmp_total)

pub not_before_itself : (a : Tid) → ¬ PlacePrecedes a a
not_before_itself a h = absurd (let e = tied_itself place_total a in cc)

pub PlacePrecedes-trans : (a b c : Tid) → PlacePrecedes a b → PlacePrecedes b c → PlacePrecedes a c
PlacePrecedes-trans a b c = place_total.trans a b c

pub PlacePrecedes-not_back : (a b : Tid) → PlacePrecedes a b → ¬ PlacePrecedes b a
PlacePrecedes-not_back a b h back = not_before_itself a (PlacePrecedes-trans a b a h back)

pub same-from_tied : (a b : Tid) → place_order a b ≡ Equal → a ≡ b
same-from_tied a b e =
    let both = equal_both (nat_cmp a.page b.page) (nat_cmp a.slot b.slot) e in
    same-tid a b (ranked a.page b.page Equal (sym both.0)) (ranked a.slot b.slot Equal (sym both.1))

-- Places by their numbers.

pub ascending-at : (xs : List Tid) (i j : ℕ) (a b : Tid) → AreAscending xs → i < j → slice_get xs i ≡ Some a → slice_get xs j ≡ Some b → PlacePrecedes a b
ascending-at xs i j a b up lt at_i at_j =
    subst (λ x. PlacePrecedes x b) (get_or_from_slice_get xs i a b at_i)
    (subst (λ y. PlacePrecedes (get_or xs i b) y) (get_or_from_slice_get xs j b b at_j) (up i j b lt (slice_get_within xs j b at_j)))

pub same_number : (xs : List Tid) (k i : ℕ) (e f : Tid) → k ≡ i → slice_get xs k ≡ Some e → slice_get xs i ≡ Some f → e ≡ f
same_number xs k i e f same at_k at_i = cc

-- the places before low are before the sought one, and it is before those from high on
pub record IsAround (tids : List Tid) (sought : Tid) (low high : ℕ) : Type 0 where
  pub order : low ≤ high
  pub in_range : high ≤ length tids
  pub before : (k : ℕ) (t : Tid) → k < low → slice_get tids k ≡ Some t → PlacePrecedes t sought
  pub after : (k : ℕ) (t : Tid) → high ≤ k → slice_get tids k ≡ Some t → PlacePrecedes sought t

pub looked_less : (xs : List Tid) (x d : Tid) (low high i : ℕ) → AreAscending xs → IsAround xs x low high → i < high → place_order (get_or xs i d) x ≡ Less → IsAround xs x (i + 1) high
looked_less xs x d low high i up around within less =
    let at = slice_get-get_or xs i d (omega (arith, within, around.in_range)) in
    record {
      order = omega arith;
      in_range = around.in_range;
      before = λ k e lt at_k. elim (cases_lt k i) [
        | inl below ↦ PlacePrecedes-trans e (get_or xs i d) x (ascending-at xs k i e (get_or xs i d) up below at_k at) less
        | inr le ↦ subst (λ y. PlacePrecedes y x) (same_number xs i k (get_or xs i d) e (omega arith) at at_k) less
      ];
      after = around.after;
    }

pub looked_greater : (xs : List Tid) (x d : Tid) (low high i : ℕ) → AreAscending xs → IsAround xs x low high → low ≤ i → i < high → place_order (get_or xs i d) x ≡ Greater
    → IsAround xs x low i
looked_greater xs x d low high i up around from_low within greater =
    let at = slice_get-get_or xs i d (omega (arith, within, around.in_range)) in
    let less : PlacePrecedes x (get_or xs i d) = place_total.antisymm x (get_or xs i d) ∙ ap ordering_reverse greater in
    record {
      order = from_low;
      in_range = omega (arith, within, around.in_range);
      before = around.before;
      after = λ k e le at_k. elim (cases_lt i k) [
        | inl above ↦ PlacePrecedes-trans x (get_or xs i d) e less (ascending-at xs i k (get_or xs i d) e up above at at_k)
        | inr same ↦ subst (PlacePrecedes x) (same_number xs i k (get_or xs i d) e (omega arith) at at_k) less
      ];
    }

-- behind the last
pub room_behind : (xs : List Tid) (x last : Tid) → AreAscending xs → slice_get xs (length xs - 1) ≡ Some last → PlacePrecedes last x → IsRoomFor xs x (length xs)
room_behind xs x last up at less = let n = length xs - 1 in record {
  in_range = omega arith;
  before = λ k e lt at_k. elim (cases_lt k n) [
    | inl below ↦ PlacePrecedes-trans e last x (ascending-at xs k n e last up below at_k at) less
    | inr le ↦ subst (λ y. PlacePrecedes y x) (same_number xs n k last e (omega arith) at at_k) less
  ];
  after = λ k e le at_k. absurd (let within = slice_get_within xs k e at_k in omega arith);
}

-- A place that is added.

room_of_rest : (x y : Tid) (xs : List Tid) (i : ℕ) → IsRoomFor (x ∷ xs) y (suc i) → IsRoomFor xs y i
room_of_rest x y xs i room = record {
  in_range = omega (arith, room.in_range);
  before = λ k e lt at. room.before (suc k) e (omega arith) at;
  after = λ k e le at. room.after (suc k) e (omega arith) at;
}

all-after : (xs : List Tid) (y : Tid) → IsRoomFor xs y 0 → All (PlacePrecedes y) xs
all-after xs y room k d within = room.after k (get_or xs k d) (omega arith) (slice_get-get_or xs k d within)

all-later : (x : Tid) (xs : List Tid) → AreAscending (x ∷ xs) → All (PlacePrecedes x) xs
all-later x xs up k d within = up 0 (suc k) d (omega arith) (omega arith)

ascending-tail : (x : Tid) (xs : List Tid) → AreAscending (x ∷ xs) → AreAscending xs
ascending-tail x xs up i j d lt within = up (suc i) (suc j) d (omega arith) (omega arith)

ascending-insert : (xs : List Tid) (y : Tid) (i : ℕ) → AreAscending xs → IsRoomFor xs y i → AreAscending (insert xs i y)
ascending-insert xs y zero up room = AllPairs-cons PlacePrecedes y xs (all-after xs y room) up
ascending-insert [] y (suc i) up room = absurd (omega (arith, room.in_range))
ascending-insert (x ∷ xs) y (suc i) up room =
    AllPairs-cons PlacePrecedes x (insert xs i y)
    (All-permutation (PlacePrecedes x) (y ∷ xs) (insert xs i y) (IsPermutation-insert xs i y) (All-cons (PlacePrecedes x) y xs (room.before 0 x (omega arith) refl) (all-later x xs up)))
    (ascending-insert xs y i (ascending-tail x xs up) (room_of_rest x y xs i room))

pub adds-inserted : (xs : List Tid) (y : Tid) (i : ℕ) → AreAscending xs → IsRoomFor xs y i → AddsPlace xs (insert xs i y) y
adds-inserted xs y i up room = record {
  ascending = ascending-insert xs y i up room;
  members = λ e. (
    λ h. ⊎_elim (λ same. inr (sym same)) (λ old. inl old) (Contains-cases y e xs (Contains-permutation (insert xs i y) (y ∷ xs) e (IsPermutation-sym (y ∷ xs) (insert xs i y) (IsPermutation-insert xs i y)) h)),
    λ h. Contains-permutation (y ∷ xs) (insert xs i y) e (IsPermutation-insert xs i y) (⊎_elim (λ old. Contains-rest y e xs old) (λ same. subst (λ z. Contains (y ∷ xs) z) (sym same) (Contains-first y xs)) h),
  );
}

-- where all others are before it
pub inserted_last : (xs : List Tid) (y : Tid) (i : ℕ) → IsRoomFor xs y i → All (λ t. PlacePrecedes t y) xs → insert xs i y ≡ xs ++ y ∷ []
inserted_last xs y i room below = elim (cases_lt i (length xs)) [
  | inl within ↦ absurd (PlacePrecedes-not_back (get_or xs i y) y (below i y within) (room.after i (get_or xs i y) (omega arith) (slice_get-get_or xs i y within)))
  | inr past ↦ let end : i ≡ length xs = omega (arith, room.in_range) in ap (λ n. insert xs n y) end ∙ insert_end xs y
]

-- a place for which there would be room is not there
pub not_there : (xs : List Tid) (x : Tid) (i : ℕ) → IsRoomFor xs x i → ¬ Contains xs x
not_there xs x i room (k, within, is) =
    let at = slice_get-get_or xs k x within ∙ ap Some is in
    elim (cases_lt k i) [
      | inl before ↦ not_before_itself x (room.before k x before at)
      | inr behind ↦ not_before_itself x (room.after k x behind at)
    ]

-- what a search answers tells whether the place is there
pub search_tells : (xs : List Tid) (x : Tid) (r : Result ℕ ℕ) → IfOk r (λ i. slice_get xs i ≡ Some x) → IfErr r (IsRoomFor xs x) → IsTrue (is_ok r) ↔ Contains xs x
search_tells xs x (Ok i) found absent = (λ yes. (i, slice_get_within xs i x found, get_or_from_slice_get xs i x x found), λ there. refl)
search_tells xs x (Err i) found absent = (λ yes. absurd (cc yes), λ there. absurd (not_there xs x i absent there))
