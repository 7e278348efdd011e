-- In one leaf: where an entry goes beside another, and what a sweep leaves.
use Rattle.std.proofs.Common.{◌≡◌, ◌∙◌, ℕ, zero, suc, ◌+◌, ◌-◌, ◌<◌, inl, inr, List, [], ◌∷◌, ◌++◌, length, take, drop, Bool, false, IsTrue, Some, None, slice_get, sym, ap, refl, subst, arith}
use Rattle.std.specs.List.{filter}
use Rattle.std.proofs.lemmas.Bool.{cases_lt}
use Rattle.std.proofs.lemmas.List.{append-nil, length-append, length-drop, length-take-le, take-append-drop}
use Rattle.std.proofs.lemmas.Option.{slice_get_within, slice_get_past}
use Rattle.xid_circle.specs.declared.Tid.{Tid}
use Rattle.index_entries.specs.declared.entry.Entry.{Entry}
use Rattle.index_entries.specs.declared.node.Swept.{Swept}
use Rattle.index_entries.specs.Order.{EntryPrecedes, IsAscending}
use Rattle.index_entries.specs.Sets.{GoesBehind, GoesBefore}
use Rattle.index_entries.specs.Lists.{stays}
use Rattle.index_entries.specs.Sweeps.{IsSwept}
use Rattle.index_entries.proofs.OrderLemmas.{Precedes-trans}
use Rattle.index_entries.proofs.SetLemmas.{same_place, ascending-at, none_there}

-- Beside one entry.

pub behind_one : (xs : List Entry) (x b : Entry) (i : ℕ) → IsAscending xs → 0 < i → slice_get xs (i - 1) ≡ Some b → EntryPrecedes b x → GoesBehind xs x i
behind_one xs x b i up some at less = record {
  some = some;
  in_range = omega (arith, some, slice_get_within xs (i - 1) b at);
  before = λ k e lt at_k. elim (cases_lt k (i - 1)) [
    | inl below ↦ Precedes-trans e b x (ascending-at xs k (i - 1) e b up below at_k at) less
    | inr le ↦ subst (λ y. EntryPrecedes y x) (same_place xs (i - 1) k b e (omega arith) at at_k) less
  ];
}

pub before_one : (xs : List Entry) (x b : Entry) (is_last : Bool) (i : ℕ) → IsAscending xs → slice_get xs i ≡ Some b → EntryPrecedes x b → GoesBefore xs x is_last i
before_one xs x b is_last i up at less = record {
  after = λ k e le at_k. elim (cases_lt i k) [
    | inl above ↦ Precedes-trans x b e less (ascending-at xs i k b e up above at at_k)
    | inr same ↦ subst (EntryPrecedes x) (same_place xs i k b e (omega arith) at at_k) less
  ];
  more = inl (slice_get_within xs i b at);
}

pub before_none : (xs : List Entry) (x : Entry) (is_last : Bool) (i : ℕ) → slice_get xs i ≡ None → IsTrue is_last → GoesBefore xs x is_last i
before_none xs x is_last i none last = record {
  after = λ k e le at_k. absurd (omega (arith, le, none_there xs i none, slice_get_within xs k e at_k));
  more = inr last;
}

-- A sweep.

pub swept_leaf : {S : Type 0} (xs new : List Entry) (from : ℕ) (dead : List Tid) (swept : Swept S) → from < length xs → new ≡ take from xs ++ filter (stays dead) (drop from xs)
    → slice_get xs (length xs - 1) ≡ Some swept.last → swept.removed + length new ≡ length xs → swept.more ≡ false → IsSwept xs new from dead swept
swept_leaf xs new from dead swept within is last removed more =
    let long = length-drop from xs in
    let end : from + (length (drop from xs) - 1) ≡ length xs - 1 = omega arith in
    let short = length-take-le from xs (omega arith) in
    let made : length new ≡ length (take from xs) + length (filter (stays dead) (drop from xs)) = ap length is ∙ length-append (take from xs) (filter (stays dead) (drop from xs)) in
    record {
      prefix = take from xs;
      piece = drop from xs;
      back = [];
      was = sym (take-append-drop from xs) ∙ ap (λ ys. take from xs ++ ys) (sym (append-nil (drop from xs)));
      is = is ∙ ap (λ ys. take from xs ++ ys) (sym (append-nil (filter (stays dead) (drop from xs))));
      begins = short;
      last = get_drop xs from (length (drop from xs) - 1) ∙ ap (slice_get xs) end ∙ last;
      removed = omega arith;
      more = (λ h. absurd (cc (h, more)), λ h. absurd (omega (arith, h)));
    }
  where
    get_drop : (xs : List Entry) (n k : ℕ) → slice_get (drop n xs) k ≡ slice_get xs (n + k)
    get_drop xs zero k = let is : k ≡ 0 + k = omega arith in ap (slice_get xs) is
    get_drop [] (suc n) k = sym (slice_get_past [] (suc n + k) (omega arith)) ∙ refl
    get_drop (x ∷ xs) (suc n) k = let is : suc (n + k) ≡ suc n + k = omega arith in get_drop xs n k ∙ ap (slice_get (x ∷ xs)) is
