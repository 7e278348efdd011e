-- What a search knows of the entries that it has not looked at.
use Rattle.std.proofs.Common.{◌≡◌, ◌∙◌, ℕ, ◌+◌, ◌<◌, ◌≤◌, inl, inr, List, length, get_or, Some, slice_get, false, sym, ap, refl, arith, subst}
use Rattle.std.specs.Ordering.{is_lt, ordering_reverse}
use Rattle.std.specs.declared.cmp.Ordering.{Ordering}
use Rattle.std.specs.declared.cmp.Ordering.TheVariants.{Less, Equal, Greater}
use Rattle.std.proofs.lemmas.Bool.{cases_lt}
use Rattle.std.proofs.lemmas.Option.{slice_get-get_or, slice_get_within}
use Rattle.index_entries.specs.declared.entry.Entry.{Entry}
use Rattle.index_entries.specs.Order.{comparison, EntryPrecedes, IsAscending}
use Rattle.index_entries.specs.Sets.{IsAt, IsGapFor}
use Rattle.index_entries.proofs.OrderLemmas.{comparison_total, Precedes-trans, same-from_tied}
use Rattle.index_entries.proofs.SetLemmas.{same_place, ascending-at}

-- the entries before low precede the sought one, and those from high on don't
pub record IsBracket (entries : List Entry) (sought : Entry) (low high : ℕ) : Type 0 where
  pub order : low ≤ high
  pub in_range : high ≤ length entries
  pub before : (k : ℕ) (e : Entry) → k < low → slice_get entries k ≡ Some e → EntryPrecedes e sought
  pub after : (k : ℕ) (e : Entry) → high ≤ k → slice_get entries k ≡ Some e → ¬ EntryPrecedes e sought

not_less_from_test : (o : Ordering) → is_lt o ≡ false → ¬ (o ≡ Less)
not_less_from_test o test less = absurd (let yes = ap is_lt less in cc)

-- An entry was looked at. Where it precedes the sought one, all before it do so too.

pub looked_less : (xs : List Entry) (x d : Entry) (low high i : ℕ) → IsAscending xs → IsBracket xs x low high → i < high → comparison (get_or xs i d) x ≡ Less
    → IsBracket xs x (i + 1) high
looked_less xs x d low high i up bracket within less =
    let at = slice_get-get_or xs i d (omega (arith, within, bracket.in_range)) in
    record {
      order = omega arith;
      in_range = bracket.in_range;
      before = λ k e lt at_k. elim (cases_lt k i) [
        | inl below ↦ Precedes-trans e (get_or xs i d) x (ascending-at xs k i e (get_or xs i d) up below at_k at) less
        | inr le ↦ subst (λ y. EntryPrecedes y x) (same_place xs i k (get_or xs i d) e (omega arith) at at_k) less
      ];
      after = bracket.after;
    }

pub looked_not_less : (xs : List Entry) (x d : Entry) (low high i : ℕ) → IsAscending xs → IsBracket xs x low high → low ≤ i → i < high
    → is_lt (comparison (get_or xs i d) x) ≡ false → IsBracket xs x low i
looked_not_less xs x d low high i up bracket from_low within test =
    let not_less = not_less_from_test (comparison (get_or xs i d) x) test in
    let at = slice_get-get_or xs i d (omega (arith, within, bracket.in_range)) in
    record {
      order = from_low;
      in_range = omega (arith, within, bracket.in_range);
      before = bracket.before;
      after = λ k e le at_k less. elim (cases_lt i k) [
        | inl above ↦ not_less (Precedes-trans (get_or xs i d) e x (ascending-at xs i k (get_or xs i d) e up above at at_k) less)
        | inr same ↦ not_less (subst (λ y. EntryPrecedes y x) (same_place xs k i e (get_or xs i d) (omega arith) at_k at) less)
      ];
    }

-- Where it does not stand where both meet, it goes there.

behind_by_case : (x y : Entry) (o : Ordering) → comparison x y ≡ o → ¬ (y ≡ x) → ¬ EntryPrecedes y x → EntryPrecedes x y
behind_by_case x y Less e other not_less = e
behind_by_case x y Equal e other not_less = absurd (other (sym (same-from_tied x y e)))
behind_by_case x y Greater e other not_less = absurd (not_less (comparison_total.antisymm y x ∙ ap ordering_reverse e))

pub gap-from_bracket : (xs : List Entry) (x : Entry) (low high : ℕ) → IsAscending xs → IsBracket xs x low high → high ≤ low → ¬ IsAt xs x low → IsGapFor xs x low
gap-from_bracket xs x low high up bracket over absent = record {
  in_range = omega (arith, bracket.order, bracket.in_range);
  before = bracket.before;
  after = λ k e le at. elim (cases_lt low k) [
    | inl above ↦
        let first = get_or xs low e in
        let here = slice_get-get_or xs low e (omega (arith, above, slice_get_within xs k e at)) in
        Precedes-trans x first e (goes_before first here) (ascending-at xs low k first e up above here at)
    | inr same ↦
        let is : k ≡ low = omega (arith, same, le) in
        goes_before e (ap (slice_get xs) (sym is) ∙ at)
  ];
}
  where
    goes_before : (y : Entry) → slice_get xs low ≡ Some y → EntryPrecedes x y
    goes_before y here = behind_by_case x y (comparison x y) refl (λ same. absent (here ∙ ap Some same)) (bracket.after low y over here)
