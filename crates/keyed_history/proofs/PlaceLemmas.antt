-- Where a key was written last, and what is read by it.
use Rattle.std.proofs.Common.{◌≡◌, ℕ, zero, suc, ◌+◌, ◌<◌, List, [], ◌∷◌, ◌++◌, length, take, get_or, slice_get, Option, Some, None, Bool, true, false, cond, nat_eq, refl, sym, ap, ◌∙◌, subst, arith, inl, inr}
use Rattle.std.specs.Prelude.{IsSome}
use Rattle.std.specs.Option.{option_or, option_map}
use Rattle.std.proofs.lemmas.Bool.{cases_eq, cond-true, cond-false, eq-eqb, ne_eqb}
use Rattle.std.proofs.lemmas.List.{take_more, length-take-le}
use Rattle.std.proofs.lemmas.Option.{none-some, same_Some}
use Rattle.history.specs.History.{Write, said, written}
use Rattle.history.proofs.HistoryLemmas.{said-same, said-other}
use Rattle.keyed_history.specs.Places.{last_place}

-- no write of the key has a place
pub unplaced : (writes : List Write) (key : ℕ) → last_place writes key ≡ None → written writes key ≡ None
unplaced [] key none = refl
unplaced (write ∷ later) key none = by (last_place later key) refl (unplaced later key) none
  where
    by : (o : Option ℕ) → last_place later key ≡ o → (last_place later key ≡ None → written later key ≡ None)
        → option_or (option_map suc o) (cond (nat_eq write.key key) (Some 0) None) ≡ None → option_or (written later key) (said write key) ≡ None
    by (Some i) is none_later never = absurd (none-some (suc i) (sym never))
    by None is none_later rest = elim (cases_eq write.key key) [
      | inl same ↦ absurd (none-some 0 (sym rest ∙ cond-true (nat_eq write.key key) (Some 0) None (eq-eqb write.key key same)))
      | inr ne ↦ ap (λ o. option_or o (said write key)) (none_later is) ∙ said-other write key ne
    ]

-- the write at the place of a key is of that key, and is what was written last
pub record Stands (writes : List Write) (key i : ℕ) (write : Write) : Type 0 where
  pub at : slice_get writes i ≡ Some write
  pub of_key : write.key ≡ key
  pub last : written writes key ≡ Some write.row

pub placed : (writes : List Write) (key i : ℕ) → last_place writes key ≡ Some i → (write : Write) × Stands writes key i write
placed [] key i is = absurd (none-some i is)
placed (write ∷ later) key i is = by (last_place later key) refl (placed later key) is
  where
    by : (o : Option ℕ) → last_place later key ≡ o → ((j : ℕ) → last_place later key ≡ Some j → (w : Write) × Stands later key j w)
        → option_or (option_map suc o) (cond (nat_eq write.key key) (Some 0) None) ≡ Some i → (w : Write) × Stands (write ∷ later) key i w
    by (Some j) at found_later is' =
        let found = found_later j at in (
          found.0,
          subst (λ k. Stands (write ∷ later) key k found.0) (same_Some (suc j) i is') (record {
            at = found.1.at;
            of_key = found.1.of_key;
            last = ap (λ o. option_or o (said write key)) found.1.last;
          }),
        )
    by None at found_later is' = elim (cases_eq write.key key) [
      | inl same ↦ (
        write,
        subst (λ k. Stands (write ∷ later) key k write) (same_Some 0 i (sym (cond-true (nat_eq write.key key) (Some 0) None (eq-eqb write.key key same)) ∙ is')) (record {
          at = refl;
          of_key = same;
          last = ap (λ o. option_or o (said write key)) (unplaced later key at) ∙ said-same write key same;
        }),
      )
      | inr ne ↦ absurd (none-some i (sym (cond-false (nat_eq write.key key) (Some 0) None (ne_eqb write.key key ne)) ∙ is'))
    ]

-- what was written has a place
pub has_place : (writes : List Write) (key : ℕ) → IsSome (written writes key) → (i : ℕ) × (last_place writes key ≡ Some i)
has_place writes key some = by (last_place writes key) refl
  where
    by : (o : Option ℕ) → last_place writes key ≡ o → (i : ℕ) × (last_place writes key ≡ Some i)
    by (Some i) is = (i, is)
    by None is = absurd (let never : false ≡ true = subst IsSome (unplaced writes key is) some in cc)

-- one write more
pub last_place-push : (writes : List Write) (write : Write) (key : ℕ) → last_place (writes ++ write ∷ []) key ≡ cond (nat_eq write.key key) (Some (length writes)) (last_place writes key)
last_place-push [] write key = refl
last_place-push (first ∷ writes) write key = ap (λ o. option_or (option_map suc o) (cond (nat_eq first.key key) (Some 0) None)) (last_place-push writes write key) ∙ by (nat_eq write.key key)
  where
    by : (b : Bool) → option_or (option_map suc (cond b (Some (length writes)) (last_place writes key))) (cond (nat_eq first.key key) (Some 0) None)
        ≡ cond b (Some (suc (length writes))) (option_or (option_map suc (last_place writes key)) (cond (nat_eq first.key key) (Some 0) None))
    by true = refl
    by false = refl

pub last_place-take : (writes : List Write) (i : ℕ) (x : Write) (key : ℕ) → i < length writes → x ≡ get_or writes i x
    → last_place (take (i + 1) writes) key ≡ cond (nat_eq x.key key) (Some i) (last_place (take i writes) key)
last_place-take writes i x key lt is = ap (λ ws. last_place ws key) (take_more writes i x lt) ∙ (last_place-push (take i writes) (get_or writes i x) key
    ∙ (ap (λ (y : Write). cond (nat_eq y.key key) (Some (length (take i writes))) (last_place (take i writes) key)) (sym is)
    ∙ ap (λ n. cond (nat_eq x.key key) (Some n) (last_place (take i writes) key)) (length-take-le i writes (omega (arith, lt)))))

-- the first of the writes have no place that all of them lack
pub unplaced-take : (writes : List Write) (i key : ℕ) → last_place writes key ≡ None → last_place (take i writes) key ≡ None
unplaced-take writes zero key none = refl
unplaced-take [] (suc i) key none = refl
unplaced-take (write ∷ later) (suc i) key none = by (last_place later key) refl (unplaced-take later i key) none
  where
    by : (o : Option ℕ) → last_place later key ≡ o → (last_place later key ≡ None → last_place (take i later) key ≡ None)
        → option_or (option_map suc o) (cond (nat_eq write.key key) (Some 0) None) ≡ None
        → option_or (option_map suc (last_place (take i later) key)) (cond (nat_eq write.key key) (Some 0) None) ≡ None
    by (Some j) is none_later never = absurd (none-some (suc j) (sym never))
    by None is none_later rest = ap (λ o. option_or (option_map suc o) (cond (nat_eq write.key key) (Some 0) None)) (none_later is) ∙ rest
