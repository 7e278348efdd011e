-- The rest of a model's cursor: what lies within bounds, and what is left where some rows were taken.
use Rattle.std.proofs.Common.{◌≡◌, ◌≢◌, ℕ, zero, suc, ◌<◌, List, [], ◌∷◌, Option, Some, None, Bool, true, ◌||◌, ◌&&◌, false, nat_eq, refl, sym, ap, ◌∙◌, subst, ◌⊎◌, inl, inr, arith, slice_get}
use Rattle.std.specs.Prelude.{ℤ, ◌<ℤ◌, ◌≤ℤ◌, int_le}
use Rattle.std.specs.List.{list_any}
use Rattle.std.proofs.lemmas.Bool.{cases_eq, cases_lt, cases_Bool, cond-true, cond-false, eq-eqb, ne_eqb}
use Rattle.std.proofs.lemmas.Int.{ints, by_lt_z}
use Rattle.std.proofs.lemmas.Option.{same_Some, none-some}
use Rattle.tuple_header.specs.declared.version.Row.{Row}
use Rattle.tuple_header.specs.IndexValue.{value_in}
use Rattle.history.specs.Cursors.{ComesBefore, kept_where, rows_within, keys_of, without, IsOver}
use Rattle.refinement.specs.Cursors.{IsPastPosition}
use Rattle.refinement.specs.Heap.{RowPosition}

-- What lies within bounds.

kept_is : {A : Type 0} (test : A → Bool) (o : Option A) (x : A) → kept_where test o ≡ Some x → (o ≡ Some x) × (test x ≡ true)
kept_is test None x is = absurd (none-some x is)
kept_is test (Some y) x is = elim (cases_Bool (test y)) [
  | inl yes' ↦ (let same : y ≡ x = same_Some y x (sym (cond-true (test y) (Some y) None yes') ∙ is) in (ap Some same, subst (λ z. test z ≡ true) same yes'))
  | inr no' ↦ absurd (none-some x (sym (cond-false (test y) (Some y) None no') ∙ is))
]

between : (low v high : ℤ) → (int_le low v && int_le v high) ≡ true → (low ≤ℤ v) × (v ≤ℤ high)
between low v high is = (grind (arith, ints), grind (arith, ints))

between_is : (low v high : ℤ) → low ≤ℤ v → v ≤ℤ high → (int_le low v && int_le v high) ≡ true
between_is low v high from to = grind (arith, ints)

pub within_is : (index : ℕ) (low high : ℤ) (rows : ℕ → Option Row) (k : ℕ) (row : Row) → rows_within index low high rows k ≡ Some row
    → (rows k ≡ Some row) × (low ≤ℤ value_in index row) × (value_in index row ≤ℤ high)
within_is index low high rows k row is =
    let kept = kept_is (λ (r : Row). int_le low (value_in index r) && int_le (value_in index r) high) (rows k) row is in
    let bounds = between low (value_in index row) high kept.1 in
    (kept.0, bounds.0, bounds.1)

pub within_kept : (index : ℕ) (low high : ℤ) (rows : ℕ → Option Row) (k : ℕ) (row : Row) → rows k ≡ Some row → low ≤ℤ value_in index row → value_in index row ≤ℤ high
    → rows_within index low high rows k ≡ Some row
within_kept index low high rows k row is from to =
    let test : Row → Bool = λ r. int_le low (value_in index r) && int_le (value_in index r) high in
    ap (kept_where test) is ∙ cond-true (test row) (Some row) None (between_is low (value_in index row) high from to)

-- Rows taken from the rest.

-- none of the rows is of the key
abbrev pub AreOthers : List Row → ℕ → Type 0
AreOthers rows k = (i : ℕ) (row : Row) → slice_get rows i ≡ Some row → row.key ≢ k

-- the key is that of a row that is taken
abbrev taken : List Row → ℕ → Bool
taken rows k = list_any (λ j. nat_eq j k) (keys_of rows)

others_more : (r : Row) (rows : List Row) (k : ℕ) → r.key ≢ k → AreOthers rows k → AreOthers (r ∷ rows) k
others_more r rows k ne others zero row at = subst (λ (x : Row). x.key ≢ k) (same_Some r row at) ne
others_more r rows k ne others (suc i) row at = others i row at

taken_cases : (rows : List Row) (k : ℕ) → ((taken rows k ≡ true) × ((i : ℕ) × (row : Row) × (slice_get rows i ≡ Some row) × (row.key ≡ k))) ⊎ ((taken rows k ≡ false) × AreOthers rows k)
taken_cases [] k = inr (refl, λ i row at. absurd (none-some row at))
taken_cases (r ∷ rows) k = elim (cases_eq r.key k) [
  | inl same ↦ inl (ap (λ b. b || taken rows k) (eq-eqb r.key k same), (0, r, refl, same))
  | inr ne ↦ elim (taken_cases rows k) [
    | inl later ↦ inl (ap (λ b. b || taken rows k) (ne_eqb r.key k ne) ∙ later.0, (suc later.1.0, later.1.1, later.1.2, later.1.3))
    | inr none ↦ inr (ap (λ b. b || taken rows k) (ne_eqb r.key k ne) ∙ none.0, others_more r rows k ne none.1)
  ]
]

pub left_is : (rows : List Row) (rest : ℕ → Option Row) (k : ℕ) (row : Row) → without (keys_of rows) rest k ≡ Some row → (rest k ≡ Some row) × AreOthers rows k
left_is rows rest k row is = elim (taken_cases rows k) [
  | inl some ↦ absurd (none-some row (sym (cond-true (taken rows k) None (rest k) some.0) ∙ is))
  | inr none ↦ (sym (cond-false (taken rows k) None (rest k) none.0) ∙ is, none.1)
]

pub left_kept : (rows : List Row) (rest : ℕ → Option Row) (k : ℕ) (row : Row) → rest k ≡ Some row → AreOthers rows k → without (keys_of rows) rest k ≡ Some row
left_kept rows rest k row is others = elim (taken_cases rows k) [
  | inl some ↦ absurd (others some.1.0 some.1.1 some.1.2 some.1.3)
  | inr none ↦ cond-false (taken rows k) None (rest k) none.0 ∙ is
]

pub none_left : (rest : ℕ → Option Row) → ((k : ℕ) (row : Row) → rest k ≡ Some row → ⊥) → IsOver rest
none_left rest none k = nothing (rest k) refl
  where
    nothing : (o : Option Row) → rest k ≡ o → rest k ≡ None
    nothing None is = is
    nothing (Some row) is = absurd (none k row is)

-- The order of an index.

abbrev Precedes : ℤ → ℤ → ℕ → ℕ → Type 0
Precedes x y i j = (x <ℤ y) ⊎ (x ≡ y) × (i < j)

Precedes-trans : (x y z : ℤ) (i j k : ℕ) → Precedes x y i j → Precedes y z j k → Precedes x z i k
Precedes-trans x y z i j k (inl a) (inl b) = inl (omega (arith, ints))
Precedes-trans x y z i j k (inl a) (inr b) = inl (subst (λ v. x <ℤ v) b.0 a)
Precedes-trans x y z i j k (inr a) (inl b) = inl (subst (λ v. v <ℤ z) (sym a.0) b)
Precedes-trans x y z i j k (inr a) (inr b) = let lt : i < j = a.1 in let lt' : j < k = b.1 in inr (a.0 ∙ b.0, omega arith)

Precedes-irrefl : (x : ℤ) (i : ℕ) → ¬ Precedes x x i i
Precedes-irrefl x i (inl a) = omega (arith, ints)
Precedes-irrefl x i (inr a) = let lt : i < i = a.1 in absurd (omega arith)

-- what is not after a place comes before what is
Precedes-across : (x y z : ℤ) (i j k : ℕ) → ¬ Precedes x y i j → Precedes x z i k → Precedes y z j k
Precedes-across x y z i j k isnt after = by_lt_z y z (λ lt. inl lt) (λ le. by_lt_z x y (λ lt. absurd (isnt (inl lt))) (λ le'. inr (last le le' after)))
  where
    later : x ≡ y → i < k → j < k
    later same lt = elim (cases_lt i j) [ inl below ↦ absurd (isnt (inr (same, below))) | inr above ↦ omega arith ]

    last : z ≤ℤ y → y ≤ℤ x → Precedes x z i k → (y ≡ z) × (j < k)
    last le le' (inl lt) = absurd (let bad : x <ℤ x = omega (arith, ints) in omega (arith, ints))
    last le le' (inr (same, lt)) =
        let back : z ≡ x = sym same in
        let is : y ≡ z = omega (arith, ints) in
        (is, later (same ∙ sym is) lt)

pub ComesBefore-irrefl : (index : ℕ) (a : Row) → ¬ ComesBefore index a a
ComesBefore-irrefl index a before = Precedes-irrefl (value_in index a) a.key before

pub IsAfter-onward : (index : ℕ) (last : Option RowPosition) (a b : Row) → IsPastPosition index last a → ComesBefore index a b → IsPastPosition index last b
IsAfter-onward index None a b after before = tt
IsAfter-onward index (Some last) a b after before = Precedes-trans last.value (value_in index a) (value_in index b) last.key a.key b.key after before

pub before_after : (index : ℕ) (last : Option RowPosition) (a b : Row) → ¬ IsPastPosition index last a → IsPastPosition index last b → ComesBefore index a b
before_after index None a b isnt after = absurd (isnt tt)
before_after index (Some last) a b isnt after = Precedes-across last.value (value_in index a) (value_in index b) last.key a.key b.key isnt after
