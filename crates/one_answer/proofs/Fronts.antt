-- The next rows of a cursor in the order of an index are one list.
use Rattle.std.proofs.Common.{◌≡◌, ◌≢◌, ℕ, zero, suc, ◌-◌, ◌<◌, ◌≤◌, List, [], ◌∷◌, length, Option, Some, None, Bool, true, false, cond, ◌||◌, nat_eq, refl, sym, ap, ◌∙◌, subst, arith, ◌⊎◌, inl, inr, slice_get, max}
use Rattle.std.specs.Prelude.{ℤ, ◌<ℤ◌}
use Rattle.std.specs.List.{list_any}
use Rattle.std.proofs.lemmas.Bool.{cases_eq, cases_Bool, ne_eqb}
use Rattle.std.proofs.lemmas.Int.{ints}
use Rattle.std.proofs.lemmas.Option.{none-some, same_Some}
use Rattle.tuple_header.specs.declared.version.Row.{Row}
use Rattle.tuple_header.specs.IndexValue.{value_in}
use Rattle.history.specs.Cursors.{ComesBefore, keys_of, without, IsOver, AreNext}

-- the next k rows, or all that are left
record IsFront (index k : ℕ) (rest : ℕ → Option Row) (rows : List Row) : Type 0 where
  theirs : (i : ℕ) (row : Row) → slice_get rows i ≡ Some row → rest row.key ≡ Some row
  once : (i j : ℕ) (a b : Row) → slice_get rows i ≡ Some a → slice_get rows j ≡ Some b → a.key ≡ b.key → i ≡ j
  in_order : (i j : ℕ) (a b : Row) → slice_get rows i ≡ Some a → slice_get rows j ≡ Some b → i < j → ComesBefore index a b
  before_rest : (i : ℕ) (a b : Row) → slice_get rows i ≡ Some a → without (keys_of rows) rest b.key ≡ Some b → ComesBefore index a b
  at_most : length rows ≤ k
  all_left : length rows < k → IsOver (without (keys_of rows) rest)

-- a row of the rest whose key is among these
found : (rows : List Row) (key : ℕ) → list_any (λ taken. nat_eq taken key) (keys_of rows) ≡ true → (i : ℕ) × (q : Row) × (slice_get rows i ≡ Some q) × (q.key ≡ key)
found [] key is = absurd (let never : false ≡ true = is in cc)
found (q ∷ rows) key is = elim (cases_eq q.key key) [
  | inl same ↦ (zero, q, refl, same)
  | inr ne ↦ (let later = found rows key (sym (ap (λ b. b || list_any (λ taken. nat_eq taken key) (keys_of rows)) (ne_eqb q.key key ne)) ∙ is) in (suc later.0, later.1, later.2, later.3))
]

at_place : (index : ℕ) (y : Row) (b : List Row) (r : Row) → ((j : ℕ) (q : Row) → slice_get (y ∷ b) j ≡ Some q → 0 < j → ComesBefore index y q)
    → (i : ℕ) (q : Row) → slice_get (y ∷ b) i ≡ Some q → q ≡ r → (r ≡ y) ⊎ ComesBefore index y r
at_place index y b r order zero q at same = inl (sym (same_Some y q at ∙ same))
at_place index y b r order (suc i) q at same = inr (subst (λ q. ComesBefore index y q) same (order (suc i) q at (omega arith)))

-- the first comes before every other row of the rest
least : (index k : ℕ) (rest : ℕ → Option Row) (y : Row) (b : List Row) → IsFront index k rest (y ∷ b) → (r : Row) → rest r.key ≡ Some r → (r ≡ y) ⊎ ComesBefore index y r
least index k rest y b front r here = elim (cases_Bool (list_any (λ taken. nat_eq taken r.key) (keys_of (y ∷ b)))) [
  | inl among ↦ (let f = found (y ∷ b) r.key among in
      let same : f.1 ≡ r = same_Some f.1 r (sym (front.theirs f.0 f.1 f.2) ∙ (ap rest f.3 ∙ here)) in
      at_place index y b r (λ j q at lt. front.in_order zero j y q refl at lt) f.0 f.1 f.2 same)
  | inr isnt ↦ inr (front.before_rest zero y r refl (ap (λ b. cond b None (rest r.key)) isnt ∙ here))
]

never_both : (x y : ℤ) (i j : ℕ) → (x <ℤ y) ⊎ (x ≡ y) × (i < j) → (y <ℤ x) ⊎ (y ≡ x) × (j < i) → ⊥
never_both x y i j (inl a) (inl b) = omega (arith, ints)
never_both x y i j (inl a) (inr b) = let same : y ≡ x = b.0 in omega (arith, ints)
never_both x y i j (inr a) (inl b) = let same : x ≡ y = a.0 in omega (arith, ints)
never_both x y i j (inr a) (inr b) = let lt : i < j = a.1 in let lt' : j < i = b.1 in omega arith

same_first : (index k : ℕ) (rest : ℕ → Option Row) (x y : Row) (a b : List Row) → IsFront index k rest (x ∷ a) → IsFront index k rest (y ∷ b) → x ≡ y
same_first index k rest x y a b front front' = elim (least index k rest y b front' x (front.theirs zero x refl)) [
  | inl same ↦ same
  | inr after ↦ elim (least index k rest x a front y (front'.theirs zero y refl)) [
    | inl same ↦ sym same
    | inr before ↦ absurd (never_both (value_in index y) (value_in index x) y.key x.key after before)
  ]
]

-- One row more, or fewer.

one_out : (p q : Bool) (o : Option Row) → cond (p || q) None o ≡ cond q None (cond (p || false) None o)
one_out true true o = refl
one_out true false o = refl
one_out false true o = refl
one_out false false o = refl

without-one : (k : ℕ) (keys : List ℕ) (rest : ℕ → Option Row) (key : ℕ) → without (k ∷ keys) rest key ≡ without keys (without (k ∷ []) rest) key
without-one k keys rest key = one_out (nat_eq k key) (list_any (λ taken. nat_eq taken key) keys) (rest key)

without-other : (k : ℕ) (rest : ℕ → Option Row) (key : ℕ) → k ≢ key → without (k ∷ []) rest key ≡ rest key
without-other k rest key ne = ap (λ b. cond (b || false) None (rest key)) (ne_eqb k key ne)

fewer : (index k : ℕ) (rest : ℕ → Option Row) (x : Row) (a : List Row) → IsFront index k rest (x ∷ a) → IsFront index (k - 1) (without (x.key ∷ []) rest) a
fewer index k rest x a front = record {
  theirs = λ i row at. without-other x.key rest row.key (λ same. let never : zero ≡ suc i = front.once zero (suc i) x row refl at same in omega arith) ∙ front.theirs (suc i) row at;
  once = λ i j p q at bt same. let e : suc i ≡ suc j = front.once (suc i) (suc j) p q at bt same in omega arith;
  in_order = λ i j p q at bt lt. front.in_order (suc i) (suc j) p q at bt (omega arith);
  before_rest = λ i p q at left. front.before_rest (suc i) p q at (without-one x.key (keys_of a) rest q.key ∙ left);
  at_most = let le : length (x ∷ a) ≤ k = front.at_most in omega arith;
  all_left = λ lt key. sym (without-one x.key (keys_of a) rest key) ∙ front.all_left (omega arith) key;
}

one_front : (index k : ℕ) (rest : ℕ → Option Row) (a b : List Row) → IsFront index k rest a → IsFront index k rest b → a ≡ b
one_front index k rest [] [] front front' = refl
one_front index k rest [] (y ∷ b) front front' =
    absurd (none-some y (sym (front.all_left (let le : length (y ∷ b) ≤ k = front'.at_most in omega arith) y.key) ∙ front'.theirs zero y refl))
one_front index k rest (x ∷ a) [] front front' =
    absurd (none-some x (sym (front'.all_left (let le : length (x ∷ a) ≤ k = front.at_most in omega arith) x.key) ∙ front.theirs zero x refl))
one_front index k rest (x ∷ a) (y ∷ b) front front' =
    let same : x ≡ y = same_first index k rest x y a b front front' in
    let later : a ≡ b = one_front index (k - 1) (without (x.key ∷ []) rest) a b (fewer index k rest x a front)
    (subst (λ (z : Row). IsFront index (k - 1) (without (z.key ∷ []) rest) b) (sym same) (fewer index k rest y b front')) in
    cc

front_of : (index n : ℕ) (rest : ℕ → Option Row) (rows : List Row) → AreNext index n rest rows → IsFront index (max 1 n) rest rows
front_of index n rest rows next = record {
  theirs = next.part.of.theirs;
  once = next.part.of.once;
  in_order = next.in_order;
  before_rest = next.before_rest;
  at_most = next.at_most;
  all_left = next.all_left;
}

pub one_next : (index n : ℕ) (rest : ℕ → Option Row) (a b : List Row) → AreNext index n rest a → AreNext index n rest b → a ≡ b
one_next index n rest a b next next' = one_front index (max 1 n) rest a b (front_of index n rest a next) (front_of index n rest b next')
