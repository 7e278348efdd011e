-- Rows in the order of an index.
use Rattle.std.proofs.Common.{◌≡◌, ◌≢◌, ℕ, zero, suc, ◌+◌, ◌<◌, ◌≤◌, List, [], ◌∷◌, length, take, drop, Option, Some, None, true, false, cond, ◌||◌, ◌&&◌, nat_eq, refl, sym, ap, ◌∙◌, subst, arith, ◌⊎◌, inl, inr, slice_get, max, min, length-take, zero-add}
use Rattle.std.specs.Prelude.{ℤ, ◌<ℤ◌, int_lt, nat_lt}
use Rattle.std.specs.List.{list_any}
use Rattle.std.specs.Ordering.{int_eq}
use Rattle.std.specs.Bool.{Decides}
use Rattle.std.proofs.lemmas.Bool.{cases_eq, cases_lt, cases_Bool, cond-true, cond-false, eq-eqb, ne_eqb}
use Rattle.std.proofs.lemmas.Bool.Decides.{Decides-or, Decides-and, Decides-int_eq, Decides-ltb}
use Rattle.std.proofs.lemmas.Int.{ints, by_lt_z}
use Rattle.std.proofs.lemmas.Option.{none-some, same_Some}
use Rattle.tuple_header.specs.declared.version.Row.{Row}
use Rattle.tuple_header.specs.IndexValue.{value_in}
use Rattle.history.specs.Cursors.{ComesBefore, keys_of, without, AreNext}
use Rattle.plain_cursor.specs.Order.{row_of_key, comes_before, ComesBeforeAll, IsInOrder, placed}

-- the order of two values with their keys
abbrev Comes : ℤ → ℤ → ℕ → ℕ → Type 0
Comes x y i j = (x <ℤ y) ⊎ (x ≡ y) × (i < j)

Decides-int_lt : (x y : ℤ) → Decides (int_lt x y) (x <ℤ y)
Decides-int_lt x y = (λ e. grind (arith, ints), λ h. grind (arith, ints))

Decides-comes : (x y : ℤ) (i j : ℕ) → Decides (int_lt x y || (int_eq x y && nat_lt i j)) (Comes x y i j)
Decides-comes x y i j = Decides-or (int_lt x y) (int_eq x y && nat_lt i j) (Decides-int_lt x y) (Decides-and (int_eq x y) (nat_lt i j) (Decides-int_eq x y) (Decides-ltb i j))

Comes-other : (x y : ℤ) (i j : ℕ) → i ≢ j → ¬ Comes x y i j → Comes y x j i
Comes-other x y i j ne isnt =
    by_lt_z x y (λ lt. absurd (isnt (inl lt))) (λ le. by_lt_z y x (λ lt. inl lt) (λ ge. inr (let same : y ≡ x = omega (arith, ints) in (same, later (sym same)))))
  where
    later : x ≡ y → j < i
    later same = elim (cases_lt i j) [ inl lt ↦ absurd (isnt (inr (same, lt))) | inr le ↦ omega arith ]

Comes-trans : (x y z : ℤ) (i j k : ℕ) → Comes x y i j → Comes y z j k → Comes x z i k
Comes-trans x y z i j k (inl a) (inl b) = inl (omega (arith, ints))
Comes-trans x y z i j k (inl a) (inr b) = inl (subst (λ v. x <ℤ v) b.0 a)
Comes-trans x y z i j k (inr a) (inl b) = inl (subst (λ v. v <ℤ z) (sym a.0) b)
Comes-trans x y z i j k (inr a) (inr b) = let lt : i < j = a.1 in let lt' : j < k = b.1 in inr (a.0 ∙ b.0, omega arith)

-- Of rows.

pub before-says : (index : ℕ) (a b : Row) → comes_before index a b ≡ true → ComesBefore index a b
before-says index a b e = (Decides-comes (value_in index a) (value_in index b) a.key b.key).0 e

before-trans : (index : ℕ) (a b c : Row) → comes_before index a b ≡ true → comes_before index b c ≡ true → comes_before index a c ≡ true
before-trans index a b c e f =
    (Decides-comes (value_in index a) (value_in index c) a.key c.key).1 (Comes-trans (value_in index a) (value_in index b) (value_in index c) a.key b.key c.key (before-says index a b e) (before-says index b c f))

before-other : (index : ℕ) (a b : Row) → a.key ≢ b.key → comes_before index a b ≡ false → comes_before index b a ≡ true
before-other index a b ne e =
    (Decides-comes (value_in index b) (value_in index a) b.key a.key).1 (Comes-other (value_in index a) (value_in index b) a.key b.key ne
    (λ comes. let yes : comes_before index a b ≡ true = (Decides-comes (value_in index a) (value_in index b) a.key b.key).1 comes in let never : false ≡ true = sym e ∙ yes in absurd (cc)))

-- the row of a key in a list with one more at its head
pub row_in-head : (row : Row) (rows : List Row) (key : ℕ) → row.key ≡ key → row_of_key (row ∷ rows) key ≡ Some row
row_in-head row rows key same = cond-true (nat_eq row.key key) (Some row) (row_of_key rows key) (eq-eqb row.key key same)

pub row_in-tail : (row : Row) (rows : List Row) (key : ℕ) → row.key ≢ key → row_of_key (row ∷ rows) key ≡ row_of_key rows key
row_in-tail row rows key ne = cond-false (nat_eq row.key key) (Some row) (row_of_key rows key) (ne_eqb row.key key ne)

pub other_key : (row : Row) (rows : List Row) (key : ℕ) → row_of_key (row ∷ rows) key ≡ None → row.key ≢ key
other_key row rows key none same = none-some row (sym none ∙ row_in-head row rows key same)

pub rest_key : (row : Row) (rows : List Row) (key : ℕ) → row_of_key (row ∷ rows) key ≡ None → row_of_key rows key ≡ None
rest_key row rows key none = sym (row_in-tail row rows key (other_key row rows key none)) ∙ none

placed-first : (index : ℕ) (row other : Row) (rows : List Row) → comes_before index row other ≡ true → placed index row (other ∷ rows) ≡ row ∷ other ∷ rows
placed-first index row other rows e = cond-true (comes_before index row other) (row ∷ other ∷ rows) (other ∷ placed index row rows) e

placed-later : (index : ℕ) (row other : Row) (rows : List Row) → comes_before index row other ≡ false → placed index row (other ∷ rows) ≡ other ∷ placed index row rows
placed-later index row other rows e = cond-false (comes_before index row other) (row ∷ other ∷ rows) (other ∷ placed index row rows) e

pub placed-same : (index : ℕ) (row : Row) (rows : List Row) → row_of_key rows row.key ≡ None → row_of_key (placed index row rows) row.key ≡ Some row
placed-same index row [] none = row_in-head row [] row.key refl
placed-same index row (other ∷ rows) none = elim (cases_Bool (comes_before index row other)) [
  | inl first ↦ ap (λ l. row_of_key l row.key) (placed-first index row other rows first) ∙ row_in-head row (other ∷ rows) row.key refl
  | inr later ↦ ap (λ l. row_of_key l row.key) (placed-later index row other rows later)
      ∙ (row_in-tail other (placed index row rows) row.key (other_key other rows row.key none) ∙ placed-same index row rows (rest_key other rows row.key none))
]

pub placed-other : (index : ℕ) (row : Row) (rows : List Row) (key : ℕ) → row.key ≢ key → row_of_key (placed index row rows) key ≡ row_of_key rows key
placed-other index row [] key ne = row_in-tail row [] key ne
placed-other index row (other ∷ rows) key ne = elim (cases_Bool (comes_before index row other)) [
  | inl first ↦ ap (λ l. row_of_key l key) (placed-first index row other rows first) ∙ row_in-tail row (other ∷ rows) key ne
  | inr later ↦ ap (λ l. row_of_key l key) (placed-later index row other rows later) ∙ (elim (cases_eq other.key key) [
    | inl same ↦ row_in-head other (placed index row rows) key same ∙ sym (row_in-head other rows key same)
    | inr differs ↦ row_in-tail other (placed index row rows) key differs ∙ (placed-other index row rows key ne ∙ sym (row_in-tail other rows key differs))
  ])
]

all-trans : (index : ℕ) (a b : Row) (rows : List Row) → comes_before index a b ≡ true → ComesBeforeAll index b rows → ComesBeforeAll index a rows
all-trans index a b [] e all = tt
all-trans index a b (c ∷ rows) e all = (before-trans index a b c e all.0, all-trans index a b rows e all.1)

all-placed : (index : ℕ) (a row : Row) (rows : List Row) → comes_before index a row ≡ true → ComesBeforeAll index a rows → ComesBeforeAll index a (placed index row rows)
all-placed index a row [] e all = (e, tt)
all-placed index a row (other ∷ rows) e all = elim (cases_Bool (comes_before index row other)) [
  | inl first ↦ subst (ComesBeforeAll index a) (sym (placed-first index row other rows first)) (e, all)
  | inr later ↦ subst (ComesBeforeAll index a) (sym (placed-later index row other rows later)) (all.0, all-placed index a row rows e all.1)
]

pub placed-in_order : (index : ℕ) (row : Row) (rows : List Row) → row_of_key rows row.key ≡ None → IsInOrder index rows → IsInOrder index (placed index row rows)
placed-in_order index row [] none order = (tt, refl, tt)
placed-in_order index row (other ∷ rows) none order = elim (cases_Bool (comes_before index row other)) [
  | inl first ↦ subst (IsInOrder index) (sym (placed-first index row other rows first)) ((first, all-trans index row other rows first order.0), none, order)
  | inr later ↦ subst (IsInOrder index) (sym (placed-later index row other rows later)) (
    all-placed index other row rows (before-other index row other (λ same. other_key other rows row.key none (sym same)) later) order.0,
    placed-other index row rows other.key (λ same. other_key other rows row.key none (sym same)) ∙ order.1,
    placed-in_order index row rows (rest_key other rows row.key none) order.2,
  )
]

-- The front of the rows, and what is left.

row_in-drop_none : (n : ℕ) (rows : List Row) (key : ℕ) → row_of_key rows key ≡ None → row_of_key (drop n rows) key ≡ None
row_in-drop_none zero rows key none = none
row_in-drop_none (suc n) [] key none = refl
row_in-drop_none (suc n) (row ∷ rows) key none = row_in-drop_none n rows key (rest_key row rows key none)

without-head : (k : ℕ) (keys : List ℕ) (rest : ℕ → Option Row) (key : ℕ) → k ≡ key → without (k ∷ keys) rest key ≡ None
without-head k keys rest key same = ap (λ b. cond (b || list_any (λ j. nat_eq j key) keys) None (rest key)) (eq-eqb k key same)

without-tail : (k : ℕ) (keys : List ℕ) (rest rest' : ℕ → Option Row) (key : ℕ) → k ≢ key → rest key ≡ rest' key → without (k ∷ keys) rest key ≡ without keys rest' key
without-tail k keys rest rest' key ne same =
    ap (λ b. cond (b || list_any (λ j. nat_eq j key) keys) None (rest key)) (ne_eqb k key ne) ∙ ap (λ o. cond (list_any (λ j. nat_eq j key) keys) None o) same

pub row_in-drop : (index n : ℕ) (rows : List Row) → IsInOrder index rows → (key : ℕ) → row_of_key (drop n rows) key ≡ without (keys_of (take n rows)) (row_of_key rows) key
row_in-drop index zero rows order key = refl
row_in-drop index (suc n) [] order key = refl
row_in-drop index (suc n) (row ∷ rows) order key = elim (cases_eq row.key key) [
  | inl same ↦ row_in-drop_none n rows key (subst (λ k. row_of_key rows k ≡ None) same order.1) ∙ sym (without-head row.key (keys_of (take n rows)) (row_of_key (row ∷ rows)) key same)
  | inr ne ↦ row_in-drop index n rows order.2 key
      ∙ sym (without-tail row.key (keys_of (take n rows)) (row_of_key (row ∷ rows)) (row_of_key rows) key ne (row_in-tail row rows key ne))
]

all-at : (index : ℕ) (a : Row) (rows : List Row) (i : ℕ) (b : Row) → ComesBeforeAll index a rows → slice_get rows i ≡ Some b → ComesBefore index a b
all-at index a [] i b all at = absurd (none-some b at)
all-at index a (c ∷ rows) zero b all at = subst (ComesBefore index a) (same_Some c b at) (before-says index a c all.0)
all-at index a (c ∷ rows) (suc i) b all at = all-at index a rows i b all.1 at

-- a row is the row of its key
row-at : (index : ℕ) (rows : List Row) (i : ℕ) (a : Row) → IsInOrder index rows → slice_get rows i ≡ Some a → row_of_key rows a.key ≡ Some a
row-at index [] i a order at = absurd (none-some a at)
row-at index (row ∷ rows) zero a order at = row_in-head row rows a.key (ap (λ (r : Row). r.key) (same_Some row a at)) ∙ at
row-at index (row ∷ rows) (suc i) a order at =
    row_in-tail row rows a.key (λ same. none-some a (sym order.1 ∙ (ap (row_of_key rows) same ∙ row-at index rows i a order.2 at))) ∙ row-at index rows i a order.2 at

at-once : (index : ℕ) (rows : List Row) (i j : ℕ) (a b : Row) → IsInOrder index rows → slice_get rows i ≡ Some a → slice_get rows j ≡ Some b → a.key ≡ b.key → i ≡ j
at-once index [] i j a b order at at' same = absurd (none-some a at)
at-once index (row ∷ rows) zero zero a b order at at' same = refl
at-once index (row ∷ rows) zero (suc j) a b order at at' same =
    absurd (none-some b (sym order.1 ∙ (ap (row_of_key rows) (ap (λ (r : Row). r.key) (same_Some row a at) ∙ same) ∙ row-at index rows j b order.2 at')))
at-once index (row ∷ rows) (suc i) zero a b order at at' same =
    absurd (none-some a (sym order.1 ∙ (ap (row_of_key rows) (ap (λ (r : Row). r.key) (same_Some row b at') ∙ sym same) ∙ row-at index rows i a order.2 at)))
at-once index (row ∷ rows) (suc i) (suc j) a b order at at' same = ap suc (at-once index rows i j a b order.2 at at' same)

at-order : (index : ℕ) (rows : List Row) (i j : ℕ) (a b : Row) → IsInOrder index rows → slice_get rows i ≡ Some a → slice_get rows j ≡ Some b → i < j → ComesBefore index a b
at-order index [] i j a b order at at' lt = absurd (none-some a at)
at-order index (row ∷ rows) i zero a b order at at' lt = absurd (omega arith)
at-order index (row ∷ rows) zero (suc j) a b order at at' lt = subst (λ c. ComesBefore index c b) (same_Some row a at) (all-at index row rows j b order.0 at')
at-order index (row ∷ rows) (suc i) (suc j) a b order at at' lt = at-order index rows i j a b order.2 at at' (omega arith)

take-at : {A : Type 0} (n : ℕ) (rows : List A) (i : ℕ) (a : A) → slice_get (take n rows) i ≡ Some a → (slice_get rows i ≡ Some a) × (i < n)
take-at zero rows i a at = absurd (none-some a at)
take-at (suc n) [] i a at = absurd (none-some a at)
take-at (suc n) (row ∷ rows) zero a at = (at, omega arith)
take-at (suc n) (row ∷ rows) (suc i) a at = let rest = take-at n rows i a at in let lt : i < n = rest.1 in (rest.0, omega arith)

drop-at : {A : Type 0} (n : ℕ) (rows : List A) (j : ℕ) (b : A) → slice_get (drop n rows) j ≡ Some b → slice_get rows (n + j) ≡ Some b
drop-at zero rows j b at = subst (λ k. slice_get rows k ≡ Some b) (sym (zero-add j)) at
drop-at (suc n) [] j b at = absurd (none-some b at)
drop-at (suc n) (row ∷ rows) j b at = subst (λ k. slice_get (row ∷ rows) k ≡ Some b) (let e : suc (n + j) ≡ suc n + j = omega arith in e) (drop-at n rows j b at)

-- a row that is found stands somewhere
place-of : (rows : List Row) (key : ℕ) (b : Row) → row_of_key rows key ≡ Some b → (j : ℕ) × (slice_get rows j ≡ Some b)
place-of [] key b at = absurd (none-some b at)
place-of (row ∷ rows) key b at = elim (cases_eq row.key key) [
  | inl same ↦ (zero, sym (row_in-head row rows key same) ∙ at)
  | inr ne ↦ (let rest = place-of rows key b (sym (row_in-tail row rows key ne) ∙ at) in (suc rest.0, rest.1))
]

drop-empty : (n : ℕ) (rows : List Row) → length rows ≤ n → drop n rows ≡ []
drop-empty zero [] le = refl
drop-empty zero (row ∷ rows) le = absurd (omega arith)
drop-empty (suc n) [] le = refl
drop-empty (suc n) (row ∷ rows) le = drop-empty n rows (omega arith)

-- the first of the rows in order are the next
pub next_rows : (index n count : ℕ) (rows : List Row) → IsInOrder index rows → 0 < length rows → count ≡ max 1 n → AreNext index n (row_of_key rows) (take count rows)
next_rows index n count rows order some is = record {
  part = record {
    some = rw (length-take count rows) (omega arith);
    of = record {
      theirs = λ i a at. row-at index rows i a order (take-at count rows i a at).0;
      once = λ i j a b at at' same. at-once index rows i j a b order (take-at count rows i a at).0 (take-at count rows j b at').0 same;
    };
  };
  in_order = λ i j a b at at' lt. at-order index rows i j a b order (take-at count rows i a at).0 (take-at count rows j b at').0 lt;
  before_rest = λ i a b at left.
      let here = take-at count rows i a at in
      let later = place-of (drop count rows) b.key b (row_in-drop index count rows order b.key ∙ left) in
      let lt : i < count = here.1 in
      at-order index rows i (count + later.0) a b order here.0 (drop-at count rows later.0 b later.1) (omega arith);
  at_most = rw (length-take count rows) (omega arith);
  all_left = λ few key.
      let all : length rows ≤ count = short (length-take count rows) few in
      sym (row_in-drop index count rows order key) ∙ ap (λ l. row_of_key l key) (drop-empty count rows all);
}
  where
    short : length (take count rows) ≡ min count (length rows) → length (take count rows) < max 1 n → length rows ≤ count
    short e lt = omega arith
