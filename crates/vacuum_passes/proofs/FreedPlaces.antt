-- Which of the collected slots are on the first page.
use Rattle.std.proofs.Common.{◌≡◌, ◌≢◌, ℕ, zero, suc, ◌+◌, ◌<◌, ◌≤◌, ◌==◌, Bool, true, false, not, List, [], ◌∷◌, ◌++◌, length, map, take, drop, get_or, inl, inr, Some, None, slice_get, arith, refl, sym, ap, ◌∙◌, subst, ⊎_elim, Contains, append-nil}
use Rattle.std.specs.List.{AllPairs, filter}
use Rattle.std.specs.Ordering.{nat_cmp}
use Rattle.std.specs.declared.cmp.Ordering.TheVariants.{Less, Equal}
use Rattle.std.proofs.lemmas.Bool.{eq-eqb, ne_eqb, eqb-true}
use Rattle.std.proofs.lemmas.Cmp.{ranked}
use Rattle.std.proofs.lemmas.List.{take-append-drop, take_more, get_or-drop, get_or_default, length-drop, drop_all}
use Rattle.std.proofs.lemmas.List.Elements.{Contains-append_cases, filter-append, filter_passes, All-contains}
use Rattle.std.proofs.lemmas.List.Kept.{AllPairs-cons, AllPairs-filter}
use Rattle.std.proofs.lemmas.Option.{same_Some}
use Rattle.xid_circle.specs.declared.Tid.{Tid}
use Rattle.xid_circle.proofs.Members.{Contains-first, Contains-rest, Contains-cases, Contains-none}
use Rattle.dead_places.specs.Places.{PlacePrecedes, AreAscending}
use Rattle.dead_places.proofs.PlaceLemmas.{less_both}
use Rattle.vacuum_passes.specs.View.{places}
use Rattle.vacuum_passes.specs.Steps.{on_page, off_page}
use Rattle.vacuum_passes.proofs.ListLemmas.{all-from, pairs-head, pairs-tail, in-mapped}

-- Lists.

filter-all : (test : Tid → Bool) (xs : List Tid) → ((x : Tid) → Contains xs x → test x ≡ true) → filter test xs ≡ xs
filter-all test [] each = refl
filter-all test (x ∷ xs) each =
    let here : test x ≡ true = each x (Contains-first x xs) in
    rw here (ap (λ (ys : List Tid). x ∷ ys) (filter-all test xs (λ y there. each y (Contains-rest x y xs there))))

filter-none : (test : Tid → Bool) (xs : List Tid) → ((x : Tid) → Contains xs x → test x ≡ false) → filter test xs ≡ []
filter-none test [] each = refl
filter-none test (x ∷ xs) each =
    let here : test x ≡ false = each x (Contains-first x xs) in
    rw here (filter-none test xs (λ y there. each y (Contains-rest x y xs there)))

-- Pages.

page-le : (a b : Tid) → PlacePrecedes a b → a.page ≤ b.page
page-le a b h = elim (less_both (nat_cmp a.page b.page) (nat_cmp a.slot b.slot) h) [
  | inl less ↦ let lt : a.page < b.page = ranked a.page b.page Less (sym less) in omega arith
  | inr both ↦ let same : a.page ≡ b.page = ranked a.page b.page Equal (sym both.0) in omega arith
]

-- The first so many are on this page.

pub record AreOn (xs : List Tid) (p i : ℕ) : Type 0 where
  pub each : (tid : Tid) → Contains (take i xs) tid → tid.page ≡ p

pub on-none : (xs : List Tid) (p : ℕ) → AreOn xs p 0
on-none xs p = record { each = λ tid there. absurd (Contains-none tid there) }

pub on-more : (xs : List Tid) (p i : ℕ) (d : Tid) → i < length xs → (get_or xs i d).page ≡ p → AreOn xs p i → AreOn xs p (i + 1)
on-more xs p i d within here on = record {
  each = λ tid there. ⊎_elim
      (λ first. on.each tid first)
      (λ last. ⊎_elim
      (λ e. ap (λ (t : Tid). t.page) (sym e) ∙ here)
      (λ none. absurd (Contains-none tid none))
      (Contains-cases (get_or xs i d) tid [] last))
      (Contains-append_cases (take i xs) (get_or xs i d ∷ []) tid (subst (λ (ys : List Tid). Contains ys tid) (take_more xs i d within) there));
}

-- what is found so far
pub record IsCut (xs : List Tid) (p i : ℕ) : Type 0 where
  pub here : take i xs ≡ on_page p xs
  pub others : drop i xs ≡ off_page p xs

cut : (xs : List Tid) (p i : ℕ) → AreOn xs p i → ((tid : Tid) → Contains (drop i xs) tid → tid.page ≢ p) → IsCut xs p i
cut xs p i on off = record {
  here = sym (ap (λ (ys : List Tid). filter (λ tid. tid.page == p) ys) (sym (take-append-drop i xs))
      ∙ filter-append (λ tid. tid.page == p) (take i xs) (drop i xs)
      ∙ ap (λ (ys : List Tid). ys ++ filter (λ tid. tid.page == p) (drop i xs)) (filter-all (λ tid. tid.page == p) (take i xs) (λ tid there. eq-eqb tid.page p (on.each tid there)))
      ∙ ap (λ (ys : List Tid). take i xs ++ ys) (filter-none (λ tid. tid.page == p) (drop i xs) (λ tid there. ne_eqb tid.page p (off tid there)))
      ∙ append-nil (take i xs));
  others = sym (ap (λ (ys : List Tid). filter (λ tid. not (tid.page == p)) ys) (sym (take-append-drop i xs))
      ∙ filter-append (λ tid. not (tid.page == p)) (take i xs) (drop i xs)
      ∙ ap (λ (ys : List Tid). ys ++ filter (λ tid. not (tid.page == p)) (drop i xs)) (filter-none (λ tid. not (tid.page == p)) (take i xs) (λ tid there. ap not (eq-eqb tid.page p (on.each tid there))))
      ∙ filter-all (λ tid. not (tid.page == p)) (drop i xs) (λ tid there. ap not (ne_eqb tid.page p (off tid there))));
}

-- where one is not on the lowest page, none behind it is
off-after : (xs : List Tid) (p i : ℕ) (d : Tid) → AreAscending xs → ((tid : Tid) → Contains xs tid → p ≤ tid.page) → i < length xs → (get_or xs i d).page ≢ p
    → (tid : Tid) → Contains (drop i xs) tid → tid.page ≢ p
off-after xs p i d up lowest within other tid (zero, less, found) same =
    let first : get_or xs i d ≡ tid =
    get_or_default xs i d tid within ∙ ap (λ k. get_or xs k tid) (let z : i ≡ i + 0 = omega arith in z) ∙ sym (get_or-drop i xs 0 tid) ∙ found in
    other (ap (λ (t : Tid). t.page) first ∙ same)
off-after xs p i d up lowest within other tid (suc k, less, found) same =
    let long = length-drop i xs in
    let before : PlacePrecedes (get_or xs i tid) (get_or xs (i + suc k) tid) = up i (i + suc k) tid (omega arith) (omega (arith, long, less)) in
    let at : get_or xs (i + suc k) tid ≡ tid = sym (get_or-drop i xs (suc k) tid) ∙ found in
    let first : get_or xs i tid ≡ get_or xs i d = get_or_default xs i tid d within in
    let le : (get_or xs i d).page ≤ tid.page = page-le (get_or xs i d) tid (subst (λ a. PlacePrecedes a tid) first (subst (λ b. PlacePrecedes (get_or xs i tid) b) at before)) in
    let ge : p ≤ (get_or xs i d).page = lowest (get_or xs i d) (i, within, get_or_default xs i (get_or xs i d) d within) in
    other (omega (arith, le, ge, same))

pub cut-here : (xs : List Tid) (p i : ℕ) (d : Tid) → AreAscending xs → ((tid : Tid) → Contains xs tid → p ≤ tid.page) → i < length xs → (get_or xs i d).page ≢ p
    → AreOn xs p i → IsCut xs p i
cut-here xs p i d up lowest within other on = cut xs p i on (off-after xs p i d up lowest within other)

pub cut-all : (xs : List Tid) (p i : ℕ) → i ≡ length xs → AreOn xs p i → IsCut xs p (length xs)
cut-all xs p i all on = subst (λ k. IsCut xs p k) all
    (cut xs p i on (λ tid there. absurd (Contains-none tid (subst (λ (ys : List Tid). Contains ys tid) (drop_all i xs (omega (arith, all))) there))))

-- Their slots.

page-or-slot : (a b : Tid) → PlacePrecedes a b → a.page ≡ b.page → a.slot < b.slot
page-or-slot a b h same = elim (less_both (nat_cmp a.page b.page) (nat_cmp a.slot b.slot) h) [
  | inl less ↦ let lt : a.page < b.page = ranked a.page b.page Less (sym less) in absurd (omega (arith, lt, same))
  | inr both ↦ ranked a.slot b.slot Less (sym both.1)
]

slots-up : (p : ℕ) (xs : List Tid) → AreAscending xs → ((tid : Tid) → Contains xs tid → tid.page ≡ p) → AllPairs (λ a b. a < b) (map (λ (tid : Tid). tid.slot) xs)
slots-up p [] up on = λ i j d lt within. absurd (omega (arith, within))
slots-up p (x ∷ xs) up on = AllPairs-cons (λ a b. a < b) x.slot (map (λ (tid : Tid). tid.slot) xs)
    (all-from (λ n. x.slot < n) (map (λ (tid : Tid). tid.slot) xs) (λ n there.
    let m = in-mapped (λ (tid : Tid). tid.slot) xs n there in
    subst (λ k. x.slot < k) m.2 (page-or-slot x m.0 (pairs-head PlacePrecedes x m.0 xs up m.1) (on x (Contains-first x xs) ∙ sym (on m.0 (Contains-rest x m.0 xs m.1))))))
    (slots-up p xs (pairs-tail PlacePrecedes x xs up) (λ tid there. on tid (Contains-rest x tid xs there)))

passed-test : (p : ℕ) (xs : List Tid) (tid : Tid) → Contains (on_page p xs) tid → tid.page ≡ p
passed-test p xs tid there = eqb-true tid.page p (All-contains (λ t. (t.page == p) ≡ true) (on_page p xs) tid (filter_passes (λ t. t.page == p) xs) there)

-- the slots on one page are in ascending order
pub slots-ascending : (p : ℕ) (xs here : List Tid) → AreAscending xs → here ≡ on_page p xs → AllPairs (λ a b. a < b) (map (λ (tid : Tid). tid.slot) here)
slots-ascending p xs here up is = subst (λ (ys : List Tid). AllPairs (λ a b. a < b) (map (λ (tid : Tid). tid.slot) ys)) (sym is)
    (slots-up p (on_page p xs) (AllPairs-filter PlacePrecedes (λ tid. tid.page == p) xs up) (passed-test p xs))

all-places : (p : ℕ) (xs : List Tid) → ((tid : Tid) → Contains xs tid → tid.page ≡ p) → xs ≡ places p (map (λ (tid : Tid). tid.slot) xs)
all-places p [] on = refl
all-places p (x ∷ xs) on =
    ap (λ n. (record { page = n; slot = x.slot }) ∷ xs) (on x (Contains-first x xs))
    ∙ ap (λ (ys : List Tid). (record { page = p; slot = x.slot }) ∷ ys) (all-places p xs (λ tid there. on tid (Contains-rest x tid xs there)))

-- and tell the places
pub on-places : (p : ℕ) (xs : List Tid) → on_page p xs ≡ places p (map (λ (tid : Tid). tid.slot) (on_page p xs))
on-places p xs = all-places p (on_page p xs) (passed-test p xs)

-- The first.

pub first-there : (xs : List Tid) (x : Tid) → slice_get xs 0 ≡ Some x → Contains xs x
first-there [] x at = absurd (let e : None ≡ Some x = at in cc)
first-there (y ∷ xs) x at = subst (Contains (y ∷ xs)) (same_Some y x at) (Contains-first y xs)

pub none-first : (xs : List Tid) → slice_get xs 0 ≡ None → xs ≡ []
none-first [] at = refl
none-first (y ∷ xs) at = absurd (let e : Some y ≡ None = at in cc)
