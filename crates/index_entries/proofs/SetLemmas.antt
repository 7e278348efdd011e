-- What a search finds in an ascending list, and what an edit at that place does to the set.
use Rattle.std.proofs.Common.{◌≡◌, ◌∙◌, ℕ, zero, suc, ◌+◌, ◌<◌, ◌≤◌, length, Result, Ok, Err, OnErr, ℤ, inl, inr, ⊎_elim, ◌↔◌, List, [], ◌∷◌, get_or, Bool, true, false, not, ◌==◌, ◌&&◌, IsTrue, Option, Some, None, slice_get, sym, ap, refl, subst, arith, Contains}
use Rattle.std.specs.List.{insert, filter, All}
use Rattle.std.specs.Ordering.{nat_cmp, int_cmp, ordering_then}
use Rattle.std.specs.declared.cmp.Ordering.TheVariants.{Less, Equal}
use Rattle.std.proofs.lemmas.Bool.{cases_lt, or_cases, or_right}
use Rattle.std.proofs.lemmas.Bool.Decides.{nat_tests}
use Rattle.std.proofs.lemmas.Cmp.{ranked, int_ranked}
use Rattle.xid_circle.specs.declared.Tid.{Tid}
use Rattle.xid_circle.proofs.Members.{Contains-first, Contains-rest, Contains-cases, Contains-none}
use Rattle.xid_circle.proofs.Tids.{same-tid}
use Rattle.std.proofs.lemmas.Option.{slice_get-get_or, slice_get_within, get_or_from_slice_get}
use Rattle.std.proofs.lemmas.List.Elements.{All-cons}
use Rattle.std.proofs.lemmas.List.Kept.{AllPairs-cons}
use Rattle.std.proofs.lemmas.List.Sorted.{Contains-permutation, IsPermutation-insert, IsPermutation-sym, All-permutation}
use Rattle.std.specs.Cmp.{int_cmp_is, nat_cmp_is}
use Rattle.dead_places.proofs.PlaceLemmas.{less_both}
use Rattle.index_entries.specs.declared.entry.Entry.{Entry}
use Rattle.index_entries.specs.Order.{EntryPrecedes, IsAscending}
use Rattle.index_entries.specs.Sets.{AddsEntry, IsLeast, IsAfter, IsBelow, IsAt, IsGapFor, IsStart}
use Rattle.index_entries.specs.Lists.{is_among, stays}
use Rattle.index_entries.proofs.OrderLemmas.{not_before_itself, Precedes-not_back, ascending-tail}

-- Places.

pub place_of : (xs : List Entry) (e : Entry) → Contains xs e → (k : ℕ) × (slice_get xs k ≡ Some e)
place_of xs e (k, within, is) = (k, slice_get-get_or xs k e within ∙ ap Some is)

pub Contains-from_place : (xs : List Entry) (e : Entry) (k : ℕ) → slice_get xs k ≡ Some e → Contains xs e
Contains-from_place xs e k at = (k, slice_get_within xs k e at, get_or_from_slice_get xs k e e at)

pub same_place : (xs : List Entry) (k i : ℕ) (e f : Entry) → k ≡ i → slice_get xs k ≡ Some e → slice_get xs i ≡ Some f → e ≡ f
same_place xs k i e f same at_k at_i = cc

pub ascending-at : (xs : List Entry) (i j : ℕ) (a b : Entry) → IsAscending xs → i < j → slice_get xs i ≡ Some a → slice_get xs j ≡ Some b → EntryPrecedes a b
ascending-at xs i j a b up lt at_i at_j =
    subst (λ x. EntryPrecedes x b) (get_or_from_slice_get xs i a b at_i)
    (subst (λ y. EntryPrecedes (get_or xs i b) y) (get_or_from_slice_get xs j b b at_j) (up i j b lt (slice_get_within xs j b at_j)))

-- The first entry from a place on.

first_from_option : (xs : List Entry) (P : Entry → Type 0) (i : ℕ) (o : Option Entry) → IsAscending xs → IsStart xs P i → slice_get xs i ≡ o → IsLeast xs P o
first_from_option xs P i None up start at = λ e there.
    let p = place_of xs e there in
    let within = slice_get_within xs p.0 e p.1 in
    elim (cases_lt p.0 i) [
      | inl lt ↦ start.before p.0 e lt p.1
      | inr le ↦ absurd (let some = slice_get-get_or xs i e (omega arith) in cc)
    ]
first_from_option xs P i (Some f) up start at = (
  Contains-from_place xs f i at,
  start.from i f (omega arith) at,
  λ e there h. let p = place_of xs e there in
      elim (cases_lt p.0 i) [
        | inl lt ↦ absurd (start.before p.0 e lt p.1 h)
        | inr le ↦ elim (cases_lt i p.0) [
          | inl above ↦ Precedes-not_back f e (ascending-at xs i p.0 f e up above at p.1)
          | inr same ↦ λ back. not_before_itself f (subst (λ y. EntryPrecedes y f) (same_place xs p.0 i e f (omega arith) p.1 at) back)
        ]
      ],
)

pub first_is_least : (xs : List Entry) (P : Entry → Type 0) (i : ℕ) → IsAscending xs → IsStart xs P i → IsLeast xs P (slice_get xs i)
first_is_least xs P i up start = first_from_option xs P i (slice_get xs i) up start refl

-- Where the entries after one begin.

pub start_after : (xs : List Entry) (from : Entry) (i : ℕ) → IsAscending xs → IsAt xs from i → IsStart xs (IsAfter (Some from)) (i + 1)
start_after xs from i up at = record {
  in_range = omega (arith, slice_get_within xs i from at);
  before = λ k e lt at_k. elim (cases_lt k i) [
    | inl below ↦ Precedes-not_back e from (ascending-at xs k i e from up below at_k at)
    | inr le ↦ λ back. not_before_itself from (subst (λ y. EntryPrecedes from y) (same_place xs k i e from (omega arith) at_k at) back)
  ];
  from = λ k e le at_k. ascending-at xs i k from e up (omega arith) at at_k;
}

pub start_after_gap : (xs : List Entry) (from : Entry) (i : ℕ) → IsGapFor xs from i → IsStart xs (IsAfter (Some from)) i
start_after_gap xs from i gap = record {
  in_range = gap.in_range;
  before = λ k e lt at. Precedes-not_back e from (gap.before k e lt at);
  from = gap.after;
}

-- Where the entries begin that are not below a value and a key: at the lowest entry of these, which has place (0, 0).

none_below_nought : (n : ℕ) → ¬ (nat_cmp n 0 ≡ Less)
none_below_nought n e = let lt : n < 0 = ranked n 0 Less (sym e) in absurd (omega arith)

abbrev pub lowest : ℤ → ℕ → Entry
lowest value key = record { value = value; key = key; tid = record { page = 0; slot = 0 } }

pub below-precedes : (value : ℤ) (key : ℕ) (e : Entry) → IsBelow value key e → EntryPrecedes e (lowest value key)
below-precedes value key e (inl low) = rw (sym (int_cmp_is e.value value Less low)) refl
below-precedes value key e (inr (same, low)) = rw (same, sym (int_cmp_is value value Equal refl), sym (nat_cmp_is e.key key Less low)) refl

pub precedes-below : (value : ℤ) (key : ℕ) (e : Entry) → EntryPrecedes e (lowest value key) → IsBelow value key e
precedes-below value key e h =
    let v = int_cmp e.value value in
    let k = nat_cmp e.key key in
    let p = nat_cmp e.tid.page 0 in
    let s = nat_cmp e.tid.slot 0 in
    elim (less_both (ordering_then (ordering_then v k) p) s h) [
      | inl by_page ↦ elim (less_both (ordering_then v k) p by_page) [
        | inl by_key ↦ elim (less_both v k by_key) [
          | inl low ↦ inl (int_ranked e.value value Less (sym low))
          | inr both ↦ inr (int_ranked e.value value Equal (sym both.0), ranked e.key key Less (sym both.1))
        ]
        | inr both ↦ absurd (none_below_nought e.tid.page both.1)
      ]
      | inr both ↦ absurd (none_below_nought e.tid.slot both.1)
    ]

pub start_from : (xs : List Entry) (value : ℤ) (key i : ℕ) → IsAscending xs → IsAt xs (lowest value key) i → IsStart xs (λ e. ¬ IsBelow value key e) i
start_from xs value key i up at = record {
  in_range = omega (arith, slice_get_within xs i (lowest value key) at);
  before = λ k e lt at_k h. h (precedes-below value key e (ascending-at xs k i e (lowest value key) up lt at_k at));
  from = λ k e le at_k low. elim (cases_lt i k) [
    | inl above ↦ Precedes-not_back (lowest value key) e (ascending-at xs i k (lowest value key) e up above at at_k) (below-precedes value key e low)
    | inr same ↦ not_before_itself (lowest value key) (subst (λ y. EntryPrecedes y (lowest value key)) (same_place xs k i e (lowest value key) (omega arith) at_k at) (below-precedes value key e low))
  ];
}

pub start_from_gap : (xs : List Entry) (value : ℤ) (key i : ℕ) → IsGapFor xs (lowest value key) i → IsStart xs (λ e. ¬ IsBelow value key e) i
start_from_gap xs value key i gap = record {
  in_range = gap.in_range;
  before = λ k e lt at h. h (precedes-below value key e (gap.before k e lt at));
  from = λ k e le at low. Precedes-not_back (lowest value key) e (gap.after k e le at) (below-precedes value key e low);
}

-- An entry that is added.

pub absent_in_gap : (xs : List Entry) (x : Entry) (i : ℕ) → IsGapFor xs x i → ¬ Contains xs x
absent_in_gap xs x i gap there =
    let p = place_of xs x there in
    elim (cases_lt p.0 i) [
      | inl lt ↦ not_before_itself x (gap.before p.0 x lt p.1)
      | inr le ↦ not_before_itself x (gap.after p.0 x le p.1)
    ]

gap_of_rest : (x y : Entry) (xs : List Entry) (i : ℕ) → IsGapFor (x ∷ xs) y (suc i) → IsGapFor xs y i
gap_of_rest x y xs i gap = record {
  in_range = omega (arith, gap.in_range);
  before = λ k e lt at. gap.before (suc k) e (omega arith) at;
  after = λ k e le at. gap.after (suc k) e (omega arith) at;
}

all-after : (xs : List Entry) (y : Entry) → IsGapFor xs y 0 → All (EntryPrecedes y) xs
all-after xs y gap k d within = gap.after k (get_or xs k d) (omega arith) (slice_get-get_or xs k d within)

all-later : (x : Entry) (xs : List Entry) → IsAscending (x ∷ xs) → All (EntryPrecedes x) xs
all-later x xs up k d within = up 0 (suc k) d (omega arith) (omega arith)

pub ascending-insert : (xs : List Entry) (y : Entry) (i : ℕ) → IsAscending xs → IsGapFor xs y i → IsAscending (insert xs i y)
ascending-insert xs y zero up gap = AllPairs-cons EntryPrecedes y xs (all-after xs y gap) up
ascending-insert [] y (suc i) up gap = absurd (omega (arith, gap.in_range))
ascending-insert (x ∷ xs) y (suc i) up gap =
    AllPairs-cons EntryPrecedes x (insert xs i y)
    (All-permutation (EntryPrecedes x) (y ∷ xs) (insert xs i y) (IsPermutation-insert xs i y) (All-cons (EntryPrecedes x) y xs (gap.before 0 x (omega arith) refl) (all-later x xs up)))
    (ascending-insert xs y i (ascending-tail x xs up) (gap_of_rest x y xs i gap))

pub adds-inserted : (xs : List Entry) (y : Entry) (i : ℕ) → IsAscending xs → IsGapFor xs y i → AddsEntry xs (insert xs i y) y
adds-inserted xs y i up gap = record {
  ascending = ascending-insert xs y i up gap;
  members = λ e. (
    λ h. ⊎_elim (λ same. inr (sym same)) (λ old. inl old) (Contains-cases y e xs (Contains-permutation (insert xs i y) (y ∷ xs) e (IsPermutation-sym (y ∷ xs) (insert xs i y) (IsPermutation-insert xs i y)) h)),
    λ h. Contains-permutation (y ∷ xs) (insert xs i y) e (IsPermutation-insert xs i y) (⊎_elim (λ old. Contains-rest y e xs old) (λ same. subst (λ z. Contains (y ∷ xs) z) (sym same) (Contains-first y xs)) h),
  );
}

pub adds-there : (xs : List Entry) (y : Entry) (i : ℕ) → IsAscending xs → IsAt xs y i → AddsEntry xs xs y
adds-there xs y i up at = record {
  ascending = up;
  members = λ e. (λ h. inl h, λ h. ⊎_elim (λ old. old) (λ same. subst (λ z. Contains xs z) (sym same) (Contains-from_place xs y i at)) h);
}

-- Entries that stay, since they pass the test.

pub kept : (test : Entry → Bool) (xs : List Entry) (e : Entry) → Contains xs e → test e ≡ true → Contains (filter test xs) e
kept test [] e there passes = absurd (Contains-none e there)
kept test (x ∷ xs) e there passes =
    ⊎_elim (λ first. kept_first test x xs e (sym first) passes) (λ rest. kept_rest test x xs e (kept test xs e rest passes) (test x) refl) (Contains-cases x e xs there)
  where
    kept_first : (test : Entry → Bool) (x : Entry) (xs : List Entry) (e : Entry) → e ≡ x → test e ≡ true → Contains (filter test (x ∷ xs)) e
    kept_first test x xs e first passes =
        let yes : test x ≡ true = ap test (sym first) ∙ passes in
        rw (yes, first) (Contains-first x (filter test xs))

    kept_rest : (test : Entry → Bool) (x : Entry) (xs : List Entry) (e : Entry) → Contains (filter test xs) e → (b : Bool) → test x ≡ b → Contains (filter test (x ∷ xs)) e
    kept_rest test x xs e there true is = rw is (Contains-rest x e (filter test xs) there)
    kept_rest test x xs e there false is = rw is there

-- The test that tells which entries stay, from what is known of its answers.

tid_test : (a b : Tid) → ((a.page == b.page && a.slot == b.slot) ≡ true) ↔ (a ≡ b)
tid_test a b = (λ h. tid_same a b h, λ e. rw e (grind (arith, nat_tests)))
  where
    tid_same : (a b : Tid) → (a.page == b.page && a.slot == b.slot) ≡ true → a ≡ b
    tid_same a b h = same-tid a b (grind (arith, nat_tests)) (grind (arith, nat_tests))

among-contains : (dead : List Tid) (tid : Tid) → (is_among dead tid ≡ true) ↔ Contains dead tid
among-contains [] tid = (λ h. absurd (cc h), λ there. absurd (Contains-none tid there))
among-contains (t ∷ dead) tid = (
  λ h. ⊎_elim (λ first. subst (λ z. Contains (t ∷ dead) z) ((tid_test t tid).0 first) (Contains-first t dead))
      (λ rest. Contains-rest t tid dead ((among-contains dead tid).0 rest)) (or_cases (t.page == tid.page && t.slot == tid.slot) (is_among dead tid) h),
  λ there. ⊎_elim (λ first. rw ((tid_test t tid).1 first) refl)
      (λ rest. or_right (t.page == tid.page && t.slot == tid.slot) (is_among dead tid) ((among-contains dead tid).1 rest)) (Contains-cases t tid dead there),
)

not_true : (b : Bool) → (not b ≡ true) ↔ (¬ (b ≡ true))
not_true true = (λ h. absurd (cc h), λ h. absurd (h refl))
not_true false = (λ h. λ e. absurd (cc e), λ h. refl)

pub stays-is : (dead : List Tid) (e : Entry) → (stays dead e ≡ true) ↔ (¬ Contains dead e.tid)
stays-is dead e =
    let test = among-contains dead e.tid in
    let negated = not_true (is_among dead e.tid) in
    (λ h there. negated.0 h (test.1 there), λ h. negated.1 (λ yes. h (test.0 yes)))

pub same_test : (a b : Bool) → ((a ≡ true) ↔ (b ≡ true)) → a ≡ b
same_test true true h = refl
same_test true false h = sym (h.0 refl)
same_test false true h = h.1 refl
same_test false false h = refl

-- what answers whether the entry's place is among these is its opposite
pub dead-is : (dead : List Tid) (e : Entry) (b : Bool) → ((IsTrue b) ↔ Contains dead e.tid) → b ≡ not (stays dead e)
dead-is dead e b says =
    let test = stays-is dead e in
    let negated = not_true (stays dead e) in
    same_test b (not (stays dead e)) (λ h. negated.1 (λ yes. test.0 yes (says.0 h)), λ h. says.1 (by_case (is_among dead e.tid) refl (negated.0 h)))
  where
    by_case : (a : Bool) → is_among dead e.tid ≡ a → ¬ (stays dead e ≡ true) → Contains dead e.tid
    by_case true is h = (among-contains dead e.tid).0 is
    by_case false is h = absurd (h (ap not is))

-- Behind the end of a list.

pub none_there : {X : Type 0} (xs : List X) (i : ℕ) → slice_get xs i ≡ None → length xs ≤ i
none_there [] i none = omega arith
none_there (x ∷ xs) zero none = absurd (cc none)
none_there (x ∷ xs) (suc i) none = let rest = none_there xs i none in omega arith

-- What holds anyway holds of an error.
pub on_err : {T E : Type 0} (r : Result T E) (P : Type 0) → P → OnErr r P
on_err (Ok t) P h = tt
on_err (Err e) P h = h
