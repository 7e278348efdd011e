-- What each step leaves of a vacuum.
use Rattle.std.proofs.Common.{◌≡◌, ◌≢◌, ℕ, ◌+◌, ◌<◌, ◌≤◌, min, ◌==◌, nat_lt, Bool, true, false, not, List, [], ◌∷◌, ◌++◌, length, take, Option, Some, None, arith, refl, sym, ap, ◌∙◌, subst, ⊎_elim, Contains, length-append, length-take, if◌then◌else◌}
use Rattle.std.specs.Ordering.{nat_cmp, ordering_then}
use Rattle.std.specs.declared.cmp.Ordering.TheVariants.{Less, Equal, Greater}
use Rattle.std.proofs.lemmas.Cmp.{nat_cmp_total, tied_itself}
use Rattle.std.specs.List.{AllPairs, filter}
use Rattle.std.proofs.lemmas.List.{length-map}
use Rattle.std.proofs.lemmas.Bool.{cases_lt, eqb-true, eqb-false, le-ltb, cond-true, cond-false, lt-ltb}
use Rattle.std.proofs.lemmas.List.Elements.{Contains-append_cases}
use Rattle.std.proofs.lemmas.List.Filters.{length-filter_both}
use Rattle.std.proofs.lemmas.List.Kept.{AllPairs-filter}
use Rattle.xid_circle.specs.declared.Tid.{Tid}
use Rattle.xid_circle.proofs.Members.{Contains-none}
use Rattle.index_entries.specs.declared.entry.Entry.{Entry}
use Rattle.dead_places.specs.Places.{PlacePrecedes}
use Rattle.table_indexes.specs.Indexes.{IndexesView}
use Rattle.heap_write.specs.Heap.{HeapView}
use Rattle.calls.specs.declared.vacuum.Piece.{Piece}
use Rattle.vacuum_passes.specs.declared.vacuum.Phase.{Phase}
use Rattle.vacuum_passes.specs.declared.vacuum.Phase.TheVariants as phase
use Rattle.root_index.specs.declared.progress.Progress.{Progress}
use Rattle.vacuum_passes.specs.View.{VacuumView, places, space, phase_with, collected, at_end, counted}
use Rattle.vacuum_passes.specs.Steps.{Steps, PhaseAfter, Sweeps, Frees, off_page, phase_left}
use Rattle.vacuum_passes.specs.Keeps.{KeepsStore, IsVacuum}
use Rattle.vacuum_passes.proofs.ListLemmas.{pairs-append, pairs-take, pairs-head, pairs-tail, all-from, in-filtered, in-mapped}
use Rattle.std.proofs.lemmas.List.Kept.{AllPairs-cons}

-- Places of a page.

before-cmp : (x y : ℕ) → x < y → nat_cmp x y ≡ Less
before-cmp x y lt = cond-true (nat_lt x y) Less (if x == y then Equal else Greater) (lt-ltb x y lt)

pub lower-page : (a b : Tid) → a.page < b.page → PlacePrecedes a b
lower-page a b lt = ap (λ o. ordering_then o (nat_cmp a.slot b.slot)) (before-cmp a.page b.page lt)

pub lower-slot : (p n m : ℕ) → n < m → PlacePrecedes (record { page = p; slot = n }) (record { page = p; slot = m })
lower-slot p n m lt = ap (λ o. ordering_then o (nat_cmp n m)) (tied_itself nat_cmp_total p) ∙ before-cmp n m lt

pub on-its_page : (p : ℕ) (ns : List ℕ) (tid : Tid) → Contains (places p ns) tid → tid.page ≡ p
on-its_page p ns tid there = let m = in-mapped (λ n. record { page = p; slot = n }) ns tid there in ap (λ (t : Tid). t.page) (sym m.2)

places-ascending : (p : ℕ) (ns : List ℕ) → AllPairs (λ a b. a < b) ns → AllPairs PlacePrecedes (places p ns)
places-ascending p [] up = λ i j d lt within. absurd (omega (arith, within))
places-ascending p (n ∷ ns) up = AllPairs-cons PlacePrecedes (record { page = p; slot = n }) (places p ns)
    (all-from (PlacePrecedes (record { page = p; slot = n })) (places p ns) (λ tid there.
    let m = in-mapped (λ k. record { page = p; slot = k }) ns tid there in
    subst (PlacePrecedes (record { page = p; slot = n })) m.2 (lower-slot p n m.0 (pairs-head (λ a b. a < b) n m.0 ns up m.1))))
    (places-ascending p ns (pairs-tail (λ a b. a < b) n ns up))

-- A visit.

module _ (v : VacuumView) (p : ℕ) (dead : List ℕ) (i : IsVacuum v) (is : v.phase ≡ phase.Heap) (onward : v.next ≤ p) (within : p < v.pages) (up : AllPairs (λ a b. a < b) dead) where
  taken : List Tid
  taken = places p (take (space v) dead)

  heap : (length v.store < v.limit) × ((tid : Tid) → Contains v.store tid → tid.page < v.next)
  heap = subst (KeepsStore v) is i.store

  pub taken-length : length (v.store ++ places p (take (space v) dead)) ≡ length v.store + min (space v) (length dead)
  taken-length = length-append v.store (places p (take (space v) dead))
      ∙ ap (λ n. length v.store + n) (length-map (take (space v) dead) (λ n. record { page = p; slot = n }) ∙ length-take (space v) dead)

  pages-before : (tid : Tid) → Contains (v.store ++ places p (take (space v) dead)) tid → tid.page ≤ p
  pages-before tid there = ⊎_elim
      (λ old. let lt = heap.1 tid old in omega (arith, lt, onward))
      (λ new. let e = on-its_page p (take (space v) dead) tid new in omega (arith, e))
      (Contains-append_cases v.store (places p (take (space v) dead)) tid there)

  next-after : (b : Bool) → nat_lt (space v) (length dead) ≡ b → p ≤ (collected v p dead).next
  next-after true e = subst (λ n. p ≤ n) (sym (cond-true (nat_lt (space v) (length dead)) p (p + 1) e)) (omega arith)
  next-after false e = subst (λ n. p ≤ n) (sym (cond-false (nat_lt (space v) (length dead)) p (p + 1) e)) (omega arith)

  next-within : (b : Bool) → nat_lt (space v) (length dead) ≡ b → (collected v p dead).next ≤ v.pages
  next-within true e = subst (λ n. n ≤ v.pages) (sym (cond-true (nat_lt (space v) (length dead)) p (p + 1) e)) (omega (arith, within))
  next-within false e = subst (λ n. n ≤ v.pages) (sym (cond-false (nat_lt (space v) (length dead)) p (p + 1) e)) (omega (arith, within))

  store-kept : (b : Bool) → (length (v.store ++ places p (take (space v) dead)) == v.limit) ≡ b → KeepsStore (collected v p dead) (phase_with v.limit (v.store ++ places p (take (space v) dead)))
  store-kept true e =
      subst (KeepsStore (collected v p dead)) (sym (cond-true (length (v.store ++ places p (take (space v) dead)) == v.limit) (phase.Index 0 None) phase.Heap e))
      (λ none. let full = eqb-true (length (v.store ++ places p (take (space v) dead))) v.limit e in
      let zero = ap (λ (xs : List Tid). length xs) none in
      let some = i.some in
      absurd (omega (arith, full, zero, some)))
  store-kept false e =
      let long = taken-length in
      let other : length (v.store ++ places p (take (space v) dead)) ≢ v.limit = eqb-false (length (v.store ++ places p (take (space v) dead))) v.limit e in
      let less : length v.store < v.limit = heap.0 in
      let few : length dead ≤ space v = ⊎_elim (λ lt. absurd (other (omega (arith, long, less, lt)))) (λ le. le) (cases_lt (space v) (length dead)) in
      subst (KeepsStore (collected v p dead)) (sym (cond-false (length (v.store ++ places p (take (space v) dead)) == v.limit) (phase.Index 0 None) phase.Heap e)) (
        ⊎_elim (λ lt. lt) (λ ge. absurd (other (omega (arith, long, less, few, ge)))) (cases_lt (length (v.store ++ places p (take (space v) dead))) v.limit),
        λ tid there.
            let before = pages-before tid there in
            subst (λ n. tid.page < n) (sym (cond-false (nat_lt (space v) (length dead)) p (p + 1) (le-ltb (space v) (length dead) few))) (omega (arith, before)),
      )

  pub collected-kept : IsVacuum (collected v p dead)
  collected-kept = record {
    within = next-within (nat_lt (space v) (length dead)) refl;
    some = i.some;
    few = let long = taken-length in let few = i.few in omega (arith, long, few);
    ascending = pairs-append PlacePrecedes v.store (places p (take (space v) dead)) i.ascending
        (places-ascending p (take (space v) dead) (pairs-take (λ a b. a < b) (space v) dead up))
        (λ a b old new.
        let lt = heap.1 a old in
        let e = on-its_page p (take (space v) dead) b new in
        lower-page a b (omega (arith, lt, e, onward)));
    passed = λ tid there.
        let before = pages-before tid there in
        let after = next-after (nat_lt (space v) (length dead)) refl in
        omega (arith, before, after);
    store = store-kept (length (v.store ++ places p (take (space v) dead)) == v.limit) refl;
  }

-- A piece of an index.

pub index-kept : (indexes : IndexesView) (i : ℕ) (progress : Progress) (after : Phase) (v : VacuumView) → v.store ≢ [] → PhaseAfter indexes i progress after → KeepsStore v after
index-kept indexes i progress after v some (PhaseAfter.more last e is) = subst (KeepsStore v) (sym is) some
index-kept indexes i progress after v some (PhaseAfter.onward j e n is) = subst (KeepsStore v) (sym is) some
index-kept indexes i progress after v some (PhaseAfter.over e n is) = subst (KeepsStore v) (sym is) some

swept-kept : (h h' : HeapView) (v v' : VacuumView) (i : ℕ) (from : Option Entry) → v.next ≤ v.pages → 0 < v.limit → length v.store ≤ v.limit → AllPairs PlacePrecedes v.store
    → ((tid : Tid) → Contains v.store tid → tid.page ≤ v.next) → v.store ≢ [] → Sweeps h h' v v' i from → IsVacuum v'
swept-kept h h' v v' i from within limit few up passed some s = subst IsVacuum (sym s.same) (record {
  within = within;
  some = limit;
  few = few;
  ascending = up;
  passed = passed;
  store = index-kept h.indexes i s.progress v'.phase (record v { phase = v'.phase }) some s.next;
})

-- Slots become unused.

filter-short : (test : Tid → Bool) (xs : List Tid) → length (filter test xs) ≤ length xs
filter-short test xs = let e = length-filter_both test (λ x. not (test x)) (λ x. refl) xs in omega (arith, e)

left-kept : (v : VacuumView) (xs : List Tid) → v.store ≡ xs → 0 < v.limit → KeepsStore v (phase_left xs)
left-kept v [] e some = (
  let zero = ap (λ (ys : List Tid). length ys) e in omega (arith, zero, some),
  λ tid there. absurd (Contains-none tid (subst (λ (ys : List Tid). Contains ys tid) e there)),
)
left-kept v (x ∷ xs) e some = λ none. let g : [] ≡ x ∷ xs = sym none ∙ e in absurd (let n = ap (λ (ys : List Tid). length ys) g in omega (arith, n))

pub off-kept : (v : VacuumView) (p : ℕ) → IsVacuum v → IsVacuum (record v { store = off_page p v.store; phase = phase_left (off_page p v.store) })
off-kept v p i = record {
  within = i.within;
  some = i.some;
  few = let short = filter-short (λ tid. not (tid.page == p)) v.store in let few = i.few in omega (arith, short, few);
  ascending = AllPairs-filter PlacePrecedes (λ tid. not (tid.page == p)) v.store i.ascending;
  passed = λ tid there. i.passed tid (in-filtered (λ t. not (t.page == p)) v.store tid there);
  store = left-kept (record v { store = off_page p v.store; phase = phase_left (off_page p v.store) }) (off_page p v.store) refl i.some;
}

freed-kept : (h h' : HeapView) (v v' : VacuumView) (horizon p : ℕ) → IsVacuum v → Frees h h' v v' horizon p → IsVacuum v'
freed-kept h h' v v' horizon p i f = subst IsVacuum (sym f.is) (off-kept v p i)

-- Each step.

counted-kept : (v : VacuumView) → IsVacuum v → IsVacuum (counted v)
counted-kept v i = record { within = i.within; some = i.some; few = i.few; ascending = i.ascending; passed = i.passed; store = i.store }

pub some-stored : (v : VacuumView) (i : ℕ) (from : Option Entry) → IsVacuum v → v.phase ≡ phase.Index i from → v.store ≢ []
some-stored v i from keeps is = subst (KeepsStore v) is keeps.store

pub steps-kept : (h h' : HeapView) (v v' : VacuumView) (horizon : ℕ) (piece : Piece) → IsVacuum v → Steps h h' v horizon (Some v') (Some piece) → IsVacuum v'
steps-kept h h' v _ horizon _ i (Steps.visits p v' is next visit) = counted-kept v'
    (subst IsVacuum (sym visit.collects) (collected-kept v p visit.dead i is next.onward next.within visit.lists.ascending))
steps-kept h h' v _ horizon _ i (Steps.begins_index v' is over some s) = counted-kept v'
    (swept-kept h h' (at_end v) v' 0 None (omega arith) i.some i.few i.ascending (λ tid there. let le = i.passed tid there in let w = i.within in omega (arith, le, w)) some s)
steps-kept h h' v _ horizon _ i (Steps.sweeps k from v' is s) = counted-kept v'
    (swept-kept h h' v v' k from i.within i.some i.few i.ascending i.passed (some-stored v k from i is) s)
steps-kept h h' v _ horizon _ i (Steps.frees p v' is f) = counted-kept v' (freed-kept h h' v v' horizon p i f)
steps-kept h h' v _ horizon _ i (Steps.drops p v' is d) = counted-kept v' (subst IsVacuum (sym d.is) (off-kept v p i))

pub begun-kept : (v : VacuumView) → v.store ≡ [] → v.phase ≡ phase.Heap → v.next ≡ 0 → 0 < v.limit → IsVacuum v
begun-kept v none is first some = record {
  within = omega (arith, first);
  some = some;
  few = let zero = ap (λ (xs : List Tid). length xs) none in omega (arith, zero);
  ascending = subst (AllPairs PlacePrecedes) (sym none) (λ i j d lt within. absurd (omega (arith, within)));
  passed = λ tid there. absurd (Contains-none tid (subst (λ (xs : List Tid). Contains xs tid) none there));
  store = subst (KeepsStore v) (sym is) (
    let zero = ap (λ (xs : List Tid). length xs) none in omega (arith, zero, some),
    λ tid there. absurd (Contains-none tid (subst (λ (xs : List Tid). Contains xs tid) none there)),
  );
}
