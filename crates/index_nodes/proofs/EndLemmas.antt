-- The last entry of a value and a key: it is known by the next one, which is of another value or another key.
use Rattle.std.proofs.Common.{◌≡◌, ◌∙◌, ℕ, ◌+◌, ◌<◌, ◌≤◌, inl, inr, List, length, Option, Some, None, slice_get, IsSomeAnd, sym, ap, refl, subst, arith}
use Rattle.std.proofs.lemmas.Bool.{cases_lt}
use Rattle.index_entries.specs.declared.entry.Entry.{Entry}
use Rattle.index_nodes.specs.declared.nodes.TreePosition.{TreePosition}
use Rattle.index_entries.specs.Order.{EntryPrecedes, IsAscending}
use Rattle.index_entries.specs.Sets.{IsOf, IsEndAt, IsLastOf}
use Rattle.index_entries.specs.Lists.{concatenated, rank, EntryPlace}
use Rattle.index_nodes.specs.Nodes.{all, list_place, rank_in, IsPositionIn}
use Rattle.index_nodes.specs.Rows.{inner_is}
use Rattle.index_entries.proofs.OrderLemmas.{not_before_itself, Precedes-not_back}
use Rattle.index_entries.proofs.SetLemmas.{place_of, same_place, ascending-at}
use Rattle.index_entries.proofs.LookUpLemmas.{between_alike}
use Rattle.index_nodes.proofs.JoinedLemmas.{IsPlaceIn, start, entry_in_list, behind_list}
use Rattle.index_nodes.proofs.RowLemmas.{list_at, place_in}

-- The next one among all.

end_by_case : (ys : List Entry) (e : Entry) (j : ℕ) (o : Option Entry) → ((n : Entry) → o ≡ Some n → slice_get ys (j + 1) ≡ Some n)
    → IsSomeAnd o (λ n. ¬ IsOf e.value e.key n) → IsEndAt ys e j
end_by_case ys e j None next end = absurd end
end_by_case ys e j (Some n) next end = subst (λ (o : Option Entry). IsSomeAnd o (λ n. ¬ IsOf e.value e.key n)) (sym (next n refl)) end

end_moved : (xs ys : List Entry) (e : Entry) (i j : ℕ) → ((n : Entry) → slice_get xs (i + 1) ≡ Some n → slice_get ys (j + 1) ≡ Some n) → IsEndAt xs e i → IsEndAt ys e j
end_moved xs ys e i j next end = end_by_case ys e j (slice_get xs (i + 1)) next end

next_in_list : (ls : List (List Entry)) (p : EntryPlace) (l : List Entry) (n : Entry) → slice_get ls p.list ≡ Some l → slice_get l (p.entry + 1) ≡ Some n
    → slice_get (concatenated ls) (rank ls p + 1) ≡ Some n
next_in_list ls p l n at in_l =
    let is : rank ls p + 1 ≡ start ls p.list + (p.entry + 1) = omega arith in
    ap (slice_get (concatenated ls)) is ∙ entry_in_list ls (record { list = p.list; entry = p.entry + 1 }) l n at in_l

second_in_next : (ls : List (List Entry)) (p : EntryPlace) (l m : List Entry) (n : Entry) → IsPlaceIn ls p → slice_get ls p.list ≡ Some l → slice_get l p.entry ≡ None
    → slice_get ls (p.list + 1) ≡ Some m → slice_get m 1 ≡ Some n → slice_get (concatenated ls) (rank ls p + 1) ≡ Some n
second_in_next ls p l m n in_range at none next in_m =
    let behind = behind_list ls p l in_range at none in
    let is : rank ls p + 1 ≡ start ls (p.list + 1) + 1 = omega (arith, behind) in
    ap (slice_get (concatenated ls)) is ∙ entry_in_list ls (record { list = p.list + 1; entry = 1 }) m n next in_m

module _ {N S : Type 0} (entries : N → List Entry) (rank : N → S → ℕ) where
  pub end_here : (nodes : List N) (position : TreePosition S) (n : N) (e : Entry) → slice_get nodes position.node ≡ Some n → IsEndAt (entries n) e (rank n position.inner)
      → IsEndAt (all entries nodes) e (rank_in entries rank nodes position)
  end_here nodes position n e at end =
      end_moved (entries n) (all entries nodes) e (rank n position.inner) (rank_in entries rank nodes position)
      (λ x is. next_in_list _ (list_place rank nodes position) (entries n) x (list_at entries nodes position.node n at) (ap (λ k. slice_get (entries n) (k + 1)) (inner_is rank nodes position n at) ∙ is)) end

  pub end_in_next : (IsPosition : N → S → Type 0) → ((n : N) (s : S) → IsPosition n s → rank n s ≤ length (entries n)) → (nodes : List N) (position : TreePosition S) (n m : N) (e : Entry) (first : S)
      → IsPositionIn IsPosition nodes position → slice_get nodes position.node ≡ Some n → slice_get (entries n) (rank n position.inner) ≡ None → slice_get nodes (position.node + 1) ≡ Some m
      → rank m first ≡ 0 → IsEndAt (entries m) e (rank m first) → IsEndAt (all entries nodes) e (rank_in entries rank nodes position)
  end_in_next IsPosition within nodes position n m e first in_range at none next begins end =
      end_moved (entries m) (all entries nodes) e (rank m first) (rank_in entries rank nodes position)
      (λ x is. second_in_next _ (list_place rank nodes position) (entries n) (entries m) x (place_in entries rank IsPosition within nodes position n at in_range)
      (list_at entries nodes position.node n at) (ap (slice_get (entries n)) (inner_is rank nodes position n at) ∙ none) (list_at entries nodes (position.node + 1) m next)
      (ap (λ k. slice_get (entries m) (k + 1)) (sym begins) ∙ is)) end

-- Where the next one is of another value or key, all behind it are so too.

last_by_next : (xs : List Entry) (f n : Entry) (i : ℕ) → IsAscending xs → slice_get xs i ≡ Some f → slice_get xs (i + 1) ≡ Some n → ¬ IsOf f.value f.key n → IsLastOf xs f
last_by_next xs f n i up at next other e there of after =
    let p = place_of xs e there in
    other (between_alike f.value f.key f n e (refl, refl) of (Precedes-not_back f n (ascending-at xs i (i + 1) f n up (omega arith) at next)) (
    elim (cases_lt (i + 1) p.0) [
      | inl later ↦ Precedes-not_back n e (ascending-at xs (i + 1) p.0 n e up later next p.1)
      | inr le ↦ elim (cases_lt p.0 (i + 1)) [
        | inl sooner ↦ absurd (not_after p.0 p.1 (omega arith))
        | inr same ↦ λ back. not_before_itself n (subst (λ y. EntryPrecedes y n) (same_place xs p.0 (i + 1) e n (omega arith) p.1 next) back)
      ]
    ]))
  where
    not_after : (k : ℕ) → slice_get xs k ≡ Some e → k < i + 1 → ⊥
    not_after k at_k lt = elim (cases_lt k i) [
      | inl below ↦ Precedes-not_back e f (ascending-at xs k i e f up below at_k at) after
      | inr le ↦ not_before_itself f (subst (λ y. EntryPrecedes f y) (same_place xs k i e f (omega arith) at_k at) after)
    ]

last_by_case : (xs : List Entry) (f : Entry) (i : ℕ) (o : Option Entry) → IsAscending xs → slice_get xs i ≡ Some f → slice_get xs (i + 1) ≡ o → IsSomeAnd o (λ n. ¬ IsOf f.value f.key n) → IsLastOf xs f
last_by_case xs f i None up at next end = absurd end
last_by_case xs f i (Some n) up at next end = last_by_next xs f n i up at next end

pub last_at_end : (xs : List Entry) (f : Entry) (i : ℕ) → IsAscending xs → slice_get xs i ≡ Some f → IsEndAt xs f i → IsLastOf xs f
last_at_end xs f i up at end = last_by_case xs f i (slice_get xs (i + 1)) up at refl end

pub last_found : {N S : Type 0} (entries : N → List Entry) (rank : N → S → ℕ) (nodes here : List N) (f : Entry) (position : TreePosition S) → here ≡ nodes → IsAscending (all entries nodes)
    → Some f ≡ slice_get (all entries here) (rank_in entries rank here position) → IsEndAt (all entries here) f (rank_in entries rank here position) → IsLastOf (all entries nodes) f
last_found {N} entries rank nodes here f position is up at end =
    let there = subst (λ (ns : List N). IsAscending (all entries ns)) (sym is) up in
    subst (λ (ns : List N). IsLastOf (all entries ns) f) is (last_at_end (all entries here) f (rank_in entries rank here position) there (sym at) end)
