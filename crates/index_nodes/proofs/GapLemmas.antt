-- Where an entry goes, known by its two neighbours alone.
use Rattle.std.proofs.Common.{◌≡◌, ◌∙◌, ℕ, ◌+◌, ◌-◌, ◌<◌, inl, inr, Bool, IsTrue, List, length, map, get_or, Some, slice_get, sym, subst, arith}
use Rattle.std.proofs.lemmas.Bool.{cases_lt}
use Rattle.std.proofs.lemmas.Option.{slice_get-get_or, slice_get_within}
use Rattle.index_entries.specs.declared.entry.Entry.{Entry}
use Rattle.index_nodes.specs.declared.nodes.TreePosition.{TreePosition}
use Rattle.index_entries.specs.Order.{IsAscending}
use Rattle.index_entries.specs.Sets.{GoesBehind, GoesBefore}
use Rattle.index_entries.specs.Lists.{concatenated, list_of}
use Rattle.index_nodes.specs.Nodes.{all, inner_rank, rank_in}
use Rattle.index_nodes.specs.Rows.{inner_is}
use Rattle.index_entries.proofs.OrderLemmas.{Precedes-trans}
use Rattle.index_entries.proofs.SetLemmas.{ascending-at}
use Rattle.index_nodes.proofs.JoinedLemmas.{start, start_end, start_next, start_within, joined_get, in_list}
use Rattle.index_nodes.proofs.RowLemmas.{list_is, list_within, length-lists}

-- In a list, and among all: the neighbour is in the same list.

behind_joined : (ls : List (List Entry)) (x : Entry) (i j : ℕ) → i < length ls → IsAscending (concatenated ls) → GoesBehind (list_of ls i) x j → GoesBehind (concatenated ls) x (start ls i + j)
behind_joined ls x i j within up behind =
    let fits = start_within ls i within in
    record {
      some = omega (arith, behind.some);
      in_range = omega (arith, fits, behind.in_range);
      before = λ k e lt at. elim (cases_lt k (start ls i)) [
        | inl early ↦
            let inside : j - 1 < length (list_of ls i) = omega (arith, behind.some, behind.in_range) in
            let b = get_or (list_of ls i) (j - 1) e in
            let here : slice_get (list_of ls i) (j - 1) ≡ Some b = slice_get-get_or (list_of ls i) (j - 1) e inside in
            let there : slice_get (concatenated ls) (start ls i + (j - 1)) ≡ Some b = joined_get ls i (j - 1) within inside ∙ here in
            Precedes-trans e b x (ascending-at (concatenated ls) k (start ls i + (j - 1)) e b up (omega (arith, early)) at there)
            (behind.before (j - 1) b (omega (arith, behind.some)) here)
        | inr late ↦ behind.before (k - start ls i) e (omega arith) (in_list ls i k e within late (omega (arith, lt, behind.in_range)) at)
      ];
    }

before_joined : (ls : List (List Entry)) (x : Entry) (i j : ℕ) (inner_last is_last : Bool) → i < length ls → IsAscending (concatenated ls) → (IsTrue inner_last → (i + 1 ≡ length ls) × IsTrue is_last)
    → GoesBefore (list_of ls i) x inner_last j → GoesBefore (concatenated ls) x is_last (start ls i + j)
before_joined ls x i j inner_last is_last within up last before =
    let fits = start_within ls i within in
    record {
      after = λ k e le at. elim (cases_lt k (start ls i + length (list_of ls i))) [
        | inl early ↦ before.after (k - start ls i) e (omega arith) (in_list ls i k e within (omega (arith, le)) early at)
        | inr late ↦ elim before.more [
          | inl some ↦
              let b = get_or (list_of ls i) j e in
              let here : slice_get (list_of ls i) j ≡ Some b = slice_get-get_or (list_of ls i) j e some in
              let there : slice_get (concatenated ls) (start ls i + j) ≡ Some b = joined_get ls i j within some ∙ here in
              Precedes-trans x b e (before.after j b (omega arith) here) (ascending-at (concatenated ls) (start ls i + j) k b e up (omega (arith, some, late)) there at)
          | inr end ↦
              let next = start_next ls i within in
              let whole = start_end ls (i + 1) (omega (arith, (last end).0)) in
              absurd (omega (arith, late, next, whole, slice_get_within (concatenated ls) k e at))
        ]
      ];
      more = elim before.more [
        | inl some ↦ inl (omega (arith, some, fits))
        | inr end ↦ inr (last end).1
      ];
    }

module _ {N S : Type 0} (entries : N → List Entry) (rank : N → S → ℕ) (nodes : List N) (x : Entry) (position : TreePosition S) (n : N) (up : IsAscending (all entries nodes)) (at : slice_get nodes position.node ≡ Some n) where
  pub goes_behind_in : GoesBehind (entries n) x (rank n position.inner) → GoesBehind (all entries nodes) x (rank_in entries rank nodes position)
  goes_behind_in behind =
      let i = inner_rank rank (slice_get nodes position.node) position.inner in
      behind_joined (map entries nodes) x position.node i (list_within entries nodes position.node n at) up
      (subst (λ (l : List Entry). GoesBehind l x i) (sym (list_is entries nodes position.node n at)) (subst (GoesBehind (entries n) x) (sym (inner_is rank nodes position n at)) behind))

  pub goes_before_in : (inner_last is_last : Bool) → (IsTrue inner_last → (position.node + 1 ≡ length nodes) × IsTrue is_last) → GoesBefore (entries n) x inner_last (rank n position.inner)
      → GoesBefore (all entries nodes) x is_last (rank_in entries rank nodes position)
  goes_before_in inner_last is_last last before =
      let i = inner_rank rank (slice_get nodes position.node) position.inner in
      let size = length-lists entries nodes in
      before_joined (map entries nodes) x position.node i inner_last is_last (list_within entries nodes position.node n at) up (λ end. (omega (arith, (last end).0, size), (last end).1))
      (subst (λ (l : List Entry). GoesBefore l x inner_last i) (sym (list_is entries nodes position.node n at)) (subst (GoesBefore (entries n) x inner_last) (sym (inner_is rank nodes position n at)) before))
