-- Nodes as long lists of entries: what is found in one of them is found among all.
use Rattle.std.proofs.Common.{◌≡◌, ◌∙◌, ℕ, zero, suc, ◌+◌, ◌<◌, ◌≤◌, Option, Some, None, List, [], ◌∷◌, length, map, option_map, slice_get, slice_index_or, IfSome, sym, ap, subst, arith}
use Rattle.std.specs.List.{All}
use Rattle.std.proofs.lemmas.List.{length-map}
use Rattle.std.proofs.lemmas.Option.{slice_get-map, slice_get-get_or, slice_get_within, get_or_from_slice_get}
use Rattle.index_entries.specs.declared.entry.Entry.{Entry}
use Rattle.index_nodes.specs.declared.nodes.TreePosition.{TreePosition}
use Rattle.index_entries.specs.Order.{IsAscending}
use Rattle.index_entries.specs.Sets.{IsAt, IsGapFor}
use Rattle.index_entries.specs.Lists.{list_of, IsLastBetween}
use Rattle.index_nodes.specs.Nodes.{all, AreNeat, list_place, rank_in, inner_rank, IsPositionIn}
use Rattle.index_nodes.specs.Rows.{inner_is}
use Rattle.index_nodes.proofs.JoinedLemmas.{IsFilled, IsPlaceIn, start, start_next, start_within, joined_get, found_joined, absent_joined, entry_in_list, entry_in_next, none_behind, ascending_list}

-- an item that a loop reads
pub item : {X : Type 0} (xs : List X) (i : ℕ) (x : X) → i < length xs → x ≡ slice_index_or xs i x → slice_get xs i ≡ Some x
item xs i x within is = slice_get-get_or xs i x within ∙ ap Some (sym is)

pub all_at : {X : Type 0} (P : X → Type 0) (xs : List X) (i : ℕ) (x : X) → All P xs → slice_get xs i ≡ Some x → P x
all_at P xs i x holds at = subst P (get_or_from_slice_get xs i x x at) (holds i x (slice_get_within xs i x at))

module _ {N : Type 0} (entries : N → List Entry) where
  pub list_at : (nodes : List N) (i : ℕ) (n : N) → slice_get nodes i ≡ Some n → slice_get (map entries nodes) i ≡ Some (entries n)
  list_at nodes i n at = slice_get-map entries nodes i ∙ ap (option_map entries) at

  pub list_none : (nodes : List N) (i : ℕ) → slice_get nodes i ≡ None → slice_get (map entries nodes) i ≡ None
  list_none nodes i none = slice_get-map entries nodes i ∙ ap (option_map entries) none

  pub list_is : (nodes : List N) (i : ℕ) (n : N) → slice_get nodes i ≡ Some n → list_of (map entries nodes) i ≡ entries n
  list_is nodes i n at = get_or_from_slice_get (map entries nodes) i (entries n) [] (list_at nodes i n at)

  pub length-lists : (nodes : List N) → length (map entries nodes) ≡ length nodes
  length-lists nodes = length-map nodes entries

  pub list_within : (nodes : List N) (i : ℕ) (n : N) → slice_get nodes i ≡ Some n → i < length (map entries nodes)
  list_within nodes i n at = slice_get_within (map entries nodes) i (entries n) (list_at nodes i n at)

  pub ascending_in : (nodes : List N) (i : ℕ) (n : N) → IsAscending (all entries nodes) → slice_get nodes i ≡ Some n → IsAscending (entries n)
  ascending_in nodes i n up at = subst IsAscending (list_is nodes i n at) (ascending_list (map entries nodes) i (list_within nodes i n at) up)

  pub lists_filled : (IsNeat : N → Type 0) (size : N → ℕ) → ((n : N) → IsNeat n → 0 < size n → 0 < length (entries n)) → (nodes : List N)
      → AreNeat IsNeat size nodes → IsFilled (map entries nodes)
  lists_filled IsNeat size some [] neat i within = absurd (omega arith)
  lists_filled IsNeat size some (n ∷ nodes) neat zero within = let first = neat 0 n (omega arith) in some n first.0 first.1
  lists_filled IsNeat size some (n ∷ nodes) neat (suc i) within = lists_filled IsNeat size some nodes (λ k d lt. neat (suc k) d (omega arith)) i (omega arith)

  -- The count of the entries of the nodes so far and of the next.

  pub count_next : (nodes : List N) (i : ℕ) (n : N) → slice_get nodes i ≡ Some n → start (map entries nodes) (i + 1) ≡ start (map entries nodes) i + length (entries n)
  count_next nodes i n at =
      start_next (map entries nodes) i (list_within nodes i n at) ∙ ap (λ l. start (map entries nodes) i + length l) (list_is nodes i n at)

  pub count_fits : (nodes : List N) (i : ℕ) (n : N) → slice_get nodes i ≡ Some n → start (map entries nodes) i + length (entries n) ≤ length (all entries nodes)
  count_fits nodes i n at =
      subst (λ (l : List Entry). start (map entries nodes) i + length l ≤ length (all entries nodes)) (list_is nodes i n at)
      (start_within (map entries nodes) i (list_within nodes i n at))

  module _ {S : Type 0} (rank : N → S → ℕ) where
    pub found_in : (nodes : List N) (x : Entry) (position : TreePosition S) (n : N) → slice_get nodes position.node ≡ Some n → IsAt (entries n) x (rank n position.inner)
        → IsAt (all entries nodes) x (rank_in entries rank nodes position)
    found_in nodes x position n at found =
        let there : IsAt (list_of (map entries nodes) position.node) x (inner_rank rank (slice_get nodes position.node) position.inner) =
        subst (λ (l : List Entry). IsAt l x (inner_rank rank (slice_get nodes position.node) position.inner)) (sym (list_is nodes position.node n at))
        (subst (IsAt (entries n) x) (sym (inner_is rank nodes position n at)) found) in
        let joined = found_joined (map entries nodes) x (list_place rank nodes position) (list_within nodes position.node n at) there in
        joined.at

    pub found_back : (nodes : List N) (x : Entry) (position : TreePosition S) (n : N) → slice_get nodes position.node ≡ Some n → rank n position.inner < length (entries n)
        → IsAt (all entries nodes) x (rank_in entries rank nodes position) → IsAt (entries n) x (rank n position.inner)
    found_back nodes x position n at inside found =
        let place : ℕ = inner_rank rank (slice_get nodes position.node) position.inner in
        let is : place ≡ rank n position.inner = inner_is rank nodes position n at in
        let list = list_is nodes position.node n at in
        let size : length (list_of (map entries nodes) position.node) ≡ length (entries n) = ap (λ (l : List Entry). length l) list in
        let there = sym (joined_get (map entries nodes) position.node place (list_within nodes position.node n at) (omega (arith, is, size, inside))) ∙ found in
        subst (IsAt (entries n) x) is (subst (λ (l : List Entry). IsAt l x place) list there)

    pub gap_in : (nodes : List N) (x : Entry) (position : TreePosition S) (n : N) → IsFilled (map entries nodes) → IsAscending (all entries nodes)
        → IsLastBetween (map entries nodes) x position.node (position.node + 1) → slice_get nodes position.node ≡ Some n → IsGapFor (entries n) x (rank n position.inner)
        → IsGapFor (all entries nodes) x (rank_in entries rank nodes position)
    gap_in nodes x position n filled up between at gap =
        let there : IsGapFor (list_of (map entries nodes) position.node) x (inner_rank rank (slice_get nodes position.node) position.inner) =
        subst (λ (l : List Entry). IsGapFor l x (inner_rank rank (slice_get nodes position.node) position.inner)) (sym (list_is nodes position.node n at))
        (subst (IsGapFor (entries n) x) (sym (inner_is rank nodes position n at)) gap) in
        let joined = absent_joined (map entries nodes) x (list_place rank nodes position) (record { ascending = up; filled = filled }) between there in
        joined.gap

    -- The entry at a position: in its node, or the first of the next, or none.

    module _ (IsPosition : N → S → Type 0) (within : (n : N) (s : S) → IsPosition n s → rank n s ≤ length (entries n)) where
      pub place_in : (nodes : List N) (position : TreePosition S) (n : N) → slice_get nodes position.node ≡ Some n → IsPositionIn IsPosition nodes position → IsPlaceIn (map entries nodes) (list_place rank nodes position)
      place_in nodes position n at in_range =
          let inner : IsPosition n position.inner = subst (λ (o : Option N). IfSome o (λ n. IsPosition n position.inner)) at in_range.inner in
          let short = within n position.inner inner in
          let is = inner_is rank nodes position n at in
          let size : length (list_of (map entries nodes) position.node) ≡ length (entries n) = ap length (list_is nodes position.node n at) in
          record { list = λ some. list_within nodes position.node n at; entry = omega arith }

      pub entry_here : (nodes : List N) (position : TreePosition S) (n : N) (e : Entry) → slice_get nodes position.node ≡ Some n → slice_get (entries n) (rank n position.inner) ≡ Some e
          → slice_get (all entries nodes) (rank_in entries rank nodes position) ≡ Some e
      entry_here nodes position n e at is =
          entry_in_list (map entries nodes) (list_place rank nodes position) (entries n) e (list_at nodes position.node n at) (ap (slice_get (entries n)) (inner_is rank nodes position n at) ∙ is)

      pub entry_next : (nodes : List N) (position : TreePosition S) (n m : N) → IsFilled (map entries nodes) → IsPositionIn IsPosition nodes position → slice_get nodes position.node ≡ Some n
          → slice_get (entries n) (rank n position.inner) ≡ None → slice_get nodes (position.node + 1) ≡ Some m
          → slice_get (all entries nodes) (rank_in entries rank nodes position) ≡ slice_get (entries m) 0
      entry_next nodes position n m filled in_range at none next =
          entry_in_next (map entries nodes) (list_place rank nodes position) (entries n) (entries m) filled (place_in nodes position n at in_range) (list_at nodes position.node n at)
          (ap (slice_get (entries n)) (inner_is rank nodes position n at) ∙ none) (list_at nodes (position.node + 1) m next)

      pub entry_last : (nodes : List N) (position : TreePosition S) (n : N) → IsPositionIn IsPosition nodes position → slice_get nodes position.node ≡ Some n
          → slice_get (entries n) (rank n position.inner) ≡ None → slice_get nodes (position.node + 1) ≡ None
          → slice_get (all entries nodes) (rank_in entries rank nodes position) ≡ None
      entry_last nodes position n in_range at none last =
          none_behind (map entries nodes) (list_place rank nodes position) (entries n) (place_in nodes position n at in_range) (list_at nodes position.node n at)
          (ap (slice_get (entries n)) (inner_is rank nodes position n at) ∙ none) (list_none nodes (position.node + 1) last)
