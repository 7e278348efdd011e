-- What an insert does to all entries: a node that is split, and an entry that is put into one.
use Rattle.std.proofs.Common.{◌≡◌, ◌∙◌, ℕ, zero, suc, ◌+◌, ◌<◌, ◌≤◌, Option, Some, None, List, [], ◌∷◌, ◌++◌, length, map, take, slice_get, slice_set, slice_index_or, IsSomeAnd, sym, ap, refl, subst, arith}
use Rattle.std.specs.List.{insert, All}
use Rattle.std.proofs.lemmas.List.{length-append, append_assoc, map-set}
use Rattle.std.proofs.lemmas.List.Elements.{All-cons, All-head, All-tail}
use Rattle.std.proofs.lemmas.Option.{slice_get_within}
use Rattle.index_entries.specs.declared.entry.Entry.{Entry}
use Rattle.index_nodes.specs.declared.nodes.TreePosition.{TreePosition}
use Rattle.index_entries.specs.Lists.{concatenated, list_of}
use Rattle.index_nodes.specs.Nodes.{all, inner_rank, rank_in, IsOpened}
use Rattle.index_nodes.specs.Rows.{inner_is}
use Rattle.index_nodes.proofs.JoinedLemmas.{start}
use Rattle.index_nodes.proofs.EditLemmas.{joined_put}
use Rattle.index_nodes.proofs.RowLemmas.{item, list_is, list_within, count_next}

-- A node that two take the place of.

abbrev pub split_to : {X : Type 0} → List X → ℕ → X → X → List X
split_to [] i l u = []
split_to (x ∷ xs) zero l u = l ∷ u ∷ xs
split_to (x ∷ xs) (suc i) l u = x ∷ split_to xs i l u

split_to_by_insert : {X : Type 0} (xs : List X) (i : ℕ) (l u : X) → i < length xs → insert (slice_set xs i l) (suc i) u ≡ split_to xs i l u
split_to_by_insert [] i l u within = absurd (omega arith)
split_to_by_insert (x ∷ xs) zero l u within = refl
split_to_by_insert (x ∷ xs) (suc i) l u within = ap (λ r. x ∷ r) (split_to_by_insert xs i l u (omega arith))

pub split_to_is : {X : Type 0} (xs : List X) (i : ℕ) (l u : X) → i < length xs → split_to xs i l u ≡ insert (slice_set xs i l) (i + 1) u
split_to_is xs i l u within =
    let next : suc i ≡ i + 1 = omega arith in
    sym (split_to_by_insert xs i l u within) ∙ ap (λ k. insert (slice_set xs i l) k u) next

get_low : {X : Type 0} (xs : List X) (i : ℕ) (l u : X) → i < length xs → slice_get (split_to xs i l u) i ≡ Some l
get_low [] i l u within = absurd (omega arith)
get_low (x ∷ xs) zero l u within = refl
get_low (x ∷ xs) (suc i) l u within = get_low xs i l u (omega arith)

high_by_suc : {X : Type 0} (xs : List X) (i : ℕ) (l u : X) → i < length xs → slice_get (split_to xs i l u) (suc i) ≡ Some u
high_by_suc [] i l u within = absurd (omega arith)
high_by_suc (x ∷ xs) zero l u within = refl
high_by_suc (x ∷ xs) (suc i) l u within = high_by_suc xs i l u (omega arith)

get_high : {X : Type 0} (xs : List X) (i : ℕ) (l u : X) → i < length xs → slice_get (split_to xs i l u) (i + 1) ≡ Some u
get_high xs i l u within =
    let next : i + 1 ≡ suc i = omega arith in
    ap (slice_get (split_to xs i l u)) next ∙ high_by_suc xs i l u within

pub all_split : {X : Type 0} (P : X → Type 0) (xs : List X) (i : ℕ) (l u : X) → All P xs → P l → P u → All P (split_to xs i l u)
all_split P [] i l u holds low high = holds
all_split P (x ∷ xs) zero l u holds low high = All-cons P l (u ∷ xs) low (All-cons P u xs high (All-tail P x xs holds))
all_split P (x ∷ xs) (suc i) l u holds low high = All-cons P x (split_to xs i l u) (All-head P x xs holds) (all_split P xs i l u (All-tail P x xs holds) low high)

module _ {N : Type 0} (entries : N → List Entry) where
  entries_split : (nodes : List N) (i : ℕ) (n l u : N) → slice_get nodes i ≡ Some n → entries l ++ entries u ≡ entries n → all entries (split_to nodes i l u) ≡ all entries nodes
  entries_split [] i n l u at is = refl
  entries_split (m ∷ nodes) zero n l u at is =
      let same : n ≡ m = cc at in
      sym (append_assoc (entries l) (entries u) (all entries nodes)) ∙ ap (λ es. es ++ all entries nodes) (is ∙ ap entries same)
  entries_split (m ∷ nodes) (suc i) n l u at is = ap (λ r. entries m ++ r) (entries_split nodes i n l u at is)

  start_split : (nodes : List N) (i : ℕ) (l u : N) → start (map entries (split_to nodes i l u)) i ≡ start (map entries nodes) i
  start_split [] i l u = refl
  start_split (m ∷ nodes) zero l u = refl
  start_split (m ∷ nodes) (suc i) l u =
      let rest = start_split nodes i l u in
      length-append (entries m) (concatenated (take i (map entries (split_to nodes i l u))))
      ∙ ap (λ k. length (entries m) + k) rest
      ∙ sym (length-append (entries m) (concatenated (take i (map entries nodes))))

  all_set_same : (nodes : List N) (i : ℕ) (n put : N) → slice_get nodes i ≡ Some n → entries put ≡ entries n → all entries (slice_set nodes i put) ≡ all entries nodes
  all_set_same [] i n put at is = refl
  all_set_same (m ∷ nodes) zero n put at is = let same : n ≡ m = cc at in ap (λ es. es ++ all entries nodes) (is ∙ ap entries same)
  all_set_same (m ∷ nodes) (suc i) n put at is = ap (λ r. entries m ++ r) (all_set_same nodes i n put at is)

  module _ {S : Type 0} (size : N → ℕ) (rank : N → S → ℕ) (IsPosition : N → S → Type 0) where
    module _ (nodes : List N) (position : TreePosition S) (n l u : N) (inner : S) (at : slice_get nodes position.node ≡ Some n) (is : entries l ++ entries u ≡ entries n) where
      pub opened_low : size l < 128 → IsPosition l inner → rank l inner ≡ rank n position.inner
          → IsOpened entries size rank IsPosition nodes (split_to nodes position.node l u) position (record { node = position.node; inner = inner })
      opened_low few low ranked =
          let low_at = get_low nodes position.node l u (slice_get_within nodes position.node n at) in
          let prefix = start_split nodes position.node l u in
          let there : inner_rank rank (slice_get (split_to nodes position.node l u) position.node) inner ≡ rank l inner = ap (λ o. inner_rank rank o inner) low_at in
          let was = inner_is rank nodes position n at in
          record {
            same = entries_split nodes position.node n l u at is;
            before = omega arith;
            room = subst (λ (o : Option N). IsSomeAnd o (λ n. (size n < 128) × IsPosition n inner)) (sym low_at) (few, low);
          }

      pub opened_high : size u < 128 → IsPosition u inner → length (entries l) + rank u inner ≡ rank n position.inner
          → IsOpened entries size rank IsPosition nodes (split_to nodes position.node l u) position (record { node = position.node + 1; inner = inner })
      opened_high few high ranked =
          let within = slice_get_within nodes position.node n at in
          let high_at = get_high nodes position.node l u within in
          let prefix = start_split nodes position.node l u in
          let next = count_next entries (split_to nodes position.node l u) position.node l (get_low nodes position.node l u within) in
          let there : inner_rank rank (slice_get (split_to nodes position.node l u) (position.node + 1)) inner ≡ rank u inner = ap (λ o. inner_rank rank o inner) high_at in
          let was = inner_is rank nodes position n at in
          record {
            same = entries_split nodes position.node n l u at is;
            before = omega arith;
            room = subst (λ (o : Option N). IsSomeAnd o (λ n. (size n < 128) × IsPosition n inner)) (sym high_at) (few, high);
          }

    -- An entry that is put into a node with room.

    module _ (within : (n : N) (s : S) → IsPosition n s → rank n s ≤ length (entries n)) (old new : List N) (was is : TreePosition S) (b put : N) (opened : IsOpened entries size rank IsPosition old new was is)
        (at : slice_get new is.node ≡ Some b) where
      pub put_in : (x : Entry) → entries put ≡ insert (entries b) (rank b is.inner) x → all entries (slice_set new is.node put) ≡ insert (all entries old) (rank_in entries rank old was) x
      put_in x made =
          let room = subst (λ (o : Option N). IsSomeAnd o (λ n. (size n < 128) × IsPosition n is.inner)) at opened.room in
          let short = within b is.inner room.1 in
          let leaf = list_is entries new is.node b at in
          let size : length (list_of (map entries new) is.node) ≡ length (entries b) = ap length leaf in
          let there : start (map entries new) is.node + rank b is.inner ≡ rank_in entries rank old was =
          ap (λ k. start (map entries new) is.node + k) (sym (inner_is rank new is b at)) ∙ opened.before in
          ap concatenated (map-set entries new is.node put)
          ∙ ap (λ l. concatenated (slice_set (map entries new) is.node l)) (made ∙ ap (λ l. insert l (rank b is.inner) x) (sym leaf))
          ∙ joined_put (map entries new) is.node (rank b is.inner) x (list_within entries new is.node b at) (omega arith)
          ∙ ap (λ xs. insert xs (start (map entries new) is.node + rank b is.inner) x) opened.same
          ∙ ap (λ k. insert (all entries old) k x) there

      pub kept_in : entries put ≡ entries b → all entries (slice_set new is.node put) ≡ all entries old
      kept_in same = all_set_same new is.node b put at same ∙ opened.same

-- the node that was made room in
pub opened_at : {N : Type 0} (P : N → Type 0) (nodes : List N) (i : ℕ) (n : N) → IsSomeAnd (slice_get nodes i) P → n ≡ slice_index_or nodes i n → slice_get nodes i ≡ Some n
opened_at {N} P nodes i n some is = by_node (slice_get nodes i) refl some
  where
    by_node : (o : Option N) → slice_get nodes i ≡ o → IsSomeAnd o P → slice_get nodes i ≡ Some n
    by_node None none some = absurd some
    by_node (Some m) at some = item nodes i n (slice_get_within nodes i m at) is

-- and what is known of it
pub there_with : {N : Type 0} (P : N → Type 0) (nodes : List N) (i : ℕ) (n : N) → IsSomeAnd (slice_get nodes i) P → n ≡ slice_index_or nodes i n → (slice_get nodes i ≡ Some n) × P n
there_with {N} P nodes i n some is =
    let at = opened_at P nodes i n some is in
    (at, subst (λ (o : Option N). IsSomeAnd o P) at some)

-- there is such a node
pub some_within : {N : Type 0} (P : N → Type 0) (nodes : List N) (i : ℕ) → IsSomeAnd (slice_get nodes i) P → i < length nodes
some_within {N} P nodes i some = by_node (slice_get nodes i) refl some
  where
    by_node : (o : Option N) → slice_get nodes i ≡ o → IsSomeAnd o P → i < length nodes
    by_node None at some = absurd some
    by_node (Some n) at some = slice_get_within nodes i n at
