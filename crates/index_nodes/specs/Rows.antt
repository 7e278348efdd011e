-- What holds of nodes one after another where it holds of each: the laws of a branch. No definition: these are proofs.
use Rattle.std.proofs.Common.{◌≡◌, ℕ, zero, suc, ◌+◌, ◌*◌, ◌<◌, ◌≤◌, Option, Some, None, List, [], ◌∷◌, length, map, take, sum_by, slice_get, IfSome, IsSomeAnd, sym, ap, refl, subst, arith}
use Rattle.std.proofs.lemmas.List.{length-append}
use Rattle.std.proofs.lemmas.List.Sums.{sum_by-cons}
use Rattle.std.proofs.lemmas.List.Elements.{All-tail}
use Rattle.std.proofs.lemmas.Option.{slice_get_within}
use Rattle.index_entries.specs.declared.entry.Entry.{Entry}
use Rattle.index_entries.specs.declared.node.TheConstants.{HALF}
use Rattle.index_nodes.specs.declared.nodes.TreePosition.{TreePosition}
use Rattle.index_entries.specs.Lists.{concatenated}
use Rattle.index_nodes.specs.Nodes.{all, AreNeat, inner_rank, rank_in, IsPositionIn, IsEntryIn}

pub none_without : {N : Type 0} (entries : N → List Entry) (nodes : List N) → length nodes ≡ 0 → all entries nodes ≡ []
none_without entries [] none = refl
none_without entries (n ∷ nodes) none = absurd (omega (arith, none))

pub some_with : {N : Type 0} (entries : N → List Entry) (IsNeat : N → Type 0) (size : N → ℕ) (some : (n : N) → IsNeat n → 0 < size n → 0 < length (entries n)) (nodes : List N)
    → AreNeat IsNeat size nodes → 0 < length nodes → 0 < length (all entries nodes)
some_with entries IsNeat size some [] neat within = absurd (omega arith)
some_with entries IsNeat size some (n ∷ nodes) neat within =
    let prefix = neat 0 n (omega arith) in
    let first = some n prefix.0 prefix.1 in
    let whole = length-append (entries n) (all entries nodes) in
    omega arith

pub many_with : {N : Type 0} (entries : N → List Entry) (IsNeat : N → Type 0) (size : N → ℕ) (some : (n : N) → IsNeat n → 0 < size n → 0 < length (entries n)) (nodes : List N)
    → AreNeat IsNeat size nodes → length nodes ≤ length (all entries nodes)
many_with entries IsNeat size some [] neat = omega arith
many_with entries IsNeat size some (n ∷ nodes) neat =
    let prefix = neat 0 n (omega arith) in
    let first = some n prefix.0 prefix.1 in
    let rest = many_with entries IsNeat size some nodes (All-tail (λ n. IsNeat n × (0 < size n)) n nodes neat) in
    let whole = length-append (entries n) (all entries nodes) in
    omega arith

pub halves_with : {N : Type 0} (entries : N → List Entry) (long : N → ℕ) (halves : (n : N) → HALF * long n ≤ length (entries n)) (nodes : List N)
    → HALF * sum_by long nodes ≤ length (all entries nodes)
halves_with entries long halves [] = omega arith
halves_with entries long halves (n ∷ nodes) =
    let first = halves n in
    let rest = halves_with entries long halves nodes in
    let whole = length-append (entries n) (all entries nodes) in
    let sum = sum_by-cons long n nodes in
    omega arith

-- A position in a node is one among all.

pub inner_is : {N S : Type 0} (rank : N → S → ℕ) (nodes : List N) (position : TreePosition S) (n : N) → slice_get nodes position.node ≡ Some n
    → inner_rank rank (slice_get nodes position.node) position.inner ≡ rank n position.inner
inner_is rank nodes position n at = ap (λ o. inner_rank rank o position.inner) at

pub position_in : {N S : Type 0} (IsPosition : N → S → Type 0) (nodes : List N) (position : TreePosition S) (n : N) → slice_get nodes position.node ≡ Some n → IsPosition n position.inner → IsPositionIn IsPosition nodes position
position_in {N} IsPosition nodes position n at inner = record {
  node = λ some. slice_get_within nodes position.node n at;
  inner = subst (λ (o : Option N). IfSome o (λ n. IsPosition n position.inner)) (sym at) inner;
}

pub is_entry_in : {N S : Type 0} (IsEntry : N → S → Type 0) (nodes : List N) (position : TreePosition S) (n : N) → slice_get nodes position.node ≡ Some n → IsEntry n position.inner → IsEntryIn IsEntry nodes position
is_entry_in {N} IsEntry nodes position n at inner = subst (λ (o : Option N). IsSomeAnd o (λ n. IsEntry n position.inner)) (sym at) inner

pub entry_of_node : {N S : Type 0} (IsEntry : N → S → Type 0) (nodes : List N) (position : TreePosition S) (n : N) → slice_get nodes position.node ≡ Some n → IsEntryIn IsEntry nodes position → IsEntry n position.inner
entry_of_node {N} IsEntry nodes position n at entry = subst (λ (o : Option N). IsSomeAnd o (λ n. IsEntry n position.inner)) at entry

pub entry_is_position : {N S : Type 0} (IsPosition IsEntry : N → S → Type 0) (before : (n : N) (s : S) → IsEntry n s → IsPosition n s) (nodes : List N) (position : TreePosition S)
    → IsEntryIn IsEntry nodes position → IsPositionIn IsPosition nodes position
entry_is_position {N} IsPosition IsEntry before nodes position entry = by_node (slice_get nodes position.node) refl entry
  where
    by_node : (o : Option N) → slice_get nodes position.node ≡ o → IsSomeAnd o (λ n. IsEntry n position.inner) → IsPositionIn IsPosition nodes position
    by_node None at entry = absurd entry
    by_node (Some n) at entry = position_in IsPosition nodes position n at (before n position.inner entry)

-- a position is among the entries, or right behind the last

front_short : {N : Type 0} (entries : N → List Entry) (nodes : List N) (i : ℕ) → length (concatenated (take i (map entries nodes))) ≤ length (all entries nodes)
front_short entries nodes zero = omega arith
front_short entries [] (suc i) = omega arith
front_short entries (n ∷ nodes) (suc i) =
    let prefix = length-append (entries n) (concatenated (take i (map entries nodes))) in
    let whole = length-append (entries n) (all entries nodes) in
    let rest = front_short entries nodes i in
    omega arith

front_and : {N : Type 0} (entries : N → List Entry) (nodes : List N) (i k : ℕ) (n : N) → slice_get nodes i ≡ Some n → k ≤ length (entries n)
    → length (concatenated (take i (map entries nodes))) + k ≤ length (all entries nodes)
front_and entries [] zero k n at short = absurd (cc at)
front_and entries [] (suc i) k n at short = absurd (cc at)
front_and entries (m ∷ nodes) zero k n at short =
    let is : m ≡ n = cc at in
    let size : length (entries m) ≡ length (entries n) = ap (λ n. length (entries n)) is in
    let whole = length-append (entries m) (all entries nodes) in
    omega arith
front_and entries (m ∷ nodes) (suc i) k n at short =
    let prefix = length-append (entries m) (concatenated (take i (map entries nodes))) in
    let whole = length-append (entries m) (all entries nodes) in
    let rest = front_and entries nodes i k n at short in
    omega arith

pub rank_within : {N S : Type 0} (entries : N → List Entry) (rank : N → S → ℕ) (IsPosition : N → S → Type 0) (within : (n : N) (s : S) → IsPosition n s → rank n s ≤ length (entries n))
    (nodes : List N) (position : TreePosition S) → IsPositionIn IsPosition nodes position → rank_in entries rank nodes position ≤ length (all entries nodes)
rank_within {N} {S} entries rank IsPosition within nodes position in_range = by_node (slice_get nodes position.node) refl
  where
    by_node : (o : Option N) → slice_get nodes position.node ≡ o → rank_in entries rank nodes position ≤ length (all entries nodes)
    by_node None none =
        let is : inner_rank rank (slice_get nodes position.node) position.inner ≡ 0 = ap (λ o. inner_rank rank o position.inner) none in
        let prefix = front_short entries nodes position.node in
        omega arith
    by_node (Some n) at =
        let is = inner_is rank nodes position n at in
        let inner : IsPosition n position.inner = subst (λ (o : Option N). IfSome o (λ n. IsPosition n position.inner)) at in_range.inner in
        let short : inner_rank rank (slice_get nodes position.node) position.inner ≤ length (entries n) = omega (arith, is, within n position.inner inner) in
        front_and entries nodes position.node (inner_rank rank (slice_get nodes position.node) position.inner) n at short

-- an entry stands before the end of all

pub rank_inside : {N S : Type 0} (entries : N → List Entry) (rank : N → S → ℕ) (IsEntry : N → S → Type 0) (inside : (n : N) (s : S) → IsEntry n s → rank n s < length (entries n))
    (nodes : List N) (position : TreePosition S) → IsEntryIn IsEntry nodes position → rank_in entries rank nodes position < length (all entries nodes)
rank_inside {N} entries rank IsEntry inside nodes position entry = by_node (slice_get nodes position.node) refl entry
  where
    by_node : (o : Option N) → slice_get nodes position.node ≡ o → IsSomeAnd o (λ n. IsEntry n position.inner) → rank_in entries rank nodes position < length (all entries nodes)
    by_node None at entry = absurd entry
    by_node (Some n) at entry =
        let is = inner_is rank nodes position n at in
        let whole = front_and entries nodes position.node (rank n position.inner + 1) n at (omega (arith, inside n position.inner entry)) in
        omega (arith, is, whole)
