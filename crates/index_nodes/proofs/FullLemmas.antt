-- Where memory is refused some node is full, and so there are many entries.
use Rattle.std.proofs.Common.{◌≡◌, ◌∙◌, ℕ, zero, suc, ◌+◌, ◌*◌, ◌<◌, ◌≤◌, ◌⊎◌, inl, inr, List, [], ◌∷◌, Option, Some, IfSome, length, sum_by, slice_get, sym, ap, subst, arith}
use Rattle.std.proofs.lemmas.List.{length-append}
use Rattle.std.proofs.lemmas.List.Sums.{sum_by-cons}
use Rattle.index_entries.specs.declared.entry.Entry.{Entry}
use Rattle.index_nodes.specs.Nodes.{all, AreNeat}
use Rattle.index_nodes.specs.Rows.{halves_with}
use Rattle.index_nodes.proofs.RowLemmas.{all_at, count_fits}

-- one node has half of what a leaf may have besides its long leaves
one_more : {N : Type 0} (entries : N → List Entry) (long : N → ℕ) (halves : (n : N) → 64 * long n ≤ length (entries n)) (nodes : List N) (i : ℕ) (n : N) → slice_get nodes i ≡ Some n
    → 64 * (long n + 1) ≤ length (entries n) → 64 * (sum_by long nodes + 1) ≤ length (all entries nodes)
one_more entries long halves [] i n at more = absurd (cc at)
one_more entries long halves (m ∷ nodes) zero n at more =
    let same : n ≡ m = cc at in
    let rest = halves_with entries long halves nodes in
    let whole = length-append (entries m) (all entries nodes) in
    let sum = sum_by-cons long m nodes in
    let counts = ap long same in
    let size = ap (λ n. length (entries n)) same in
    omega arith
one_more entries long halves (m ∷ nodes) (suc i) n at more =
    let first = halves m in
    let rest = one_more entries long halves nodes i n at more in
    let whole = length-append (entries m) (all entries nodes) in
    let sum = sum_by-cons long m nodes in
    omega arith

module _ {N : Type 0} (entries : N → List Entry) (IsNeat : N → Type 0) (size : N → ℕ) (nodes : List N) (i : ℕ) (n : N) (neat : AreNeat IsNeat size nodes) (at : slice_get nodes i ≡ Some n) where
  -- it has 128 parts
  pub full_by_parts : ((n : N) → IsNeat n → size n ≤ length (entries n)) → 128 ≤ size n → 128 ≤ length (all entries nodes)
  full_by_parts many full =
      let fits = count_fits entries nodes i n at in
      let prefix = all_at (λ n. IsNeat n × (0 < size n)) nodes i n neat at in
      let enough = many n prefix.0 in
      omega arith

  -- a part of it is full, so far down as there are any; or all its places are taken, and no larger list is there
  pub full_below : (Reserve : Type 0) (long : N → ℕ) (k : ℕ) → ((n : N) → 64 * long n ≤ length (entries n)) → k ≤ sum_by long nodes
      → (size n ≡ 0) ⊎ ((128 ≤ length (entries n)) ⊎ ((¬ Reserve) × (64 * (long n + 1) ≤ length (entries n))))
      → (128 ≤ length (all entries nodes)) ⊎ ((¬ Reserve) × (64 * (k + 1) ≤ length (all entries nodes)))
  full_below Reserve long k halves few (inl none) = let prefix = all_at (λ n. IsNeat n × (0 < size n)) nodes i n neat at in absurd (omega (arith, none, prefix.1))
  full_below Reserve long k halves few (inr (inl many)) = let fits = count_fits entries nodes i n at in inl (omega arith)
  full_below Reserve long k halves few (inr (inr taken)) =
      let more = one_more entries long halves nodes i n at taken.1 in
      inr (taken.0, omega (arith, few, more))

-- it is full also when its list has grown in memory alone
pub full_there : {N : Type 0} (size : N → ℕ) (nodes new : List N) (i : ℕ) (n : N) → slice_get nodes i ≡ Some n → new ≡ nodes → size n ≡ 128 → IfSome (slice_get new i) (λ n. size n ≡ 128)
full_there {N} size nodes new i n at same full = subst (λ (o : Option N). IfSome o (λ n. size n ≡ 128)) (sym (ap (λ ns. slice_get ns i) same ∙ at)) full
