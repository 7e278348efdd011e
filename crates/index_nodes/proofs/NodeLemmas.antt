-- How many nodes there are when one is split, and when an entry is put into one.
use Rattle.std.proofs.Common.{◌≡◌, ℕ, ◌+◌, ◌<◌, ◌≤◌, List, length, sum_by, slice_set, slice_index_or, ap, arith}
use Rattle.std.specs.List.{insert, remove}
use Rattle.std.proofs.lemmas.List.Sums.{sum_by-set, sum_by-insert, sum_by-remove}

module _ {X : Type 0} (f : X → ℕ) (xs : List X) (i : ℕ) (n : X) (within : i < length xs) (at : n ≡ slice_index_or xs i n) where
  module _ (new : List X) (l u : X) (made : new ≡ insert (slice_set xs i l) (i + 1) u) where
    count_made : sum_by f new + f n ≡ sum_by f xs + f l + f u
    count_made =
        let put = sum_by-insert f (slice_set xs i l) (i + 1) u in
        let set = sum_by-set f xs i l n within in
        let is = ap (sum_by f) made in
        let was = ap f at in
        omega (arith, put, set, is, was)

    pub count_split : f n < f l + f u → sum_by f xs < sum_by f new
    count_split halves = omega (arith, count_made, halves)

    pub count_kept : f n ≤ f l + f u → sum_by f xs ≤ sum_by f new
    count_kept halves = omega (arith, count_made, halves)

  pub count_put : (l : X) → sum_by f (slice_set xs i l) + f n ≡ sum_by f xs + f l
  count_put l =
      let set = sum_by-set f xs i l n within in
      let was = ap f at in
      omega (arith, set, was)

  -- where it counts nothing it may go
  pub count_removed : f n ≡ 0 → sum_by f (remove xs i) ≡ sum_by f xs
  count_removed none =
      let rest = sum_by-remove f xs i n within in
      let was = ap f at in
      omega (arith, rest, was, none)
