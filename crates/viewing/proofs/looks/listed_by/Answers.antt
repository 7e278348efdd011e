use Rattle.std.proofs.Common.{ap, rules}
use Rattle.std.specs.Option.{option_copied}
use Rattle.std.proofs.lemmas.List.Sorted.{IsNonDecreasingBy-from_sort_by_key}
use Rattle.xid_circle.specs.Circle.{distance_of}
use Rattle.viewing.proofs.LookLemmas.{listed_some}
use Rattle.viewing.proofs.looks.listed_by.Goals as goal

pub returns-in_ok-listed-in-Some : goal.returns-in_ok-listed-in-Some
returns-in_ok-listed-in-Some c =
    let same = rw c.listed_ids.ensures at c.in_ok-listed-in-Some.ensures in
    let moved = rw same at c.sort_unstable_by_key.ensures.permutation in
    let order = IsNonDecreasingBy-from_sort_by_key (distance_of c.xmin-xmin.result.0) _ c.sort_unstable_by_key.ensures.sorted (λ a r q k. search rules) in
    listed_some _ _ _ _ (ap option_copied c.in-Some.is) c.xmin-xmin.ensures.value moved order
