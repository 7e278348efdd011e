use Rattle.std.proofs.Common.{ℤ, subst}
use Rattle.std.specs.Int.{w128}
use Rattle.std.proofs.lemmas.Int.{to_z-of_z}
use Rattle.index_entries.specs.Sets.{IsLeast, IsBelow}
use Rattle.index_lookup.proofs.Turns.{IsOnly, first-only, last-only}
use Rattle.index_lookup.proofs.search.begin_search.Goals as goal

pub returns : goal.returns
returns c =
    let same = to_z-of_z w128 c.args.value c.ranges.value in
    let entries = c.args.index.now.entries in
    let found = c.first_from-first.result.found in
    let answer = c.entry_of_key.result in
    let least = subst (λ (v : ℤ). IsLeast entries (λ e. ¬ IsBelow v c.args.key e) found) same c.first_from-first.ensures.found in
    let only = subst (λ (v : ℤ). IsOnly v c.args.key found answer) same c.entry_of_key.ensures in
    record {
      next = first-only entries c.args.value c.args.key found answer least only;
      last = λ yes. last-only entries c.args.value c.args.key found answer only (c.first_from-first.ensures.last yes);
    }
