use Rattle.std.proofs.Common.{ℤ, subst}
use Rattle.std.specs.Int.{w128}
use Rattle.std.proofs.lemmas.Int.{to_z-of_z}
use Rattle.index_lookup.proofs.Turns.{IsOnly, entry_of, only-entry, after-only}
use Rattle.index_lookup.proofs.search.next_of.Goals as goal

pub returns : goal.returns
returns c =
    let same = to_z-of_z w128 c.args.value c.ranges.value in
    let found = entry_of c.next_near.result in
    let answer = entry_of c.only_of.result in
    let only = subst (λ (v : ℤ). IsOnly v c.args.key found answer) same (only-entry _ c.args.key c.next_near.result c.only_of.result c.only_of.ensures) in
    after-only c.args.index.now.entries c.args.value c.args.key c.args.from found answer c.requires c.next_near.ensures only
