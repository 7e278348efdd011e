use Rattle.std.proofs.Common.{ℤ, Option, sym, subst}
use Rattle.std.specs.Prelude.{IfSome}
use Rattle.std.specs.Int.{w128}
use Rattle.std.proofs.lemmas.Int.{to_z-of_z}
use Rattle.index_entries.specs.declared.entry.Entry.{Entry}
use Rattle.index_entries.specs.Sets.{IsLeast, IsBelow, IsOf}
use Rattle.index_lookup.specs.Looking.{IsNextOf}
use Rattle.index_lookup.proofs.Turns.{IsOnly, first-only, after-only}
use Rattle.explanations.proofs.entries.next_entry.Goals as goal

pub returns-in-Some : goal.returns-in-Some
returns-in-Some c =
    let same = to_z-of_z w128 c.args.value c.ranges.value in
    let entries = c.args.index.now.entries in
    let found = c.next_after.result in
    let answer = c.entry_of_key.result in
    let only = subst (λ (v : ℤ). IsOnly v c.args.key found answer) same c.entry_of_key.ensures in
    let of = subst (λ (o : Option Entry). IfSome o (IsOf c.args.value c.args.key)) c.in-Some.is c.requires in
    subst (λ (o : Option Entry). IsNextOf entries c.args.value c.args.key o answer) (sym c.in-Some.is)
    (after-only entries c.args.value c.args.key c.in-Some.from found answer of c.next_after.ensures only)

pub returns-in-None : goal.returns-in-None
returns-in-None c =
    let same = to_z-of_z w128 c.args.value c.ranges.value in
    let entries = c.args.index.now.entries in
    let found = c.first_from.result.found in
    let answer = c.entry_of_key-in-None.result in
    let least = subst (λ (v : ℤ). IsLeast entries (λ e. ¬ IsBelow v c.args.key e) found) same c.first_from.ensures.found in
    let only = subst (λ (v : ℤ). IsOnly v c.args.key found answer) same c.entry_of_key-in-None.ensures in
    subst (λ (o : Option Entry). IsNextOf entries c.args.value c.args.key o answer) (sym c.in-None.is)
    (first-only entries c.args.value c.args.key found answer least only)
