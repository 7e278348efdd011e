use Rattle.std.proofs.Common.{rules, ℤ, Option, ◌≡◌, sym, subst, to_z, of_z}
use Rattle.std.specs.Prelude.{pos}
use Rattle.std.specs.Int.{w128}
use Rattle.xid_circle.specs.declared.Tid.{Tid}
use Rattle.index_lookup.specs.Looking.{IsNextOf}
use Rattle.explanations.specs.Shown.{IsNextPlace}
use Rattle.explanations.proofs.EntryLemmas.{next-placed}
use Rattle.explanations.proofs.entries.next_place.Goals as goal

pub returns : goal.returns
returns c =
    let same : to_z w128 (of_z w128 c.from.result) ≡ pos c.args.key = search rules in
    subst (λ (answer : Option Tid). IsNextPlace c.args.index.now.entries c.args.key c.args.after answer) (sym c.place_of.ensures)
    (next-placed c.args.index.now.entries c.args.key c.args.after c.entry_to-from.result c.next_entry.result c.entry_to-from.ensures.value
    (subst (λ (value : ℤ). IsNextOf c.args.index.now.entries value c.args.key c.entry_to-from.result c.next_entry.result) same c.next_entry.ensures))
