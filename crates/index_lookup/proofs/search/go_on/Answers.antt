use Rattle.std.proofs.Common.{◌≡◌, ℤ, Bool, true, false, not, Option, Some, refl, sym, subst, ◌∙◌}
use Rattle.std.specs.Prelude.{IsTrue}
use Rattle.std.specs.Int.{w128}
use Rattle.std.proofs.lemmas.Int.{to_z-of_z}
use Rattle.index_entries.specs.declared.entry.Entry.{Entry}
use Rattle.root_index.specs.declared.index.PositionHint.{PositionHint}
use Rattle.index_lookup.specs.Looking.{IsNextOf}
use Rattle.index_lookup.proofs.Turns.{entry_of, none-after}
use Rattle.index_lookup.proofs.search.go_on.Goals as goal
use Rattle.index_lookup.proofs.search.go_on.Goals.{then-not-at+in_default, else-not-at}

pub next_of-requires : goal.next_of-requires
next_of-requires c = (c.requires.of.0 ∙ sym (to_z-of_z w128 c.args.value c.ranges.value), c.requires.of.1)

pub returns-in-Some-clause-next : goal.returns-in-Some-clause-next
returns-in-Some-clause-next c =
    let entries = c.args.index.now.entries in
    let next = subst (λ (v : ℤ). IsNextOf entries v c.args.key (Some c.args.entry) (entry_of c.next_of.result)) (to_z-of_z w128 c.args.value c.ranges.value) c.next_of.ensures in
    subst (λ (found : Option (Entry × PositionHint)). IsNextOf entries c.args.value c.args.key (Some c.args.entry) (entry_of found)) c.in-Some.is next

known-last : (b : Bool) → not b ≡ false → IsTrue b
known-last true e = refl
known-last false e = absurd (cc)

pub returns-clause-next : goal.returns-clause-next
returns-clause-next c =
    let entries = c.args.index.now.entries in
    elim c.if-not-at.branch [
      | then-not-at+in_default w ↦
          let next = subst (λ (v : ℤ). IsNextOf entries v c.args.key (Some c.args.entry) (entry_of w.next_of.result)) (to_z-of_z w128 c.args.value c.ranges.value) w.next_of.ensures in
          subst (λ (found : Option (Entry × PositionHint)). IsNextOf entries c.args.value c.args.key (Some c.args.entry) (entry_of found)) w.in_default.is next
      | else-not-at w ↦ none-after entries c.args.value c.args.key c.args.entry c.requires.of (c.requires.last (known-last c.args.at.is_last w.if-not-at.false))
    ]
