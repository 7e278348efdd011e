use Rattle.std.proofs.Common.{arith, inr, rules}
use Rattle.page_sheet.proofs.Sounds.{change-noted, fields-apart, field-written}
use Rattle.page_sheet.proofs.PlacingLemmas.{places-kept}
use Rattle.page_sheet.proofs.LyingLemmas.{alike-same, lying-kept}
use Rattle.page_sheet.proofs.sheet.Sheet.set_change.Goals as goal

pub invariant_of-self : goal.invariant_of-self
invariant_of-self c =
    let a = c.self.inside.bytes in
    let b = c.put_u64.new.bytes in
    let noted = change-noted a b c.self.inside.count c.args.change c.self.invariant.0 c.put_u64.ensures in (
      noted.sound,
      lying-kept a b c.self.inside.count c.self.inside.lying c.self.invariant.0 noted.sound noted.upper
          (alike-same a b c.self.inside.count (λ j h. noted.pointers j)) c.self.invariant.1,
    )

pub returns-clause-slots : goal.returns-clause-slots
returns-clause-slots c =
    rw (← c.self.view_is) (change-noted c.self.inside.bytes c.put_u64.new.bytes c.self.inside.count c.args.change c.self.invariant.0 c.put_u64.ensures).slots

pub returns-clause-change : goal.returns-clause-change
returns-clause-change c =
    let long = c.self.invariant.0.long in
    field-written 0 8 c.args.change c.self.inside.bytes c.put_u64.new.bytes c.put_u64.ensures (omega arith) (search rules)

pub returns-clause-flags : goal.returns-clause-flags
returns-clause-flags c =
    let long = c.self.invariant.0.long in
    rw (← c.self.view_is) (fields-apart 0 8 10 2 c.args.change 8 c.self.inside.bytes c.put_u64.new.bytes c.put_u64.ensures (omega arith) (omega arith) (inr (omega arith)))

pub returns-clause-places : goal.returns-clause-places
returns-clause-places c =
    let a = c.self.inside.bytes in
    let b = c.put_u64.new.bytes in
    let noted = change-noted a b c.self.inside.count c.args.change c.self.invariant.0 c.put_u64.ensures in
    rw (← c.self.view_is) (places-kept c.self.inside.count a b noted.upper (λ i h. noted.pointers i))
