use Rattle.std.proofs.Common.{◌≡◌, ◌⊎◌, ◌<◌, ◌^◌, ⊎_elim, if◌then◌else◌, ◌∙◌, arith, inl, inr}
use Rattle.page_sheet.proofs.Sounds.{flags-noted, fields-apart, field-written}
use Rattle.page_sheet.proofs.PlacingLemmas.{places-kept}
use Rattle.page_sheet.proofs.LyingLemmas.{alike-same, lying-kept}
use Rattle.page_sheet.proofs.sheet.Sheet.set_flag.Goals as goal
use Rattle.page_sheet.proofs.sheet.Sheet.set_flag.Goals.{then-flag, else-flag}

pub invariant_of-self : goal.invariant_of-self
invariant_of-self c =
    let one : (c.if-flag.put_u16 ≡ 0) ⊎ (c.if-flag.put_u16 ≡ 4) = elim c.if-flag.branch [ then-flag w ↦ inr w.put_u16-is | else-flag w ↦ inl w.put_u16-is ] in
    let a = c.self.inside.bytes in
    let b = c.put_u16.new.bytes in
    let noted = flags-noted a b c.self.inside.count c.if-flag.put_u16 c.self.invariant.0 c.put_u16.ensures one in (
      noted.sound,
      lying-kept a b c.self.inside.count c.self.inside.lying c.self.invariant.0 noted.sound noted.upper
          (alike-same a b c.self.inside.count (λ j h. noted.pointers j)) c.self.invariant.1,
    )

pub returns-clause-slots : goal.returns-clause-slots
returns-clause-slots c =
    let one : (c.if-flag.put_u16 ≡ 0) ⊎ (c.if-flag.put_u16 ≡ 4) = elim c.if-flag.branch [ then-flag w ↦ inr w.put_u16-is | else-flag w ↦ inl w.put_u16-is ] in
    rw (← c.self.view_is) (flags-noted c.self.inside.bytes c.put_u16.new.bytes c.self.inside.count c.if-flag.put_u16 c.self.invariant.0 c.put_u16.ensures one).slots

pub returns-clause-change : goal.returns-clause-change
returns-clause-change c =
    let long = c.self.invariant.0.long in
    rw (← c.self.view_is) (fields-apart 10 12 0 8 c.if-flag.put_u16 2 c.self.inside.bytes c.put_u16.new.bytes c.put_u16.ensures (omega arith) (omega arith) (inl (omega arith)))

pub returns-clause-flags : goal.returns-clause-flags
returns-clause-flags c =
    let long = c.self.invariant.0.long in
    let one : (c.if-flag.put_u16 ≡ 0) ⊎ (c.if-flag.put_u16 ≡ 4) = elim c.if-flag.branch [ then-flag w ↦ inr w.put_u16-is | else-flag w ↦ inl w.put_u16-is ] in
    let small : c.if-flag.put_u16 < 256 ^ 2 = ⊎_elim (λ zero_. omega arith) (λ four. omega arith) one in
    let value : c.if-flag.put_u16 ≡ (if c.args.flag then 4 else 0) = elim c.if-flag.branch [
      | then-flag w ↦ rw w.if-flag.true w.put_u16-is
      | else-flag w ↦ rw w.if-flag.false w.put_u16-is
    ] in
    field-written 10 2 c.if-flag.put_u16 c.self.inside.bytes c.put_u16.new.bytes c.put_u16.ensures (omega arith) small ∙ value

pub returns-clause-places : goal.returns-clause-places
returns-clause-places c =
    let one : (c.if-flag.put_u16 ≡ 0) ⊎ (c.if-flag.put_u16 ≡ 4) = elim c.if-flag.branch [ then-flag w ↦ inr w.put_u16-is | else-flag w ↦ inl w.put_u16-is ] in
    let a = c.self.inside.bytes in
    let b = c.put_u16.new.bytes in
    let noted = flags-noted a b c.self.inside.count c.if-flag.put_u16 c.self.invariant.0 c.put_u16.ensures one in
    rw (← c.self.view_is) (places-kept c.self.inside.count a b noted.upper (λ i h. noted.pointers i))
