use Rattle.std.proofs.Common.{◌≡◌, ◌-◌, ℕ, get_or, set, sym, ap, ◌∙◌, subst, List}
use Rattle.page_slots.specs.View.{PageView, AreTallied}
use Rattle.page_sheet.specs.declared.slot.Slot.{Slot}
use Rattle.page_sheet.specs.declared.slot.Slot.TheVariants.{Unused}
use Rattle.page_sheet.specs.Layout.{slot_in, slots_in}
use Rattle.page_sheet.specs.Slots.{differs_in_hints_alone, next_change, the_slot, with_header, with_header_at}
use Rattle.page_slots.proofs.Kept.{kept_header, hints-of_some, hints-of_none}
use Rattle.page_slots.proofs.Numbered.{IsNumbered, numbered}
use Rattle.page_sheet.proofs.SlotLemmas.{there-from_normal}
use Rattle.page_slots.proofs.page.Page.set_header.Goals as goal
use Rattle.page_slots.proofs.page.Page.set_header.Goals.{After-set_header, in-Some, in-None}

at : (c : After-set_header) → IsNumbered c.self.inside.sheet.count c.self.inside.sheet.bytes c.args.number (c.from-index.result - 1)
at c =
    numbered c.args.self.now.slots c.self.inside.sheet.count c.self.inside.sheet.bytes c.args.number c.from-index.result
    (ap (λ (p : PageView). p.slots) c.self.view_is) c.from-index.ensures (there-from_normal c.args.self.now.slots c.args.number c.requires.normal)

pub header-requires : goal.header-requires
header-requires c =
    (numbered c.args.self.now.slots c.self.inside.sheet.count c.self.inside.sheet.bytes c.args.number c.from-index.result
    (ap (λ (p : PageView). p.slots) c.self.view_is) c.from-index.ensures (there-from_normal c.args.self.now.slots c.args.number c.requires.normal)).within

pub set_header-requires-clause-there : goal.set_header-requires-clause-there
set_header-requires-clause-there c =
    (numbered c.args.self.now.slots c.self.inside.sheet.count c.self.inside.sheet.bytes c.args.number c.from-index.result
    (ap (λ (p : PageView). p.slots) c.self.view_is) c.from-index.ensures (there-from_normal c.args.self.now.slots c.args.number c.requires.normal)).within

-- What the sheet shows then.

set-is : (c : After-set_header) → slots_in c.set_header.new.self.count c.set_header.new.self.bytes
    ≡ with_header_at (slots_in c.self.inside.sheet.count c.self.inside.sheet.bytes) c.args.number c.args.header
set-is c =
    let slots = slots_in c.self.inside.sheet.count c.self.inside.sheet.bytes in
    let index = c.from-index.result - 1 in
    c.set_header.ensures.slots.are ∙ ap (λ (s : Slot). set slots index (with_header s c.args.header)) (sym (at c).slot)
    ∙ ap (λ (m : ℕ). set slots (m - 1) (with_header (get_or slots (m - 1) Unused) c.args.header)) c.from-index.ensures

hints-are : (c : After-set_header) → differs_in_hints_alone (the_slot c.args.self.now.slots c.args.number) c.args.header ≡ c.match-header.hints_alone
hints-are c =
    let slot = slot_in c.self.inside.sheet.bytes (c.from-index.result - 1) in
    let seen = ap (λ (p : PageView). the_slot p.slots c.args.number) (sym c.self.view_is) ∙ (at c).named in
    ap (λ (s : Slot). differs_in_hints_alone s c.args.header) seen ∙ elim c.match-header.branch [
      | in-Some w ↦ hints-of_some slot _ c.args.header (sym w.in-Some.is ∙ c.header.ensures.value) ∙ sym w.differ_in_hints_alone-hints_alone.ensures ∙ sym w.hints_alone-is
      | in-None w ↦ hints-of_none slot c.args.header (sym w.in-None.is ∙ c.header.ensures.value) ∙ sym w.hints_alone-is
    ]

kept : (c : After-set_header) → AreTallied (slots_in c.set_header.new.self.count c.set_header.new.self.bytes) c.self.inside.free c.self.inside.taken_bytes
kept c =
    let slots = slots_in c.self.inside.sheet.count c.self.inside.sheet.bytes in
    let index = c.from-index.result - 1 in
    subst (λ (s : List Slot). AreTallied s c.self.inside.free c.self.inside.taken_bytes)
    (sym (c.set_header.ensures.slots.are ∙ ap (λ (s : Slot). set slots index (with_header s c.args.header)) (sym (at c).slot)))
    (kept_header slots c.self.inside.free c.self.inside.taken_bytes index c.args.header (at c).inside c.self.invariant)

pub invariant_of-self : goal.invariant_of-self
invariant_of-self c = kept (goal.at.invariant_of-self c).After-set_header

pub invariant_of-self-else-not-hints_alone : goal.invariant_of-self-else-not-hints_alone
invariant_of-self-else-not-hints_alone c = kept (goal.at.invariant_of-self-else-not-hints_alone c).After-set_header

pub returns-then-not-hints_alone-clause-slots : goal.returns-then-not-hints_alone-clause-slots
returns-then-not-hints_alone-clause-slots c = rw (← c.self.view_is) (ap (λ (p : PageView). p.slots) c.raise.ensures ∙ set-is (goal.at.returns-then-not-hints_alone-clause-slots c).After-set_header)

pub returns-then-not-hints_alone-clause-change : goal.returns-then-not-hints_alone-clause-change
returns-then-not-hints_alone-clause-change c =
    rw (hints-are (goal.at.returns-then-not-hints_alone-clause-change c).After-set_header, c.if-not-hints_alone.true) (rw (← c.self.view_is) (ap (λ (p : PageView). p.change) c.raise.ensures ∙ ap next_change c.set_header.ensures.slots.change))

pub returns-then-not-hints_alone-clause-places : goal.returns-then-not-hints_alone-clause-places
returns-then-not-hints_alone-clause-places c = rw (← c.self.view_is) (ap (λ (p : PageView). p.places) c.raise.ensures ∙ c.set_header.ensures.places)

pub returns-else-not-hints_alone-clause-slots : goal.returns-else-not-hints_alone-clause-slots
returns-else-not-hints_alone-clause-slots c = rw (← c.self.view_is) (set-is (goal.at.returns-else-not-hints_alone-clause-slots c).After-set_header)

pub returns-else-not-hints_alone-clause-change : goal.returns-else-not-hints_alone-clause-change
returns-else-not-hints_alone-clause-change c = rw (hints-are (goal.at.returns-else-not-hints_alone-clause-change c).After-set_header, c.if-not-hints_alone.false) (rw (← c.self.view_is) c.set_header.ensures.slots.change)
