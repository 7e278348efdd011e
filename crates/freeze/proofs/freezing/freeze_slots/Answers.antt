use Rattle.std.proofs.Common.{◌≡◌, ◌≤◌, ◌+◌, ℕ, List, length, arith, sym, subst}
use Rattle.space_maps.specs.declared.mark.Mark.TheVariants.{AllFrozen}
use Rattle.freeze.proofs.Slotted.{freezing-all}
use Rattle.freeze.proofs.Marks.{marks-all}
use Rattle.freeze.proofs.DeadLists.{lists-few, lists-frozen}
use Rattle.freeze.proofs.Passing.{FreezesBelow, passes-none, passes-more}
use Rattle.freeze.proofs.freezing.freeze_slots.Goals as goal

pub loop-slot-init : goal.loop-slot-init
loop-slot-init c =
    let w = c.args.statuses.now in
    let page = c.args.page.now in
    subst (λ (dead : List ℕ). FreezesBelow w c.args.cutoff.0 c.args.horizon.0 c.args.number page page 1 AllFrozen dead) (sym c.requires.blank)
    (passes-none w c.args.cutoff.0 c.args.horizon.0 c.args.number page)

pub pass_slot-mark-requires-clause-room : goal.pass_slot-mark-requires-clause-room
pass_slot-mark-requires-clause-room c =
    let few = lists-few c.args.page.now.slots c.loop-slot.slot c.loop-slot.dead.items c.loop-slot.invariant.lists in
    omega (arith, few, c.slots-slot-end.ensures.count, c.slots-slot-end.ensures.limit)

pub loop-slot-preserved : goal.loop-slot-preserved
loop-slot-preserved c =
    let n : ℕ = c.loop-slot.slot in
    let w = c.args.statuses.now in
    let old = c.args.page.now in
    let pass = c.pass_slot-mark in
    let to : n ≤ length old.slots = omega (arith, c.slots-slot-end.ensures.count, c.loop-slot-test.true) in
    subst (λ (dead : List ℕ). FreezesBelow w c.args.cutoff.0 c.args.horizon.0 c.args.number old pass.new.page (n + 1) pass.result dead) (sym pass.ensures.dead)
    (passes-more w c.args.cutoff.0 c.args.horizon.0 c.args.number old c.loop-slot.page pass.new.page n c.loop-slot.mark pass.result c.loop-slot.dead.items
    c.loop-slot.auto.slot to c.loop-slot.invariant pass.ensures.freezes pass.ensures.mark)

pub returns : goal.returns
returns c =
    let n : ℕ = c.loop-slot.slot in
    let w = c.args.statuses.now in
    let old = c.args.page.now in
    let end : n ≡ length old.slots + 1 = omega (arith, c.slots-slot-end.ensures.count, c.loop-slot-test.false, c.loop-slot.auto.slot-end) in
    let below = c.loop-slot.invariant in
    let count = below.freezing.count in
    let freezes = freezing-all w c.args.cutoff.0 c.args.number old c.loop-slot.page n end below.freezing in record {
      freezes = freezes;
      mark = marks-all w c.args.horizon.0 c.loop-slot.page.slots n c.loop-slot.mark (omega (arith, end, count)) below.allows;
      dead = lists-frozen w c.args.cutoff.0 c.args.number old.slots c.loop-slot.page.slots n c.loop-slot.dead.items end below.lists freezes.slots;
    }
