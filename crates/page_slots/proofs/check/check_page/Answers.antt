use Rattle.std.proofs.Common.{◌∙◌, Ok, sym, ap, arith}
use Rattle.page_layout.proofs.FaultLemmas.{framed-from_none}
use Rattle.page_slots.proofs.CheckLemmas.{behind_redirects, checked-frame, checked-slot, checked-redirect, checked-overlap, checked-page, good-pointers, plain-words, few-slots, sound-clear, fits-clear}
use Rattle.page_slots.proofs.check.check_page.Goals as goal

pub returns-in-Some : goal.returns-in-Some
returns-in-Some c = checked-frame c.args.bytes.now c.in-Some.fault (sym c.in-Some.ensures)

pub count_of-count-requires : goal.count_of-count-requires
count_of-count-requires c = let framed = framed-from_none c.args.bytes.now (sym c.in_default.ensures) in omega (arith, framed.long)

pub first_slot_fault_of-requires-clause-long : goal.first_slot_fault_of-requires-clause-long
first_slot_fault_of-requires-clause-long c = (framed-from_none c.args.bytes.now (sym c.in_default.ensures)).long

pub first_slot_fault_of-requires-clause-few : goal.first_slot_fault_of-requires-clause-few
first_slot_fault_of-requires-clause-few c = (few-slots c.args.bytes.now c.count_of-count.result c.count_of-count.ensures (framed-from_none c.args.bytes.now (sym c.in_default.ensures))).1

pub returns-in-Some-first_slot_fault_of : goal.returns-in-Some-first_slot_fault_of
returns-in-Some-first_slot_fault_of c =
    checked-slot c.args.bytes.now c.count_of-count.result c.in-Some-first_slot_fault_of.fault c.count_of-count.ensures (sym c.in_default.ensures) (sym c.in-Some-first_slot_fault_of.ensures)

pub first_redirect_fault_of-requires-clause-long : goal.first_redirect_fault_of-requires-clause-long
first_redirect_fault_of-requires-clause-long c = (framed-from_none c.args.bytes.now (sym c.in_default.ensures)).long

pub first_redirect_fault_of-requires-clause-few : goal.first_redirect_fault_of-requires-clause-few
first_redirect_fault_of-requires-clause-few c = (few-slots c.args.bytes.now c.count_of-count.result c.count_of-count.ensures (framed-from_none c.args.bytes.now (sym c.in_default.ensures))).1

pub first_redirect_fault_of-requires-clause-good : goal.first_redirect_fault_of-requires-clause-good
first_redirect_fault_of-requires-clause-good c =
    good-pointers c.args.bytes.now c.count_of-count.result c.count_of-count.ensures (sym c.in_default-first_slot_fault_of.ensures)

pub returns-in-Some-first_redirect_fault_of : goal.returns-in-Some-first_redirect_fault_of
returns-in-Some-first_redirect_fault_of c =
    checked-redirect c.args.bytes.now c.count_of-count.result c.in-Some-first_redirect_fault_of.fault c.count_of-count.ensures (sym c.in_default.ensures)
    (sym c.in_default-first_slot_fault_of.ensures) (sym c.in-Some-first_redirect_fault_of.ensures)

pub units_of-requires-clause-long : goal.units_of-requires-clause-long
units_of-requires-clause-long c = (framed-from_none c.args.bytes.now (sym c.in_default.ensures)).long

pub units_of-requires-clause-few : goal.units_of-requires-clause-few
units_of-requires-clause-few c = (few-slots c.args.bytes.now c.count_of-count.result c.count_of-count.ensures (framed-from_none c.args.bytes.now (sym c.in_default.ensures))).1

pub units_of-requires-clause-upper : goal.units_of-requires-clause-upper
units_of-requires-clause-upper c = (framed-from_none c.args.bytes.now (sym c.in_default.ensures)).upper

pub units_of-requires-clause-aligned : goal.units_of-requires-clause-aligned
units_of-requires-clause-aligned c = (framed-from_none c.args.bytes.now (sym c.in_default.ensures)).aligned

pub units_of-requires-clause-good : goal.units_of-requires-clause-good
units_of-requires-clause-good c = good-pointers c.args.bytes.now c.count_of-count.result c.count_of-count.ensures (sym c.in_default-first_slot_fault_of.ensures)

pub page_from-requires-clause-sound : goal.page_from-requires-clause-sound
page_from-requires-clause-sound c =
    sound-clear c.args.bytes.now c.count_of-count.result c.in-Ok.units c.count_of-count.ensures (framed-from_none c.args.bytes.now (sym c.in_default.ensures))
    (good-pointers c.args.bytes.now c.count_of-count.result c.count_of-count.ensures (sym c.in_default-first_slot_fault_of.ensures))
    (plain-words c.args.bytes.now c.count_of-count.result (sym c.in_default-first_slot_fault_of.ensures)) c.in-Ok.ensures

pub page_from-requires-clause-fits : goal.page_from-requires-clause-fits
page_from-requires-clause-fits c =
    fits-clear c.args.bytes.now c.count_of-count.result c.in-Ok.units c.count_of-count.ensures (framed-from_none c.args.bytes.now (sym c.in_default.ensures)) c.in-Ok.ensures

pub returns-in-Ok : goal.returns-in-Ok
returns-in-Ok c =
    ap Ok c.page_from.ensures ∙ checked-page c.args.bytes.now
    (behind_redirects c.args.bytes.now c.count_of-count.result c.count_of-count.ensures (sym c.in_default.ensures) (sym c.in_default-first_slot_fault_of.ensures)
    (sym c.in_default-first_redirect_fault_of.ensures) ∙ c.in-Ok.ensures.none)

pub returns-in-Err : goal.returns-in-Err
returns-in-Err c =
    checked-overlap c.args.bytes.now c.count_of-count.result c.in-Err.fault c.count_of-count.ensures (sym c.in_default.ensures) (sym c.in_default-first_slot_fault_of.ensures)
    (sym c.in_default-first_redirect_fault_of.ensures) c.in-Err.ensures
