use Rattle.std.proofs.Common.{◌∙◌, sym, ap, arith}
use Rattle.page_layout.specs.Layout.{pointer_in, slot_count_in, upper_in}
use Rattle.page_layout.specs.Faults.{has_bad_tuple, word_in}
use Rattle.page_layout.proofs.PointerLemmas.{rounded-up}
use Rattle.page_layout.proofs.FaultLemmas.{bad-read, slot_fault-pointer, slot_fault-tuple, slot_fault-none, place-in}
use Rattle.page_layout.proofs.check.slot_fault_of.Goals as goal

pub returns-then-is_bad_word : goal.returns-then-is_bad_word
returns-then-is_bad_word c =
    let read = bad-read c.args.bytes.now c.args.index c.args.count c.from-upper.result c.u32_at.result c.requires.all (c.from-upper.ensures ∙ c.u16_at.ensures) c.u32_at.ensures in
    slot_fault-pointer c.args.bytes.now c.args.index (sym read ∙ sym c.is_bad_word.ensures ∙ c.if-is_bad_word.true)

pub has_bad_tuple-requires-clause-whole : goal.has_bad_tuple-requires-clause-whole
has_bad_tuple-requires-clause-whole c = λ e is.
    let read = bad-read c.args.bytes.now c.args.index c.args.count c.from-upper.result c.u32_at.result c.requires.all (c.from-upper.ensures ∙ c.u16_at.ensures) c.u32_at.ensures in
    let place = place-in (slot_count_in c.args.bytes.now) (upper_in c.args.bytes.now) (word_in c.args.bytes.now c.args.index) (pointer_in c.args.bytes.now c.args.index) e (sym read ∙ sym c.is_bad_word.ensures ∙ c.if-is_bad_word.false) (sym c.pointer_at.ensures ∙ is) in
    let within = place.within in
    let up = rounded-up e.len in
    omega arith

pub returns-then-has_bad_tuple : goal.returns-then-has_bad_tuple
returns-then-has_bad_tuple c =
    let read = bad-read c.args.bytes.now c.args.index c.args.count c.from-upper.result c.u32_at.result c.requires.all (c.from-upper.ensures ∙ c.u16_at.ensures) c.u32_at.ensures in
    slot_fault-tuple c.args.bytes.now c.args.index (sym read ∙ sym c.is_bad_word.ensures ∙ c.if-is_bad_word.false)
    (ap (has_bad_tuple c.args.bytes.now) (sym c.pointer_at.ensures) ∙ sym c.has_bad_tuple.ensures ∙ c.if-has_bad_tuple.true)

pub returns : goal.returns
returns c =
    let read = bad-read c.args.bytes.now c.args.index c.args.count c.from-upper.result c.u32_at.result c.requires.all (c.from-upper.ensures ∙ c.u16_at.ensures) c.u32_at.ensures in
    slot_fault-none c.args.bytes.now c.args.index (sym read ∙ sym c.is_bad_word.ensures ∙ c.if-is_bad_word.false)
    (ap (has_bad_tuple c.args.bytes.now) (sym c.pointer_at.ensures) ∙ sym c.has_bad_tuple.ensures ∙ c.if-has_bad_tuple.false)
