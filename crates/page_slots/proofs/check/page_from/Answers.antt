use Rattle.std.proofs.Common.{◌≡◌, ◌∙◌, List, ℕ, sym, ap, subst, arith}
use Rattle.std.specs.List.{position_or_len}
use Rattle.page_sheet.specs.Slots.{is_unused}
use Rattle.page_sheet.specs.Layout.{slots_in}
use Rattle.page_sheet.specs.Sheet.{SheetView}
use Rattle.page_slots.specs.View.{AreTallied}
use Rattle.page_sheet.proofs.Sounds.{length-slots_in}
use Rattle.page_slots.proofs.check.page_from.Goals as goal

pub invariant_of-result : goal.invariant_of-result
invariant_of-result c =
    let sheet : SheetView = record { bytes = c.args.bytes.now; count = c.args.count } in
    let made : c.of-sheet.result ≡ sheet = c.of-sheet.ensures ∙ ap (λ (bytes : List ℕ). let s : SheetView = record { bytes = bytes; count = c.args.count } in s) c.copy_from_slice.ensures.after in
    let long = length-slots_in c.args.count c.args.bytes.now in
    let few = c.requires.sound.few in
    let most = c.requires.fits in
    let taken = c.requires.taken in
    subst (λ (s : SheetView). AreTallied (slots_in s.count s.bytes) c.first_unused_from-free.result c.args.taken_bytes) (sym made) (record {
      few = omega arith;
      fits = omega arith;
      first = c.first_unused_from-free.ensures.index ∙ ap (λ (s : SheetView). position_or_len is_unused (slots_in s.count s.bytes)) made;
      sum = taken;
    })
