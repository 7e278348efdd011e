use Rattle.std.proofs.Common.{◌∙◌, ap, arith}
use Rattle.tuple_header.specs.Layout.{with_bytes}
use Rattle.page_sheet.proofs.PackLemmas.{version-moved, part-size}
use Rattle.page_sheet.proofs.packing.move_version.Goals as goal

pub returns : goal.returns
returns c =
    let low = c.requires.low in
    version-moved c.args.old.now c.args.bytes.now c.put_bytes.new.out c.put_pointer.new.bytes c.args.index c.args.top c.args.extent
    c.requires.whole (part-size c.args.old.now c.args.extent c.requires.from) (omega arith) c.requires.high
    (c.put_bytes.ensures ∙ ap (λ ys. with_bytes c.args.top ys c.args.bytes.now) c.part.ensures) c.put_pointer.ensures
