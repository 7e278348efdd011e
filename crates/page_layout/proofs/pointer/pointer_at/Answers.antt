use Rattle.std.proofs.Common.{◌≡◌, ◌+◌, ◌*◌, ◌-◌, ◌∙◌, ap, length, take, drop}
use Rattle.std.proofs.lemmas.List.{take_rest}
use Rattle.byteorder.specs.Endian.{little_number}
use Rattle.tuple_header.specs.Layout.{number_at}
use Rattle.page_layout.specs.Layout.{pointer_of, pointer_in}
use Rattle.page_layout.proofs.pointer.pointer_at.Goals as goal

pub returns : goal.returns
unfolding number_at pointer_in
returns c =
    let bytes = c.args.bytes.now in
    let at = 24 + 4 * c.args.index in
    let read : c.read_u32.result ≡ little_number 4 (take (length bytes - at) (drop at bytes)) = c.read_u32.ensures in
    c.of.ensures ∙ ap pointer_of (read ∙ ap (little_number 4) (take_rest bytes at))
