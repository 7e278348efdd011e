use Rattle.std.proofs.Common.{◌≡◌, ◌-◌, ◌∙◌, ap, length, take, drop}
use Rattle.std.proofs.lemmas.List.{take_rest}
use Rattle.byteorder.specs.Endian.{little_number}
use Rattle.tuple_header.specs.Layout.{number_at}
use Rattle.page_layout.proofs.numbers.u64_at.Goals as goal

pub returns : goal.returns
unfolding number_at
returns c =
    let bytes = c.args.bytes.now in
    let read : c.read_u64.result ≡ little_number 8 (take (length bytes - c.args.at) (drop c.args.at bytes)) = c.read_u64.ensures in
    read ∙ ap (little_number 8) (take_rest bytes c.args.at)
