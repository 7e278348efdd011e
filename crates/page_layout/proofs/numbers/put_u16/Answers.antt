use Rattle.std.proofs.Common.{arith}
use Rattle.byteorder.specs.Endian.{little_bytes}
use Rattle.byteorder.specs.Numbers.{length-bytes_low_first}
use Rattle.tuple_header.proofs.Writes.{with_bytes-put}
use Rattle.page_layout.proofs.numbers.put_u16.Goals as goal

pub returns : goal.returns
returns c =
    with_bytes-put c.args.at 2 (little_bytes 2 c.args.n) c.args.bytes.now c.write_u16.new.buf
    (length-bytes_low_first 0 2 c.args.n) (omega arith) c.write_u16.ensures
