use Rattle.std.proofs.Common.{◌+◌, ◌*◌, arith}
use Rattle.byteorder.specs.Endian.{little_bytes}
use Rattle.byteorder.specs.Numbers.{length-bytes_low_first}
use Rattle.tuple_header.proofs.Writes.{with_bytes-put}
use Rattle.page_layout.proofs.pointer.put_pointer.Goals as goal

pub returns : goal.returns
returns c =
    rw (← c.word.ensures) (with_bytes-put (24 + 4 * c.args.index) 4 (little_bytes 4 c.word.result) c.args.bytes.now c.write_u32.new.buf
    (length-bytes_low_first 0 4 c.word.result) (omega arith) c.write_u32.ensures)
