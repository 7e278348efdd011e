use Rattle.std.proofs.Common.{◌+◌, ◌-◌, arith}
use Rattle.page_sheet.proofs.HeaderSet.{header-put}
use Rattle.page_sheet.proofs.sheet.write_header.Goals as goal

pub returns : goal.returns
returns c = let least = c.requires.least in record {
  bytes = header-put c.from-from.result (c.from-from.result + c.from.result - c.from-from.result) c.args.extent c.args.header c.args.bytes.now c.put_header.new.out
      c.from-from.ensures (omega arith) c.put_header.ensures.fits (omega arith) c.requires.within c.put_header.ensures.bytes;
  fits = c.put_header.ensures.fits;
}
