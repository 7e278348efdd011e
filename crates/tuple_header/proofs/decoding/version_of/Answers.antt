use Rattle.std.proofs.Common.{◌≡◌, ◌≤◌, length, None, arith}
use Rattle.tuple_header.proofs.Faults.{first_fault-none, laid_out-from_none}
use Rattle.tuple_header.proofs.decoding.version_of.Goals as goal

pub header_of-requires : goal.header_of-requires
header_of-requires c =
    let laid = laid_out-from_none c.args.bytes.now (first_fault-none c.args.bytes.now c.requires).0 in omega (arith, laid.length)

pub row_of-requires-clause-from : goal.row_of-requires-clause-from
row_of-requires-clause-from c =
    let laid = laid_out-from_none c.args.bytes.now (first_fault-none c.args.bytes.now c.requires).0 in omega (arith, laid.length)

pub row_of-requires-clause-to : goal.row_of-requires-clause-to
row_of-requires-clause-to c =
    let laid = laid_out-from_none c.args.bytes.now (first_fault-none c.args.bytes.now c.requires).0 in omega (arith, laid.length, laid.small)

pub invariant_of-result : goal.invariant_of-result
invariant_of-result c = rw c.header_of.ensures (first_fault-none c.args.bytes.now c.requires).1
