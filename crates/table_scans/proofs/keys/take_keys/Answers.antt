use Rattle.std.proofs.Common.{◌≡◌, ◌<◌, length, arith}
use Rattle.std.proofs.lemmas.Bool.Decides.{nat_tests}
use Rattle.table_scans.specs.Scans.{sight_of}
use Rattle.table_scans.proofs.KeyLemmas.{no-key_taken}
use Rattle.table_scans.proofs.keys.take_keys.Goals as goal

pub returns-then-is_empty-clause-taken : goal.returns-then-is_empty-clause-taken
returns-then-is_empty-clause-taken c =
    let none : length c.in_ok-keys.keys.items ≡ 0 = grind (arith, nat_tests, c.is_empty.ensures, c.if-is_empty.true) in
    let some : 0 < c.max.result = grind (arith, nat_tests, c.max.ensures) in
    no-key_taken (sight_of c.args.heap.now c.args.reader.now) c.args.range c.in_ok-keys.left c.max.result c.in_ok-keys.keys.items c.in_ok-keys.ensures.taken none some
