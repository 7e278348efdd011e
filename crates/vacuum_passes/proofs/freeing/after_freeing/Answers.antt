use Rattle.std.proofs.Common.{arith}
use Rattle.vacuum_passes.proofs.Stepping.{left-some}
use Rattle.vacuum_passes.proofs.freeing.after_freeing.Goals as goal

pub returns-clause-phase : goal.returns-clause-phase
returns-clause-phase c = left-some c.args.freed c.args.store.now (omega (arith, c.requires, c.len.ensures.value, c.if-freed-len.false))
