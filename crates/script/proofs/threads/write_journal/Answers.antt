use Rattle.script.proofs.PiecesLemmas.{Gives-Gives}
use Rattle.script.proofs.ThreadsLemmas.{beginning_is, beginning_then, told}
use Rattle.script.proofs.threads.write_journal.Goals as goal

pub returns-in-Err-clause-prefix : goal.returns-in-Err-clause-prefix
returns-in-Err-clause-prefix g c = beginning_is _ _ _ _ _ c.loop-entry.invariant

pub returns-in-Err-write_if_full-clause-prefix : goal.returns-in-Err-write_if_full-clause-prefix
returns-in-Err-write_if_full-clause-prefix g c =
    beginning_then _ _ _ _ _ _ (told _ _ _ _ _ _ _ c.loop-entry-test.true c.entry-item.is c.loop-entry.invariant c.in_default.ensures) c.in-Err-write_if_full.ensures.prefix

pub loop-entry-preserved : goal.loop-entry-preserved
loop-entry-preserved g c =
    Gives-Gives _ _ _ _ _ _ (told _ _ _ _ _ _ _ c.loop-entry-test.true c.entry-item.is c.loop-entry.invariant c.in_default.ensures) c.in_default-write_if_full.ensures.ok

pub returns-clause-prefix : goal.returns-clause-prefix
returns-clause-prefix g c = beginning_then _ _ _ _ _ _ c.loop-entry.invariant c.write_out.ensures.prefix
