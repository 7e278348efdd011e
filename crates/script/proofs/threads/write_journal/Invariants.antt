use Rattle.std.proofs.Common.{take}
use Rattle.script.specs.Pieces.{GivesText}
use Rattle.script.specs.Threads.{journal_text}
use Rattle.script.proofs.threads.write_journal.Given as goal

abbrev pub invariant-loop-entry : goal.invariant-loop-entry
invariant-loop-entry g l = GivesText (g.W.Write.contents l.initial.writer) (g.W.Write.contents l.writer) (journal_text (take l.entry-index l.journal)) l.text.items
