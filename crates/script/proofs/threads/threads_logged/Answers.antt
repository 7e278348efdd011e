use Rattle.std.proofs.Common.{[]}
use Rattle.script.proofs.PiecesLemmas.{Appends-Appends}
use Rattle.script.proofs.RunLemmas.{caused_by}
use Rattle.script.proofs.ThreadsLemmas.{outcome_of_none, outcome_of_refusal, outcome_of_stop, outcome_of_run, if_caused}
use Rattle.script.proofs.threads.threads_logged.Goals as goal

pub returns-in-Err-first_settings-clause-outcome : goal.returns-in-Err-first_settings-clause-outcome
returns-in-Err-first_settings-clause-outcome g c = outcome_of_none _ _ _ _ c.in-Err-first_settings.ensures.fails c.in-Err-first_settings.ensures.quiet

pub returns-in-Err-new_lists-clause-outcome : goal.returns-in-Err-new_lists-clause-outcome
returns-in-Err-new_lists-clause-outcome g c = outcome_of_refusal _ _ _ _ _ c.in-Err-new_lists.ensures.fault c.in-Ok-first_settings.ensures.quiet

pub returns-in-Err-new_lists-clause-caused : goal.returns-in-Err-new_lists-clause-caused
returns-in-Err-new_lists-clause-caused g c = caused_by _ _ c.in-Err-new_lists.ensures.fault

pub returns-in-Err-read_lines-clause-outcome : goal.returns-in-Err-read_lines-clause-outcome
returns-in-Err-read_lines-clause-outcome g c =
    let b = c.in-Ok-first_settings.ensures.begins in
    outcome_of_stop _ _ _ _ _ _ _ _ _ b.2 b.0 b.1 c.in-Ok-first_settings.ensures.quiet c.in-Err-read_lines.ensures.quiet c.in-Err-read_lines.ensures.reads

pub returns-in-Err-run_threads-clause-outcome : goal.returns-in-Err-run_threads-clause-outcome
returns-in-Err-run_threads-clause-outcome g c =
    outcome_of_refusal _ _ _ _ _ c.in-Err-run_threads.ensures.fault (Appends-Appends _ _ _ [] [] c.in-Ok-first_settings.ensures.quiet c.in_default.ensures.quiet)

pub returns-in-Err-run_threads-clause-caused : goal.returns-in-Err-run_threads-clause-caused
returns-in-Err-run_threads-clause-caused g c = caused_by _ _ c.in-Err-run_threads.ensures.fault

pub returns-clause-outcome : goal.returns-clause-outcome
returns-clause-outcome g c =
    let b = c.in-Ok-first_settings.ensures.begins in
    outcome_of_run _ _ _ _ _ _ _ _ _ _ _ _ b.2 b.0 b.1 c.in-Ok-first_settings.ensures.quiet c.in_default.ensures.quiet c.in_default.ensures.reads
    c.in-Ok-run_threads.ensures.made c.in-Ok-run_threads.ensures.merge c.journal.result.now c.journal.ensures.value
    c.write_journal.ensures.all c.write_journal.ensures.prefix c.write_journal.ensures.fault

pub returns-clause-caused : goal.returns-clause-caused
returns-clause-caused g c = if_caused _ _ c.write_journal.ensures.fault
