use Rattle.std.specs.Prelude.{Ok, Err}
use Rattle.transcript.specs.Transcripts.{TranscriptOutcome}
use Rattle.transcript.proofs.TextLemmas.{known_text}
use Rattle.transcript.proofs.FailureLemmas.{unwritten}
use Rattle.transcript.proofs.transcripts.judge_logged.Goals as goal

pub returns-in-Ok-write_all-clause-outcome : goal.returns-in-Ok-write_all-clause-outcome
returns-in-Ok-write_all-clause-outcome g c =
    let judged = rw c.as_slice.ensures.value at c.in-Ok.ensures in
    let written = rw c.as_slice-2.ensures.value at c.in-Ok-write_all.ensures.all in
    known_text
    (λ input. TranscriptOutcome c.args.begins c.args.until (Ok c.in-Ok.allowed) input (g.W.Write.contents c.args.writer.now) (g.W.Write.contents c.write_all.new.writer))
    (g.R.Read.remaining c.args.reader.now) c.new-text.result.items c.read_all.new.text.items c.new-text.ensures.items c.in_default.ensures.text (_, judged, written)

pub returns-clause-outcome : goal.returns-clause-outcome
returns-clause-outcome g c =
    let judged = rw c.as_slice.ensures.value at c.in-Ok.ensures in
    let front = rw c.as_slice-2.ensures.value at c.in-Err-write_all.ensures.front in
    known_text
    (λ input. TranscriptOutcome c.args.begins c.args.until (Err c.in-Err-write_all.fault) input (g.W.Write.contents c.args.writer.now) (g.W.Write.contents c.write_all.new.writer))
    (g.R.Read.remaining c.args.reader.now) c.new-text.result.items c.read_all.new.text.items c.new-text.ensures.items c.in_default.ensures.text
    (unwritten c.args.begins c.args.until c.in-Ok.allowed _ c.write_all.new.self _ _ _ _ c.in-Err-write_all.ensures.fault judged front)
