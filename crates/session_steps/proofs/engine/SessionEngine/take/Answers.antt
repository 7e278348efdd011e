use Rattle.std.proofs.Common.{IfOk, OnErr}
use Rattle.table_scans.specs.Takes.{MeetsSome, TakesNext}
use Rattle.session_steps.proofs.SessionReader.{sight-read}
use Rattle.session_steps.proofs.engine.SessionEngine.take.Goals as goal

pub returns-clause-taken : goal.returns-clause-taken
returns-clause-taken c =
    sight-read _ c.args.self.now c.args.session.now c.cursor_reader-reader.result c.self.view_is c.cursor_reader-reader.ensures (λ t. IfOk c.take_next.result (TakesNext t c.args.scan c.args.n)) c.take_next.ensures.taken

pub returns-clause-refused : goal.returns-clause-refused
returns-clause-refused c =
    sight-read _ c.args.self.now c.args.session.now c.cursor_reader-reader.result c.self.view_is c.cursor_reader-reader.ensures (λ t. OnErr c.take_next.result (MeetsSome t c.args.scan)) c.take_next.ensures.refused
