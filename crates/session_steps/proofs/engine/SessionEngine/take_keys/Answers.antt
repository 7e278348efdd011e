use Rattle.std.proofs.Common.{IfOk, OnErr}
use Rattle.table_scans.specs.Keys.{MeetsSomeKey, TakesNextKeys}
use Rattle.session_steps.proofs.SessionReader.{sight-read}
use Rattle.session_steps.proofs.engine.SessionEngine.take_keys.Goals as goal

pub returns-clause-taken : goal.returns-clause-taken
returns-clause-taken c =
    sight-read _ c.args.self.now c.args.session.now c.cursor_reader-reader.result c.self.view_is c.cursor_reader-reader.ensures (λ t. IfOk c.take_keys.result (TakesNextKeys t c.args.range c.args.n)) c.take_keys.ensures.taken

pub returns-clause-refused : goal.returns-clause-refused
returns-clause-refused c =
    sight-read _ c.args.self.now c.args.session.now c.cursor_reader-reader.result c.self.view_is c.cursor_reader-reader.ensures (λ t. OnErr c.take_keys.result (MeetsSomeKey t c.args.range)) c.take_keys.ensures.refused
