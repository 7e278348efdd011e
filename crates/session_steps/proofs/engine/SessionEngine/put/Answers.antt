use Rattle.table_scans.specs.Puts.{PutsOfCursor}
use Rattle.session_steps.proofs.SessionReader.{sight-read}
use Rattle.session_steps.proofs.engine.SessionEngine.put.Goals as goal

pub returns : goal.returns
returns c =
    sight-read _ c.args.self.now c.args.session.now c.cursor_reader-reader.result c.self.view_is c.cursor_reader-reader.ensures
    (λ t. PutsOfCursor t c.args.cursor c.args.places.now c.put_next.result.0 c.put_next.result.1 c.put_next.new.places) c.put_next.ensures
