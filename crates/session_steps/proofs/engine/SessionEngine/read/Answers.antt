use Rattle.std.proofs.Common.{sym, subst}
use Rattle.session_steps.proofs.Reading.{reads-view}
use Rattle.session_steps.proofs.Searches.{RowOf}
use Rattle.session_steps.proofs.SessionReader.{row-read}
use Rattle.session_steps.proofs.engine.SessionEngine.read.Goals as goal

pub returns : goal.returns
returns c w agrees =
    let e = c.in_ok-session.session.now in
    reads-view c.args.self.now w c.args.s e c.args.key c.copy_of.result agrees c.in_ok-session.ensures.1
    (subst (RowOf c.args.self.now e c.args.key) (sym c.copy_of.ensures)
    (row-read _ c.args.self.now e c.reader.result c.self.view_is c.reader.ensures c.args.key c.find_row.result c.find_row.ensures))
