use Rattle.session_steps.proofs.PageRows.{page-answered, page-refused}
use Rattle.session_steps.proofs.engine.SessionEngine.read_page.Goals as goal

pub returns-in-Ok : goal.returns-in-Ok
returns-in-Ok c = page-answered c.args.self.now c.args.s c.args.number c.in-Ok.rows c.in-Ok.ensures

pub returns-in-Err : goal.returns-in-Err
returns-in-Err c = page-refused c.args.self.now c.args.s c.args.number c.in-Err.refusal c.in-Err.ensures
