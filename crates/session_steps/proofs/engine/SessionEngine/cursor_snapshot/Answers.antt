use Rattle.std.proofs.Common.{sym, ap, ◌∙◌}
use Rattle.std.specs.Prelude.{option_copied}
use Rattle.session_steps.proofs.Statements.{kept-cursor, bare-cursor}
use Rattle.session_steps.proofs.engine.SessionEngine.cursor_snapshot.Goals as goal

pub returns-in-Some : goal.returns-in-Some
returns-in-Some c =
    sym (kept-cursor c.args.self.now.heap.statuses c.args.session.now.isolation c.in-Some.snapshot.now (sym c.lasting_snapshot.ensures ∙ ap option_copied c.in-Some.is))

pub returns-in-None : goal.returns-in-None
returns-in-None c =
    c.put_snapshot.ensures ∙ sym (bare-cursor c.args.self.now.heap.statuses c.args.session.now.isolation (sym c.lasting_snapshot.ensures ∙ ap option_copied c.in-None.is))
