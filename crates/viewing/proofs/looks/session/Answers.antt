use Rattle.std.proofs.Common.{refl, inl}
use Rattle.view_text.specs.declared.look.Look.TheVariants as look
use Rattle.viewing.proofs.LookLemmas.{on_told, session_told}
use Rattle.viewing.proofs.looks.session.Goals as goal

pub returns-in_ok-listed-in-Ok : goal.returns-in_ok-listed-in-Ok
returns-in_ok-listed-in-Ok c =
    let order = rw c.lasting_snapshot.ensures at c.in_ok-listed-in-Ok.ensures in
    on_told _ c.args.engine.now (look.Session c.args.s) _ _ _ (session_told c.args.engine.now c.args.s _ _ _ c.in-Ok.ensures.1 order c.wait_of.ensures) (rw c.as_slice.ensures.value at c.tell_session.ensures)

pub returns-in-Err : goal.returns-in-Err
returns-in-Err c = on_told _ c.args.engine.now (look.Session c.args.s) _ _ _ (inl (_, c.in-Err.ensures, refl)) c.tell_reply.ensures
