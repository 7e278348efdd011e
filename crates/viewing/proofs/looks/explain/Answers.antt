use Rattle.std.proofs.Common.{refl, inl, inr}
use Rattle.view_text.specs.declared.look.Look.TheVariants as look
use Rattle.viewing.proofs.LookLemmas.{on_told}
use Rattle.viewing.proofs.looks.explain.Goals as goal

pub returns-in_ok-entries-in-Ok : goal.returns-in_ok-entries-in-Ok
returns-in_ok-entries-in-Ok c =
    let here = c.in-Ok.ensures.1 in
    on_told _ c.args.engine.now (look.Explain c.args.s c.args.key) _ _ _ (inr (_, _, here, c.in_ok-entries-in-Ok.ensures _ here, refl)) (rw c.as_slice.ensures.value at c.tell_explanation.ensures)

pub returns-in-Err : goal.returns-in-Err
returns-in-Err c = on_told _ c.args.engine.now (look.Explain c.args.s c.args.key) _ _ _ (inl (_, c.in-Err.ensures, refl)) c.tell_reply.ensures
