use Rattle.std.proofs.Common.{refl, inl}
use Rattle.view_text.specs.declared.look.Look.TheVariants as look
use Rattle.viewing.proofs.LookLemmas.{on_told}
use Rattle.viewing.proofs.looks.plan.Goals as goal

pub returns-in-None : goal.returns-in-None
returns-in-None c = on_told _ c.args.engine.now (look.Plan c.args.page) _ _ _ (inl (c.in-None.ensures, refl)) c.tell_reply.ensures
