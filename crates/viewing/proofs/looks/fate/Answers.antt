use Rattle.std.proofs.Common.{refl, inl, inr}
use Rattle.view_text.specs.declared.look.Look.TheVariants as look
use Rattle.viewing.proofs.LookLemmas.{on_told}
use Rattle.viewing.proofs.looks.fate.Goals as goal

pub returns-in-Some : goal.returns-in-Some
returns-in-Some c = on_told _ c.args.engine.now (look.Fate c.args.page c.args.slot) _ _ _
    (inr (_, record { fate = c.in-Some.ensures; owner = c.owner_in.ensures; horizon = c.horizon.ensures; holder = c.horizon_holder.ensures }, refl)) c.tell_fate.ensures

pub returns-in-None : goal.returns-in-None
returns-in-None c = on_told _ c.args.engine.now (look.Fate c.args.page c.args.slot) _ _ _ (inl (c.in-None.ensures, refl)) c.tell_reply.ensures
