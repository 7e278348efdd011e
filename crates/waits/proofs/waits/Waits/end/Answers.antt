use Rattle.std.proofs.Common.{◌≡◌, ◌∙◌, List, Option, ℕ, None, slice_set, replicate, sym, subst}
use Rattle.waits.proofs.WaitLemmas.{set-quiet}
use Rattle.waits.proofs.waits.Waits.end.Goals as goal

pub returns-else-self : goal.returns-else-self
returns-else-self c =
    let quiet : c.args.self.now ≡ replicate 64 None = sym c.self.view_is ∙ c.self.invariant c.if-self.false in
    subst (λ (waits : List (Option ℕ)). waits ≡ slice_set waits c.args.s None) (sym quiet) (sym (set-quiet 64 c.args.s))
