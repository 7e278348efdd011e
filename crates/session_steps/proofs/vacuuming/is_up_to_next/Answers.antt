use Rattle.std.proofs.Common.{◌∙◌, sym, inl, inr}
use Rattle.std.proofs.lemmas.Bool.{eq-eqb}
use Rattle.session_steps.proofs.Forgetting.{upto-from, remembered}
use Rattle.session_steps.proofs.vacuuming.is_up_to_next.Goals as goal

pub returns-then-x-next : goal.returns-then-x-next
returns-then-x-next c = (
  λ t. upto-from c.args.statuses.now c.args.x.0 c.fact_window.ensures (inl (c.if-x-next.true ∙ c.next.ensures.value)),
  λ u. eq-eqb c.args.x.0 c.next.result.0 c.if-x-next.true,
)

pub returns-else-x-next : goal.returns-else-x-next
returns-else-x-next c = (
  λ t. upto-from c.args.statuses.now c.args.x.0 c.fact_window.ensures (inr (c.remembers.ensures.0 t)),
  λ u. remembered c.args.statuses.now c.args.x.0 c.remembers.result c.fact_window.ensures u (λ is. c.if-x-next.false (is ∙ sym c.next.ensures.value)) c.remembers.ensures.1,
)
