use Rattle.std.proofs.Common.{◌∙◌, List, sym, subst, take, drop, ◌+◌, arith, refl, length}
use Rattle.calls.specs.declared.step.Step.{Step}
use Rattle.calls.specs.declared.reply.Reply.{Reply}
use Rattle.session_core.specs.Clauses.{WaitingFollows, WaitingExact}
use Rattle.session_core.specs.Runs.{RepliesLead, for_replies, for_copy}
use Rattle.session_core.proofs.Running.{Leads-more, Leads-all, split_at, positive}
use Rattle.session_core.proofs.engine.Engine.replies_to.Goals as goal

pub returns-in-Err-clause-wanted : goal.returns-in-Err-clause-wanted
returns-in-Err-clause-wanted c = for_replies (positive (length c.args.steps.now) c.in-Err.ensures.succeeds) refl

pub loop-step-init : goal.loop-step-init
loop-step-init c = (rw c.in-Ok.ensures.items refl, c.in-Ok.ensures.len, c.in-Ok.ensures.capacity)

pub returns-in-Err-copy-clause-wanted : goal.returns-in-Err-copy-clause-wanted
returns-in-Err-copy-clause-wanted c =
    let i = c.loop-step.step-index in
    let steps = c.args.steps.now in
    for_copy (take i steps) (drop (i + 1) steps) c.step-item.result c.loop-step.replies.items (split_at steps i c.step-item.result c.loop-step-test.true c.step-item.is) c.loop-step.invariant.0
    c.in-Err-copy.ensures.refused

pub push_reserved-requires : goal.push_reserved-requires
push_reserved-requires c = omega (arith, c.loop-step.invariant.1, c.loop-step.invariant.2, c.loop-step-test.true)

pub loop-step-preserved : goal.loop-step-preserved
loop-step-preserved c =
    let i = c.loop-step.step-index in
    let copied = c.in-Ok-copy.ensures.copy ∙ c.step-item.is in
    let follows = subst (λ (step : Step). WaitingFollows c.loop-step.self step c.step.result c.step.new.self) copied c.step.ensures.follows in
    let exact = subst (λ (step : Step). WaitingExact c.loop-step.self step c.step.result c.step.new.self) copied c.step.ensures.exact in (
      subst (λ (rs : List Reply). RepliesLead c.args.self.now (take (i + 1) c.args.steps.now) rs c.step.new.self) (sym c.push_reserved.ensures.items)
          (Leads-more c.args.self.now c.args.steps.now c.loop-step.replies.items c.loop-step.self c.step.new.self i c.step-item.result c.step.result c.loop-step-test.true c.loop-step.invariant.0 follows exact),
      omega (arith, c.push_reserved.ensures.len, c.loop-step.invariant.1),
      omega (arith, c.push_reserved.ensures.capacity, c.loop-step.invariant.2),
    )

pub returns-clause-led : goal.returns-clause-led
returns-clause-led c = Leads-all c.args.self.now c.args.steps.now c.loop-step.replies.items c.loop-step.self c.loop-step.step-index c.loop-step-test.false c.loop-step.invariant.0
