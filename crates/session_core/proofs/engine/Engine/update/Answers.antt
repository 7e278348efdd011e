use Rattle.std.proofs.Common.{refl}
use Rattle.calls.specs.declared.step.Step.TheVariants as step
use Rattle.session_steps.specs.Replies.{reply_to}
use Rattle.session_steps.specs.Writes.{worded}
use Rattle.session_core.proofs.DirectLemmas.{direct-follows}
use Rattle.session_core.proofs.Caching.{answer-keeps}
use Rattle.session_core.proofs.engine.Engine.update.Goals as goal

pub returns : goal.returns
returns c =
    let e = c.disturb.ensures in
    let f = direct-follows c.args.self.now (record { engine = record { core = c.self.inside.core; vacuum = c.self.inside.vacuum }; waits = c.self.inside.waits }) c.disturb.new.self c.self.view_is e.core e.vacuum e.waits
    (step.Update c.args.s (worded c.args.row.now)) c.args.s (reply_to c.update_row-answer.result) c.update_row-answer.new.self (reply_to c.note_answer.result) c.note_answer.new.self refl refl refl c.update_row-answer.ensures c.note_answer.ensures in
    record { follows = f.0; exact = f.1 }

pub invariant_of-self : goal.invariant_of-self
invariant_of-self c = answer-keeps c.self.inside.cache c.self.inside.core c.update_row-answer.new.self (step.Update c.args.s (worded c.args.row.now)) (reply_to c.update_row-answer.result) c.fact_set_up.ensures.own_ids c.update_row-answer.ensures.exact c.self.invariant
