use Rattle.std.proofs.Common.{◌<◌, length, arith, subst}
use Rattle.plain_history.specs.Plain.{world_of}
use Rattle.judge.specs.declared.judge.Ruling.{Ruling}
use Rattle.judge.specs.Rulings.{Judges}
use Rattle.judge.proofs.RunsLemmas.{judged-more, judged-no_more, judged-stops}
use Rattle.judge.proofs.all.judge_all.Goals as goal

pub returns-in-Ok-Broken-clause-first : goal.returns-in-Ok-Broken-clause-first
returns-in-Ok-Broken-clause-first c within =
    let within' : c.loop-i.i < length c.args.replies.now = omega arith in
    let told = subst (λ (v : Ruling). Judges (world_of c.loop-i.judge) c.index-steps-i.result c.index-replies-i.result v (world_of c.judge.new.self)) c.in-Ok-Broken.field-0-is c.in-Ok-Broken.ensures.told in
    judged-no_more (world_of c.args.judge.now) (world_of c.loop-i.judge) c.args.steps.now c.args.replies.now c.loop-i.i c.index-steps-i.result c.index-replies-i.result within within'
    c.index-steps-i.is c.index-replies-i.is c.loop-i.invariant told.0

pub returns-in-Err-clause-lacks : goal.returns-in-Err-clause-lacks
returns-in-Err-clause-lacks c =
    let within : c.loop-i.i < length c.args.steps.now = omega arith in
    let within' : c.loop-i.i < length c.args.replies.now = omega arith in
    judged-stops (world_of c.args.judge.now) (world_of c.loop-i.judge) (world_of c.judge.new.self) c.args.steps.now c.args.replies.now c.loop-i.i c.index-steps-i.result c.index-replies-i.result within within'
    c.index-steps-i.is c.index-replies-i.is c.loop-i.invariant c.in-Err.ensures.stays c.in-Err.ensures.lacks

pub loop-i-preserved : goal.loop-i-preserved
loop-i-preserved c =
    let within : c.loop-i.i < length c.args.steps.now = omega arith in
    let within' : c.loop-i.i < length c.args.replies.now = omega arith in
    let told = subst (λ (v : Ruling). Judges (world_of c.loop-i.judge) c.index-steps-i.result c.index-replies-i.result v (world_of c.judge.new.self)) c.in-Ok-Allowed.field-0-is c.in-Ok-Allowed.ensures.told in
    judged-more (world_of c.args.judge.now) (world_of c.loop-i.judge) (world_of c.judge.new.self) c.args.steps.now c.args.replies.now c.loop-i.i c.index-steps-i.result c.index-replies-i.result within within'
    c.index-steps-i.is c.index-replies-i.is c.loop-i.invariant told.0 told.1
