use Rattle.stories.proofs.DrawOutcomeLemmas.{caused-by}
use Rattle.script.proofs.FirstLemmas.{no_heading}
use Rattle.stories.specs.declared.draw_fault.DrawFault.TheVariants.{Script}
use Rattle.stories.proofs.beginning.first_of.Goals as goal

pub returns-in-Ok-Some-clause-begins : goal.returns-in-Ok-Some-clause-begins
returns-in-Ok-Some-clause-begins g c =
    let read = c.in-Ok.ensures.begins in
    let made = rw c.in-Ok-Some.field-0-is at c.in-Ok-Some.ensures.made in
    (c.in-Ok.settings, made.0, read.0, read.1, read.2, read.3)

pub returns-in-Ok-None-clause-fails : goal.returns-in-Ok-None-clause-fails
returns-in-Ok-None-clause-fails g c =
    let outside = rw c.in-Ok-None.field-0-is at c.in-Ok-None.ensures.made in
    absurd (outside c.in-Ok.ensures.begins.0)

pub returns-in-Err-new_engine-clause-fails : goal.returns-in-Err-new_engine-clause-fails
returns-in-Err-new_engine-clause-fails g c = no_heading c.in-Err-new_engine.fault _ _ c.in-Err-new_engine.ensures.fault

pub returns-in-Err-new_engine-clause-caused : goal.returns-in-Err-new_engine-clause-caused
returns-in-Err-new_engine-clause-caused g c = caused-by (Script c.in-Err-new_engine.fault) _ c.in-Err-new_engine.ensures.fault
