use Rattle.script.proofs.run.first_line.Goals as goal

pub returns-in-Ok-Some-clause-begins : goal.returns-in-Ok-Some-clause-begins
returns-in-Ok-Some-clause-begins g c =
    let read = c.in-Ok.ensures.begins in
    let made = rw c.in-Ok-Some.field-0-is at c.in-Ok-Some.ensures.made in
    (c.in-Ok.settings, made.0, read.0, read.1, read.2)

pub returns-in-Ok-None-clause-fails : goal.returns-in-Ok-None-clause-fails
returns-in-Ok-None-clause-fails g c =
    let outside = rw c.in-Ok-None.field-0-is at c.in-Ok-None.ensures.made in
    absurd (outside c.in-Ok.ensures.begins.0)
