use Rattle.std.proofs.Common.{◌≡◌, true, false}
use Rattle.plain_history.specs.Plain.{world_of}
use Rattle.judge.proofs.Rows.{never_barred}
use Rattle.judge.proofs.handing.reads.Goals as goal

pub returns-in-Err : goal.returns-in-Err
returns-in-Err c m ready = (λ (e : false ≡ true). absurd (cc), λ is. absurd (never_barred (world_of c.args.plain.now) c.args.s m c.in-Err.field-0 c.requires ready c.in-Err.ensures.err))
