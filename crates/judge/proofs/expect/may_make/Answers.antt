use Rattle.std.proofs.Common.{◌≡◌, true, false}
use Rattle.plain_history.specs.Plain.{world_of}
use Rattle.judge.proofs.DueLemmas.{never_made}
use Rattle.judge.proofs.expect.may_make.Goals as goal

pub returns-in-Err : goal.returns-in-Err
returns-in-Err c = (λ (e : false ≡ true). absurd (cc), λ may. absurd (never_made (world_of c.args.plain.now) c.args.column c.in-Err.field-0 c.in-Err.ensures.err may.0))
