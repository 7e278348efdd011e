use Rattle.std.proofs.Common.{Ok, Err, refl, ap}
use Rattle.session_core.proofs.direct.look_up_into.Goals as goal

pub returns-in-Ok : goal.returns-in-Ok
returns-in-Ok c = record {
  found = Ok c.in-Ok.found;
  does = c.in-Ok.ensures.answers;
  refused = c.in-Ok.ensures.refused;
  answers = ap Ok c.put_found.ensures.found;
  placed = c.put_found.ensures.placed;
}

pub returns-in-Err : goal.returns-in-Err
returns-in-Err c = record {
  found = Err c.in-Err.refusal;
  does = c.in-Err.ensures.answers;
  refused = c.in-Err.ensures.refused;
  answers = refl;
  placed = refl;
}
