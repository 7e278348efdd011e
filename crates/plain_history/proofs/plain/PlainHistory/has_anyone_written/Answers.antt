use Rattle.std.proofs.Common.{◌∙◌, ap}
use Rattle.plain_history.specs.Plain.{Plain, session_in, world_of}
use Rattle.plain_history.proofs.Sessions.{someone_says}
use Rattle.plain_history.proofs.plain.PlainHistory.has_anyone_written.Goals as goal

pub returns : goal.returns
returns c = someone_says (world_of c.args.self.now) c.deref.result.now c.has_any_written.result (ap session_in c.deref.ensures.value ∙ ap (λ (p : Plain). session_in p.sessions) c.self.view_is) c.has_any_written.ensures
