use Rattle.std.proofs.Common.{refl}
use Rattle.std.proofs.lemmas.Option.{unwrap_or-slice_get}
use Rattle.session_steps.proofs.engine.SessionEngine.page_bits.Goals as goal

pub returns-in-Some : goal.returns-in-Some
returns-in-Some c = rw (c.bits_of.ensures, c.unwrap_or.ensures, c.mark.ensures, unwrap_or-slice_get, ← c.page.ensures, c.in-Some.is, ← c.self.view_is) refl
