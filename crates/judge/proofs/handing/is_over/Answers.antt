use Rattle.std.proofs.Common.{◌≡◌, List, [], subst}
use Rattle.std.specs.Prelude.{IsTrue, ◌↔◌}
use Rattle.tuple_header.specs.declared.version.Row.{Row}
use Rattle.judge.proofs.Rows.{over_iff}
use Rattle.judge.proofs.handing.is_over.Goals as goal

pub returns : goal.returns
returns c = over_iff c.args.cursor.now.rest c.is_none.result (subst (λ (l : List Row). IsTrue c.is_none.result ↔ (l ≡ [])) c.rest.ensures.rows c.is_none.ensures)
