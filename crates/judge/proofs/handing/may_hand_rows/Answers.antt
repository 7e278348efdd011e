use Rattle.std.proofs.Common.{sym, ◌∙◌}
use Rattle.judge.proofs.Rows.{rows_iff}
use Rattle.judge.proofs.handing.may_hand_rows.Goals as goal

pub returns-in-Index : goal.returns-in-Index
returns-in-Index c = rows_iff c.args.cursor.now c.in-Index.field-0 c.args.n c.rest.result.now c.args.rows.now c.is_next.result (sym c.order.ensures ∙ c.in-Index.is) c.rest.ensures.rows c.rest.ensures.order c.is_next.ensures
