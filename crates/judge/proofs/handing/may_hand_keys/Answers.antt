use Rattle.std.proofs.Common.{sym, ◌∙◌}
use Rattle.judge.proofs.Rows.{keys_iff}
use Rattle.judge.proofs.handing.may_hand_keys.Goals as goal

pub returns-in-Keys : goal.returns-in-Keys
returns-in-Keys c = keys_iff c.args.cursor.now c.args.n c.rest.result.now c.args.keys.now c.are_next_keys.result (sym c.order.ensures ∙ c.in-Keys.is) c.rest.ensures.rows c.rest.ensures.order c.are_next_keys.ensures
