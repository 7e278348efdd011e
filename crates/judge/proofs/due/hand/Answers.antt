use Rattle.std.proofs.Common.{sym, ◌∙◌, ap}
use Rattle.history.specs.Cursors.{keys_of}
use Rattle.judge.proofs.Reasoning.{not_of, rows_due, keys_due}
use Rattle.judge.proofs.due.hand.Goals as goal

pub returns-in-Ok : goal.returns-in-Ok
returns-in-Ok c =
    rows_due c.args.cursor.now c.in-Index.field-0 c.args.n c.rest.result.now c.in-Ok.rows (sym c.order.ensures ∙ c.in-Index.is) c.rest.ensures.rows c.rest.ensures.order
    (not_of c.is_over.result c.if-is_over.false c.is_over.ensures) (c.in-Ok.ensures ∙ c.next_of.ensures)

pub returns-in-Ok-all_keys : goal.returns-in-Ok-all_keys
returns-in-Ok-all_keys c =
    keys_due c.args.cursor.now c.args.n c.rest-in-Keys.result.now c.in-Ok-all_keys.keys (sym c.order.ensures ∙ c.in-Keys.is) c.rest-in-Keys.ensures.rows c.rest-in-Keys.ensures.order
    (not_of c.is_over.result c.if-is_over.false c.is_over.ensures) (c.in-Ok-all_keys.ensures ∙ ap keys_of c.next_of-in-Keys.ensures)
