use Rattle.std.proofs.Common.{◌≡◌, ◌∙◌, sym, ap, None, List}
use Rattle.tuple_header.specs.declared.version.Row.{Row}
use Rattle.history.specs.World.{view}
use Rattle.plain_history.specs.Plain.{open_of}
use Rattle.plain_cursor.specs.Order.{row_of_key, is_wanted, wanted}
use Rattle.plain_history.proofs.Keys.{adds-placed, in_order-placed, absent_from, kept_so}
use Rattle.plain_history.proofs.rows.add_row.Goals as goal

pub returns-in_ok-place-in-Some-clause-order : goal.returns-in_ok-place-in-Some-clause-order
returns-in_ok-place-in-Some-clause-order c =
    let none : row_of_key c.args.rows.now.items c.args.key ≡ None =
    ap (λ (l : List Row). row_of_key l c.args.key) (sym c.deref.ensures.value) ∙ absent_from (row_of_key c.deref.result.now c.args.key) c.has_key.result c.has_key.ensures c.if-has_key.false in
    in_order-placed c.args.index c.args.key c.in-Some.row c.args.rows.now.items c.place.new.rows.items none c.in-Some.ensures.keyed c.in_ok-place-in-Some.ensures c.requires

pub returns-in_ok-place-in-Some-clause-added : goal.returns-in_ok-place-in-Some-clause-added
returns-in_ok-place-in-Some-clause-added c =
    let none : row_of_key c.args.rows.now.items c.args.key ≡ None =
    ap (λ (l : List Row). row_of_key l c.args.key) (sym c.deref.ensures.value) ∙ absent_from (row_of_key c.deref.result.now c.args.key) c.has_key.result c.has_key.ensures c.if-has_key.false in
    adds-placed (wanted c.args.bounds c.args.index (view c.args.history.now (open_of c.args.session.now))) c.args.index c.args.key c.in-Some.row c.args.rows.now.items c.place.new.rows.items none
    (kept_so (is_wanted c.args.bounds c.args.index) (view c.args.history.now (open_of c.args.session.now) c.args.key) c.in-Some.row (sym c.view.ensures.value ∙ c.in-Some.is) (sym c.is_wanted.ensures ∙ c.if-is_wanted.true))
    c.in-Some.ensures.keyed c.in_ok-place-in-Some.ensures
