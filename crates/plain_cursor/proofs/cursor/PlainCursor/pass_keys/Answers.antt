use Rattle.std.proofs.Common.{◌≡◌, List, nat_eq, sym, ap, subst}
use Rattle.std.specs.Prelude.{not}
use Rattle.std.specs.List.{list_any}
use Rattle.tuple_header.specs.declared.version.Row.{Row}
use Rattle.history.specs.Cursors.{without}
use Rattle.plain_cursor.specs.Order.{KeptCursor, IsInOrder, index_of}
use Rattle.plain_cursor.specs.Hands.{cursor_of}
use Rattle.plain_cursor.proofs.Passing.{in_order-filter, passed_keys}
use Rattle.plain_cursor.proofs.cursor.PlainCursor.pass_keys.Goals as goal

pub invariant_of-self : goal.invariant_of-self
invariant_of-self c = subst (λ (l : List Row). IsInOrder (index_of c.self.inside.order) l) (sym c.leave_out.ensures)
    (in_order-filter (index_of c.self.inside.order) (λ (row : Row). not (list_any (λ taken. nat_eq taken row.key) c.args.keys.now)) c.self.inside.rest.items c.self.invariant)

pub returns : goal.returns
returns c =
    let old : KeptCursor = record { order = c.self.inside.order; rest = c.self.inside.rest.items } in
    let new : KeptCursor = record { order = c.self.inside.order; rest = c.leave_out.new.rows.items } in
    subst (λ (q : KeptCursor). cursor_of new ≡ record (cursor_of q) { rest = without c.args.keys.now (cursor_of q).rest }) c.self.view_is
    (passed_keys old new c.args.keys.now (ap (λ (l : List Row). record old { rest = l }) c.leave_out.ensures))
