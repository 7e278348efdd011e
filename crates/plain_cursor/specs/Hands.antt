-- The cursor of the history that one stands for.
use Rattle.plain_cursor.specs.declared.order.PlainOrder.{PlainOrder}
use Rattle.plain_cursor.specs.declared.order.PlainOrder.TheVariants.{Index, Heap}
use Rattle.plain_cursor.specs.declared.order.PlainOrder.TheVariants as order
use Rattle.plain_cursor.specs.Order.{KeptCursor, row_of_key}
use Rattle.history.specs.World.{Cursor, Order, by_index, by_heap, by_keys}

-- in which way the history says it
abbrev pub plain_order_of : PlainOrder → Order
plain_order_of (Index index) = by_index index
plain_order_of Heap = by_heap
plain_order_of order.Keys = by_keys

-- the cursor of the history
abbrev pub cursor_of : KeptCursor → Cursor
cursor_of c = record { order = plain_order_of c.order; rest = row_of_key c.rest }
