use Rattle.std.proofs.Common.{take}
use Rattle.history.specs.World.{view}
use Rattle.plain_history.specs.Plain.{open_of}
use Rattle.plain_cursor.specs.Order.{IsInOrder, wanted}
use Rattle.plain_history.specs.Covers.{Covers}
use Rattle.plain_history.proofs.rows.rows_with.Given as goal

abbrev pub invariant-loop-key : goal.invariant-loop-key
invariant-loop-key l = record {
  order : IsInOrder l.index l.rows.items;
  rows : Covers (wanted l.bounds l.index (view l.history (open_of l.session))) l.rows.items (take l.key-index l.keys);
}
