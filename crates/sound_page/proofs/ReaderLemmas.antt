-- A snapshot with own ids is a reader.
use Rattle.std.proofs.Common.{ℕ, List}
use Rattle.page_sheet.specs.declared.slot.Slot.{Slot}
use Rattle.commit_status.specs.Window.{Window}
use Rattle.snapshot.specs.Snap.{Snap}
use Rattle.snapshot.proofs.Sights.{past-seen}
use Rattle.visibility.specs.Seeing.{Reads}
use Rattle.visibility.specs.Visible.{ReadsIn}
use Rattle.visibility.proofs.Makers.{committed-from}
use Rattle.visibility.proofs.Dead.{committed-upto, aborted-unread}
use Rattle.sound_page.specs.Readers.{IsPageReader, IsOpenReader}

pub open-reader : (w : Window) (horizon : ℕ) (slots : List Slot) (s : Snap) (own : List ℕ) → IsOpenReader w horizon slots s own → IsPageReader w horizon slots (ReadsIn w s own)
open-reader w horizon slots s own r = record {
  past = λ x done before. Reads.by_others (past-seen w s horizon x r.window r.snapshot r.horizon_upto (committed-upto w x done) r.low before) (committed-from w x done);
  none_aborted = λ x gone. aborted-unread w s own x r.active gone;
  in_order = r.in_order;
}
