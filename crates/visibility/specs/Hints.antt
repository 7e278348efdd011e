-- Hints: marks of a header that say what became of its inserter and its deleter, so that the status need not be looked up
-- again. (src/include/access/htup_details.h: the bits of t_infomask.)
use Rattle.std.specs.Prelude.{◌≡◌, ◌≢◌, ◌↔◌, ℕ, ◌==◌, Bool, true, false, bit_and, bit_or, List}
use Rattle.tuple_header.specs.declared.version.Header.{Header}
use Rattle.tuple_header.specs.Faults.{has_mark}
use Rattle.commit_status.specs.declared.status.Status.{Status}
use Rattle.commit_status.specs.declared.status.Status.TheVariants.{InProgress, Committed, Aborted}
use Rattle.commit_status.specs.Window.{Window, status_of, IsCommitted, IsAborted}
use Rattle.snapshot.specs.Snap.{Snap}
use Rattle.visibility.specs.Visible.{IsVisible}
use Rattle.tuple_header.specs.Marks.{is_frozen}

-- the maker's marks: frozen, or else its status
abbrev pub maker_marks : Bool → Status → ℕ
maker_marks true status = 0x0300
maker_marks false Committed = 0x0100
maker_marks false Aborted = 0x0200
maker_marks false InProgress = 0

-- the deleter's marks: none, or else its status
abbrev pub deleter_marks : Bool → Status → ℕ
deleter_marks true status = 0x0800
deleter_marks false Committed = 0x0400
deleter_marks false Aborted = 0x0800
deleter_marks false InProgress = 0

-- a header with the hints that the status table gives; what is no hint stays
abbrev pub hinted : Window → Header → Header
hinted w h = record h {
  mask = bit_or
      (bit_or (maker_marks (is_frozen h) (status_of w h.xmin.0)) (deleter_marks (h.xmax.0 == 0) (status_of w h.xmax.0)))
      (bit_and h.mask 0x2000);
}

-- what the hints of a header say is true
pub record AreTrue (w : Window) (h : Header) : Type 0 where
  pub maker_committed : bit_and h.mask 0x0300 ≡ 0x0100 → IsCommitted w h.xmin.0
  pub maker_aborted : bit_and h.mask 0x0300 ≡ 0x0200 → IsAborted w h.xmin.0
  pub deleter_committed : has_mark h.mask 0x0400 ≡ true → IsCommitted w h.xmax.0
  pub deleter_aborted : has_mark h.mask 0x0800 ≡ true → h.xmax.0 ≢ 0 → IsAborted w h.xmax.0

-- hints change no verdict
abbrev pub HintsChangeNothing : Type 0
HintsChangeNothing = (v w : Window) (s : Snap) (own : List ℕ) (h : Header) → IsVisible w s own (hinted v h) ↔ IsVisible w s own h
