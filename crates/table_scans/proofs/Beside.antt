-- What one id made is seen beside a version of it that was seen.
use Rattle.std.proofs.Common.{◌≡◌, ℕ, List, Some, sym, subst, false, inr, ⊎_elim}
use Rattle.tuple_header.specs.declared.version.Header.{Header}
use Rattle.tuple_header.specs.declared.version.Row.{Row}
use Rattle.tuple_header.specs.Marks.{is_frozen}
use Rattle.page_sheet.specs.declared.slot.Slot.{Slot}
use Rattle.page_sheet.specs.Slots.{undeleted_row_at}
use Rattle.page_sheet.proofs.Ids.{version-from_undeleted}
use Rattle.visibility.specs.declared.reader.Reader.{Reader}
use Rattle.visibility.specs.Reading.{IsReadBy, IsSeenBy}
use Rattle.visibility.proofs.Makers.{visible-of, made-of}
use Rattle.index_lookup.specs.Walking.{IsSeenRow}

-- what it made and nobody deleted is seen where the reader counts it
pub undeleted-seen : (r : Reader) (slots : List Slot) (n x : ℕ) (row : Row) → IsReadBy r x → undeleted_row_at slots x n ≡ Some row → IsSeenRow (IsSeenBy r) slots n row
undeleted-seen r slots n x row read is =
    let t = version-from_undeleted slots n x row is in
    record {
      version = t.0;
      there = t.1;
      shown = visible-of (IsReadBy r) t.0.header (inr (subst (IsReadBy r) (sym t.2) read)) (λ some. absurd (some t.3));
      is_row = t.4;
    }

-- and it is counted where a version of it that is not frozen is seen
pub counted-maker : (r : Reader) (h : Header) → IsSeenBy r h → is_frozen h ≡ false → IsReadBy r h.xmin.0
counted-maker r h seen thawed = ⊎_elim (λ frozen. absurd (cc)) (λ read. read) (made-of (IsReadBy r) h seen)
