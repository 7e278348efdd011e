-- Rows of some slots, slot by slot.
use Rattle.std.proofs.Common.{◌≡◌, ℕ, ◌+◌, List, [], ◌∷◌, ◌++◌, length, Option, Some, sym, ap, ◌∙◌, append-nil}
use Rattle.std.specs.Prelude.{option_to_list}
use Rattle.std.proofs.lemmas.Grind.{flat_map-append}
use Rattle.std.proofs.lemmas.List.{length-append}
use Rattle.tuple_header.specs.declared.version.Row.{Row}
use Rattle.page_sheet.specs.declared.slot.Slot.{Slot}
use Rattle.page_sheet.specs.Slots.{row_at}
use Rattle.table_scans.specs.Tickets.{rows_at, HasRows}

-- one slot more
pub rows_at-more : (slots : List Slot) (numbers : List ℕ) (n : ℕ) → rows_at slots (numbers ++ n ∷ []) ≡ rows_at slots numbers ++ option_to_list (row_at slots n)
rows_at-more slots numbers n =
    flat_map-append (λ n. option_to_list (row_at slots n)) numbers (n ∷ []) ∙ ap (λ rest. rows_at slots numbers ++ rest) (append-nil (option_to_list (row_at slots n)))

-- there is a version in it
pub rows_at-row : (slots : List Slot) (numbers : List ℕ) (n : ℕ) (row : Row) → row_at slots n ≡ Some row → rows_at slots (numbers ++ n ∷ []) ≡ rows_at slots numbers ++ row ∷ []
rows_at-row slots numbers n row is = rows_at-more slots numbers n ∙ ap (λ (o : Option Row). rows_at slots numbers ++ option_to_list o) is

pub has-more : (slots : List Slot) (numbers : List ℕ) (n : ℕ) (row : Row) → row_at slots n ≡ Some row → HasRows slots numbers → HasRows slots (numbers ++ n ∷ [])
has-more slots numbers n row is has =
    ap (λ (rows : List Row). length rows) (rows_at-row slots numbers n row is) ∙ length-append (rows_at slots numbers) (row ∷ []) ∙ ap (λ (k : ℕ). k + 1) has ∙ sym (length-append numbers (n ∷ []))
