-- Slots that a reader sees are noted, one after another.
use Rattle.std.proofs.Common.{◌≡◌, ℕ, ◌+◌, ◌<◌, ◌≤◌, List, [], ◌∷◌, ◌++◌, length, slice_get, Some, sym, ap, ◌∙◌, subst, refl, arith}
use Rattle.std.specs.Option.{option_map}
use Rattle.std.proofs.lemmas.List.{length-append}
use Rattle.tuple_header.specs.declared.version.Row.{Row}
use Rattle.tuple_header.specs.declared.version.TheConstants.{MOST_SLOTS}
use Rattle.page_sheet.specs.Slots.{row_at}
use Rattle.page_slots.specs.View.{PageView}
use Rattle.visibility.specs.declared.reader.Reader.{Reader}
use Rattle.visibility.specs.Reading.{IsSeenBy}
use Rattle.index_lookup.specs.Walking.{IsSeenRow, NoneSeenFrom}
use Rattle.heap_write.specs.Heap.{HeapView}
use Rattle.table_scans.specs.Scans.{sight_of, slot_on, start_of}
use Rattle.table_scans.proofs.ScanLemmas.{row-shown, none-shown, not-first}
use Rattle.table_scans.proofs.TakeLemmas.{HasGathered, gathers-none, gathers-pass, gathers-one, gathers-all}
use Rattle.table_scans.specs.Tickets.{rows_at, HasRows}
use Rattle.table_scans.specs.Seen.{AreSeenOn}
use Rattle.table_scans.proofs.TicketRows.{rows_at-row, has-more}

-- those of the slots before this one
pub record HasNoted (page : PageView) (reader : Reader) (slot slots : ℕ) (numbers : List ℕ) : Type 0 where
  pub rows : (h : HeapView) (number : ℕ) → slice_get h.pages.pages number ≡ Some page → HasGathered (sight_of h reader) (start_of number) slot slots (rows_at page.slots numbers)
  pub there : HasRows page.slots numbers
  pub few : length numbers ≤ slot

pub notes-none : (page : PageView) (reader : Reader) (slots : ℕ) → HasNoted page reader 0 slots []
notes-none page reader slots = record { rows = λ h number at. gathers-none (sight_of h reader) (start_of number) slots; there = refl; few = omega arith }

module _ (page : PageView) (reader : Reader) (slot slots : ℕ) (numbers : List ℕ) (noted : HasNoted page reader slot slots numbers) where
  pub notes-pass : NoneSeenFrom (IsSeenBy reader) page.slots slot → HasNoted page reader (slot + 1) slots numbers
  notes-pass none = record {
    rows = λ h number at. gathers-pass (sight_of h reader) (start_of number) slot slots (rows_at page.slots numbers) (noted.rows h number at) (none-shown (sight_of h reader) (slot_on (start_of number) slot) page at none);
    there = noted.there;
    few = (let few = noted.few in omega arith);
  }

  pub notes-one : (row : Row) → IsSeenRow (IsSeenBy reader) page.slots slot row → slot < slots + 1 → HasNoted page reader (slot + 1) slots (numbers ++ slot ∷ [])
  notes-one row seen within =
      let is : row_at page.slots slot ≡ Some row = ap (λ o. option_map (λ t. t.row) o) seen.there ∙ ap Some (sym seen.is_row) in
      record {
        rows = λ h number at.
            let t = sight_of h reader in
            let p = slot_on (start_of number) slot in
            subst (λ (rows : List Row). HasGathered t (start_of number) (slot + 1) slots rows) (sym (rows_at-row page.slots numbers slot row is))
            (gathers-one t (start_of number) slot slots (rows_at page.slots numbers) (noted.rows h number at) row (row-shown t p page at row seen) (not-first t p page at row seen) within);
        there = has-more page.slots numbers slot row is noted.there;
        few = (let few = noted.few in let long = length-append numbers (slot ∷ []) in omega arith);
      }

  pub notes-all : length page.slots ≡ slots → slots ≤ MOST_SLOTS → slots + 1 ≤ slot → AreSeenOn page reader (rows_at page.slots numbers)
  notes-all count limit past h number at =
      gathers-all (sight_of h reader) (start_of number) slot slots (rows_at page.slots numbers) (noted.rows h number at) page at count limit past
