-- Rows that are written one after another.
use Rattle.std.proofs.Common.{◌≡◌, ℕ, zero, suc, ◌+◌, ◌<◌, List, [], ◌∷◌, length, take, slice_get, get_or, Some, refl, subst, arith}
use Rattle.tuple_header.specs.declared.row_place.RowPlace.{RowPlace}
use Rattle.calls.specs.declared.step.Step.{Step}
use Rattle.calls.specs.Words.{RowToWrite}
use Rattle.c_handles.specs.declared.database.Sandpiper.{Sandpiper}
use Rattle.c_handles.specs.declared.status.CallStatus.TheVariants as status
use Rattle.c_handles.specs.CallStatus.{number_of_status}
use Rattle.sandpiper_c.specs.Calls.{Writes}
use Rattle.sandpiper_c.specs.Many.{AreWritten}

pub row-at : (rows : List RowPlace) (n : ℕ) (none : RowPlace) → n < length rows → slice_get rows n ≡ Some (get_or rows n none)
row-at [] n none within = absurd (omega arith)
row-at (first ∷ rows) zero none within = refl
row-at (first ∷ rows) (suc n) none within = row-at rows n none (omega arith)

written-suc : (step : RowToWrite → Step) (rows : List RowPlace) (n : ℕ) (none : RowPlace) (old between new : Sandpiper) → n < length rows → AreWritten step old (take n rows) between
    → Writes between step (get_or rows n none) (number_of_status status.Done) new → AreWritten step old (take (suc n) rows) new
written-suc step [] n none old between new within written writes = absurd (omega arith)
written-suc step (first ∷ rows) zero none old between new within written writes = (new, subst (λ t. Writes t step first (number_of_status status.Done) new) written writes, refl)
written-suc step (first ∷ rows) (suc n) none old between new within written writes = (written.0, written.1, written-suc step rows n none written.0 between new (omega arith) written.2 writes)

-- the next row is written behind them
pub written-next : (step : RowToWrite → Step) (rows : List RowPlace) (n : ℕ) (none : RowPlace) (old between new : Sandpiper) (code : ℕ) → n < length rows
    → AreWritten step old (take n rows) between → code ≡ number_of_status status.Done → Writes between step (get_or rows n none) code new → AreWritten step old (take (n + 1) rows) new
written-next step rows n none old between new code within written done writes =
    let next : suc n ≡ n + 1 = omega arith in
    subst (λ k. AreWritten step old (take k rows) new) next
    (written-suc step rows n none old between new within written (subst (λ code. Writes between step (get_or rows n none) code new) done writes))
