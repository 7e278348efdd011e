-- For the crates above: rows are written to places one after another.
use Rattle.std.proofs.Common.{◌≡◌, suc, ◌<◌, List, [], ◌∷◌, ◌++◌, length, set, get_or, refl, ap, arith}
use Rattle.tuple_header.specs.declared.row_place.RowPlace.{RowPlace}
use Rattle.tuple_header.specs.declared.version.Row.{Row}
use Rattle.tuple_header.specs.Places.{place_with, places_with}

pub places-length : (rows : List Row) (places : List RowPlace) → length (places_with rows places) ≡ length places
places-length [] places = refl
places-length (row ∷ rows) [] = refl
places-length (row ∷ rows) (place ∷ places) = ap suc (places-length rows places)

-- the next row is written to the place behind them
pub places-push : (rows : List Row) (places : List RowPlace) (row : Row) (place : RowPlace) → length rows < length places → place ≡ get_or (places_with rows places) (length rows) place
    → set (places_with rows places) (length rows) (place_with row place) ≡ places_with (rows ++ row ∷ []) places
places-push rows [] row place within at = absurd (omega arith)
places-push [] (first ∷ places) row place within at = ap (λ p. place_with row p ∷ places) at
places-push (r ∷ rows) (first ∷ places) row place within at = ap (λ ps. place_with r first ∷ ps) (places-push rows places row place (omega arith) at)
