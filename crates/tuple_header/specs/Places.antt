-- Rows in places that a caller keeps.
use Rattle.std.specs.Prelude.{List, ◌∷◌, ◌++◌, length, drop}
use Rattle.tuple_header.specs.declared.row_place.RowPlace.{RowPlace}
use Rattle.tuple_header.specs.declared.version.Row.{Row}

-- a place once the row is written to it: the bytes behind the row's body stay
abbrev pub place_with : Row → RowPlace → RowPlace
place_with row place = record {
  key = row.key;
  cols = row.cols;
  length = length row.body.items;
  body = row.body.items ++ drop (length row.body.items) place.body;
}

-- the places once these rows are written to the first of them: all others stay
abbrev pub places_with : List Row → List RowPlace → List RowPlace
places_with (row ∷ rows) (place ∷ places) = place_with row place ∷ places_with rows places
places_with rows places = places
