-- The marks of places, by which a set tells at a look that it does not have one.
use Rattle.std.specs.Prelude.{ℕ, ◌+◌, ◌*◌, ◌%◌, ◌<◌, List, slice_index, Contains}
use Rattle.xid_circle.specs.declared.Tid.{Tid}
use Rattle.dead_places.specs.declared.marks.TheConstants.{MARKS, MARKS_OF_A_PAGE}

-- the number of the mark of a place; others may have the same
abbrev pub place_mark : Tid → ℕ
place_mark tid = (tid.page * MARKS_OF_A_PAGE + tid.slot) % MARKS

-- of these places none has a mark that is 0
abbrev pub HaveMarks : List Tid → List ℕ → Type 0
HaveMarks tids marks = (t : Tid) → Contains tids t → 0 < slice_index marks (place_mark t)
