-- A sheet: the bytes of a page.
use Rattle.std.specs.Prelude.{ℕ, List}

pub record SheetView : Type 0 where
  pub bytes : List ℕ
  -- how many slots there are
  pub count : ℕ
