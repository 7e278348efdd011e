-- The bytes of a page, as C reads them.
use Rattle.std.specs.Prelude.{ℕ, List, Option, Some, None}
use Rattle.xid_circle.specs.Numbers.{PageNo}
use Rattle.page_slots.specs.View.{PageView}
use Rattle.c_views.specs.Bytes.{page_numbered, ShowsBytes}
use Rattle.c_handles.specs.declared.database.Sandpiper.{Sandpiper}
use Rattle.c_handles.specs.declared.held.Held.{Held}
use Rattle.sandpiper_c.specs.Calls.{held_by}

abbrev pub page_by : Option Held → PageNo → Option PageView
page_by None number = None
page_by (Some held) number = page_numbered held.engine.engine.core number

abbrev pub ShowsBytesOf : Sandpiper → PageNo → List ℕ → (code : ℕ) → List ℕ → Type 0
ShowsBytesOf table number old code new = ShowsBytes (page_by (held_by table) number) old code new
