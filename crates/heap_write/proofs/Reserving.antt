-- What stands ready after memory was asked for.
use Rattle.std.proofs.Common.{◌≡◌, ◌≢◌, ℕ, ◌<◌, ◌≤◌, Result, Ok, Err, length, set, Option, Some, sym, ap, subst, ◌∙◌, arith, ◌⊎◌, ⊎_elim}
use Rattle.std.proofs.lemmas.List.{length-set}
use Rattle.std.proofs.lemmas.Option.{slice_get-get_or}
use Rattle.std.specs.Prelude.{IfErr, OnErr}
use Rattle.xid_circle.specs.declared.Xid.{Xid}
use Rattle.tuple_header.specs.declared.version.Row.{Row}
use Rattle.tuple_header.specs.Version.{rounded_size_of}
use Rattle.snapshot.specs.Own.{Own}
use Rattle.page_slots.specs.View.{PageView}
use Rattle.page_sheet.specs.Slots.{room_of}
use Rattle.heap_pages.specs.View.{PagesView}
use Rattle.heap_pages.specs.Choice.{HasRoom, IsPlaceFor}
use Rattle.heap_pages.specs.declared.pages.Placement.TheVariants as to
use Rattle.table_indexes.specs.Indexes.{NeedsEntry}
use Rattle.heap_write.specs.declared.target.Target.{Target}
use Rattle.heap_write.specs.declared.target.Target.TheVariants.{Page, New}
use Rattle.heap_write.specs.Heap.{HeapView, unused_page, page_on}
use Rattle.heap_write.specs.declared.heap.WriteFault.{WriteFault}
use Rattle.heap_write.specs.declared.heap.WriteFault.TheVariants.{NoMemory}
use Rattle.heap_write.specs.Writes.{TableIsFull}
use Rattle.write_ids.specs.Ids.{NeedsFreeze}
use Rattle.heap_write.specs.Refusals.{NeedsIds, RootNeedsMemory, LacksForInsert}
use Rattle.heap_write.specs.Growth.{page_in, SamePages, place_of_target, IsReserved}
use Rattle.heap_write.specs.Steps.{IsChosen}
use Rattle.heap_write.proofs.PageLemmas.{page-set_other}
use Rattle.heap_write.proofs.PlaceLemmas.{alike-full, place-set, page-place, new-place}

-- Why memory was needed.

pub needs-memory : (h : HeapView) (own : Own) (row : Row) → IsPlaceFor h.pages.pages h.max_pages (rounded_size_of row) to.NewPage
    → (¬ TableIsFull h (rounded_size_of row)) × RootNeedsMemory h own row
needs-memory h own row chosen = (
  λ full. let few = new-place h.pages.pages h.max_pages (rounded_size_of row) chosen in let over = full.all_used in let no : 1 ≤ 0 = omega (arith, few, over) in omega (arith, no),
  RootNeedsMemory.for_page chosen,
)

pub room-left : (h : HeapView) (size : ℕ) (target : Target) → IsChosen h size (Some target) → ¬ TableIsFull h size
room-left h size (Page n) chosen full =
    let at = page-place h.pages.pages h.max_pages size n chosen in
    full.no_room n (page_on h n) (slice_get-get_or h.pages.pages n unused_page at.0) at.1
room-left h size (New page) chosen full =
    let few = new-place h.pages.pages h.max_pages size chosen in let over = full.all_used in let no : 1 ≤ 0 = omega (arith, few, over) in omega (arith, no)

-- an insert for which there is room
pub insert-refused : (h : HeapView) (own : Own) (row : Row) (r : Result Xid WriteFault) → ¬ NeedsFreeze h.statuses own → ¬ TableIsFull h (rounded_size_of row)
    → IfErr r (λ fault. fault ≡ NoMemory) → OnErr r (NeedsEntry h.indexes row ⊎ NeedsIds h own) → IfErr r (λ fault. LacksForInsert h own row fault)
insert-refused h own row (Ok x) free room no_memory needs = no_memory
insert-refused h own row (Err fault) free room no_memory needs =
    subst (λ f. LacksForInsert h own row f) (sym no_memory) (free, room, ⊎_elim RootNeedsMemory.for_entry RootNeedsMemory.for_ids needs)

-- what was chosen before memory was asked for is chosen after
pub chosen-kept : (pages : PagesView) (h : HeapView) (size : ℕ) (found : Option Target) → SamePages pages h.pages → IsPlaceFor pages.pages h.max_pages size (place_of_target found) → IsChosen h size found
chosen-kept pages h size found same chosen = subst (λ ps. IsPlaceFor ps h.max_pages size (place_of_target found)) (sym same.pages) chosen

-- A page without room, and without room after it has changed.

pub chosen-set : (h h' : HeapView) (size m : ℕ) (after : PageView) (found : Option Target) → m < length h.pages.pages → h'.pages.pages ≡ set h.pages.pages m after
    → h'.max_pages ≡ h.max_pages → ¬ HasRoom size (page_on h m) → ¬ HasRoom size after → IsChosen h size found → IsChosen h' size found
chosen-set h h' size m after found within is max_pages full still chosen =
    rw (is, max_pages) (place-set h.pages.pages h.max_pages size m after (place_of_target found) within (alike-full size (page_on h m) after full still) chosen)

pub ready-set : (pages pages' : PagesView) (size m : ℕ) (after : PageView) (target : Target) → pages'.pages ≡ set pages.pages m after → pages'.spare ≡ pages.spare
    → ¬ HasRoom size (page_in pages.pages m) → IsReserved pages size target → IsReserved pages' size target
ready-set pages pages' size m after (Page n) is spare full (within, room) =
    let other : n ≢ m = λ same. full (subst (λ k. size ≤ room_of (page_in pages.pages k).slots) same room) in
    let kept = sym (ap (λ ps. page_in ps n) is ∙ page-set_other pages.pages m n after other) in
    (subst (λ count. n < count) (sym (ap length is ∙ length-set pages.pages m after)) within, subst (λ (p : PageView). size ≤ room_of p.slots) kept room)
ready-set pages pages' size m after (New page) is spare full (fresh, room, more, few) =
    (fresh, room, subst (λ s. 0 < s) (sym spare) more, subst (λ count. count < 65536) (sym (ap length is ∙ length-set pages.pages m after)) few)
