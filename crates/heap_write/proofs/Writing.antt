-- Writes on a table that has grown before, said of the table as it was.
use Rattle.std.proofs.Common.{◌≡◌, ◌≢◌, ℕ, ◌<◌, ◌≤◌, Bool, true, false, inl, inr, List, [], ◌∷◌, ◌++◌, length, set, Some, slice_get, sym, ap, subst, refl, ◌∙◌, arith, length-append}
use Rattle.std.proofs.lemmas.List.{get_or_append_left, length-set}
use Rattle.std.specs.Prelude.{IfOk, Result, Ok, Err}
use Rattle.xid_circle.specs.declared.Tid.{Tid}
use Rattle.tuple_header.specs.declared.version.Row.{Row}
use Rattle.tuple_header.specs.Version.{rounded_size_of}
use Rattle.page_slots.specs.View.{PageView}
use Rattle.page_sheet.specs.Slots.{room_of, free_number, next_change, row_at, IsNormalAt}
use Rattle.snapshot.specs.Own.{Own}
use Rattle.std.proofs.lemmas.Option.{slice_get_within}
use Rattle.tuple_writes.specs.Writes.{with_root, with_updated, replaced_change, PutsXmax, AddsToPage}
use Rattle.space_maps.specs.declared.mark.Mark.TheVariants.{Nothing}
use Rattle.heap_pages.specs.View.{PagesView}
use Rattle.table_indexes.specs.Indexes.{SameEntries, Enters}
use Rattle.table_indexes.proofs.IndexLemmas.{same-entries}
use Rattle.table_indexes.proofs.Columns.{entries-then, enters-grown, values-grown}
use Rattle.heap_write.specs.declared.target.Target.{Target}
use Rattle.heap_write.specs.declared.target.Target.TheVariants.{Page, New}
use Rattle.heap_write.specs.Heap.{HeapView, unused_page, page_on, PutsPage}
use Rattle.heap_write.specs.Heap.PutsPage.{in_use, after_all}
use Rattle.heap_write.specs.Writes.{GoesTo, PutsRoot, SetsXmax, HotUpdates, ColdUpdates, KeepsValues, Inserts, Deletes, Replaces}
use Rattle.write_ids.specs.Ids.{NeedsFreeze, TakesIds}
use Rattle.heap_write.specs.Writes.Replaces.{elsewhere}
use Rattle.heap_write.specs.Refusals.{VersionIsThere}
use Rattle.heap_write.specs.Growth.{page_in, SamePages, target_number}
use Rattle.heap_write.specs.Steps.{IsChosen}
use Rattle.heap_write.proofs.PageLemmas.{page-at, page-set, page-set_other, there-within}
use Rattle.heap_write.proofs.PlaceLemmas.{page-place}
use Rattle.tuple_writes.proofs.Altered.{normal-added}
use Rattle.std.proofs.lemmas.Bool.{cases_eq}

-- what is so of both, where two things are said of what is done
pub both-ok : {T E : Type 0} {A B C : T → Type 0} (r : Result T E) → ((x : T) → A x → B x → C x) → IfOk r A → IfOk r B → IfOk r C
both-ok (Ok x) f a b = f x a b
both-ok (Err e) f a b = a

-- A table with more memory.

-- a write that puts page n on the second table puts it on the first
pub record Grown (h h1 : HeapView) (n : ℕ) : Type 0 where
  pub slots : (page_on h1 n).slots ≡ (page_on h n).slots
  pub change : (page_on h1 n).change ≡ (page_on h n).change
  pub puts : (pages' : PagesView) (page : PageView) → PutsPage h1.pages pages' n page → PutsPage h.pages pages' n page
  pub entries : SameEntries h.indexes h1.indexes

puts-same_pages : (pages pages1 pages' : PagesView) (n : ℕ) (page : PageView) → pages1.pages ≡ pages.pages → pages1.marks ≡ pages.marks → PutsPage pages1 pages' n page → PutsPage pages pages' n page
puts-same_pages pages pages1 pages' n page same marks (in_use lt is m) =
    in_use (subst (λ (ps : List PageView). n < length ps) same lt) (is ∙ ap (λ ps. set ps n page) same) (m ∙ ap (λ ms. set ms n Nothing) marks)
puts-same_pages pages pages1 pages' n page same marks (after_all over is m) =
    after_all (over ∙ ap (λ (ps : List PageView). length ps) same) (is ∙ ap (λ ps. ps ++ page ∷ []) same) (m ∙ ap (λ ms. ms ++ Nothing ∷ []) marks)

pub grown-none : (h h1 : HeapView) (n : ℕ) → h1.pages.pages ≡ h.pages.pages → h1.pages.marks ≡ h.pages.marks → SameEntries h.indexes h1.indexes → Grown h h1 n
grown-none h h1 n same marks entries = record {
  slots = ap (λ (pages : List PageView). (page_in pages n).slots) same;
  change = ap (λ (pages : List PageView). (page_in pages n).change) same;
  puts = λ pages' page puts. puts-same_pages h.pages h1.pages pages' n page same marks puts;
  entries = entries;
}

pub root-grown : (h h1 h' : HeapView) (updated : Bool) (x : ℕ) (row : Row) (n : ℕ) → Grown h h1 n → PutsRoot h1 h' updated x row n → PutsRoot h h' updated x row n
root-grown h h1 h' updated x row n grown root =
    let E : ℕ → Type 0 = λ slot. Enters h.indexes h'.indexes row (record { page = n; slot = slot }) in
    record {
      put = record {
        page = root.put.page;
        puts = grown.puts h'.pages root.put.page root.put.puts;
        slots = root.put.slots ∙ ap (λ slots. with_root slots updated x n row) grown.slots;
        change = root.put.change ∙ ap next_change grown.change;
        flag = root.put.flag;
      };
      within = subst (λ slots. free_number slots ≤ 291) grown.slots root.within;
      entries = subst (λ slots. E (free_number slots)) grown.slots (enters-grown h.indexes h1.indexes h'.indexes row _ grown.entries root.entries);
    }

pub here-grown : (h h1 h' : HeapView) (place : Tid) (x : ℕ) (row : Row) → Grown h h1 place.page → HotUpdates h1 h' place x row → HotUpdates h h' place x row
here-grown h h1 h' place x row grown here = record {
  put = record {
    page = here.put.page;
    puts = grown.puts h'.pages here.put.page here.put.puts;
    slots = here.put.slots ∙ ap (λ slots. with_updated slots place.slot x place.page row) grown.slots;
    change = here.put.change
        ∙ ap (λ slots. replaced_change slots place.slot x place.page (free_number slots) true (next_change (page_on h1 place.page).change)) grown.slots
        ∙ ap (λ change. replaced_change (page_on h place.page).slots place.slot x place.page (free_number (page_on h place.page).slots) true (next_change change)) grown.change;
    flag = here.put.flag;
  };
  within = subst (λ slots. free_number slots ≤ 291) grown.slots here.within;
  entries = entries-then h.indexes h1.indexes h'.indexes grown.entries here.entries;
}

pub cold-grown : (h h1 h' : HeapView) (place : Tid) (x : ℕ) (row : Row) → Grown h h1 place.page → ColdUpdates h1 h' place x row place.page → ColdUpdates h h' place x row place.page
cold-grown h h1 h' place x row grown replaces = record {
  middle = replaces.middle;
  root = root-grown h h1 replaces.middle true x row place.page grown replaces.root;
  away = subst (λ slots. SetsXmax replaces.middle h' place x (record { page = place.page; slot = free_number slots })) grown.slots replaces.away;
}

-- whether the values in the indexes change

pub values-on : (h h1 : HeapView) (place : Tid) (row : Row) → row_at (page_on h1 place.page).slots place.slot ≡ row_at (page_on h place.page).slots place.slot
    → SameEntries h.indexes h1.indexes → KeepsValues h place row → KeepsValues h1 place row
values-on h h1 place row same entries keeps old at = values-grown h.indexes h1.indexes old row entries (keeps old (sym same ∙ at))

-- An insert.

-- what was chosen for a new version is the number of the target
goes-chosen : (h h1 : HeapView) (size : ℕ) (target : Target) → IsChosen h size (Some target) → SamePages h.pages h1.pages → GoesTo h size (target_number h1.pages.pages target)
goes-chosen h h1 size (Page n) chosen same = GoesTo.to_page chosen
goes-chosen h h1 size (New page) chosen same = GoesTo.to_new chosen (ap (λ (ps : List PageView). length ps) same.pages)

pub inserts : (h h1 h' : HeapView) (own own' : Own) (row : Row) (x : ℕ) (target : Target) → ¬ NeedsFreeze h.statuses own
    → IsChosen h (rounded_size_of row) (Some target) → SamePages h.pages h1.pages → SameEntries h.indexes h1.indexes
    → TakesIds h.statuses h'.statuses own own' x → PutsRoot h1 h' false x row (target_number h1.pages.pages target) → h'.max_pages ≡ h.max_pages → Inserts h h' own own' row x
inserts h h1 h' own own' row x target free chosen same entries takes root max_pages =
    let number = target_number h1.pages.pages target in
    record {
      free = free;
      takes_ids = takes;
      number = number;
      goes_to = goes-chosen h h1 (rounded_size_of row) target chosen same;
      root = root-grown h h1 h' false x row number (grown-none h h1 number same.pages same.marks entries) root;
      max_pages = max_pages;
    }

-- An update by a root.

pub puts-other : (pages pages' : PagesView) (n m : ℕ) (page : PageView) → m < length pages.pages → m ≢ n → PutsPage pages pages' n page → page_in pages'.pages m ≡ page_in pages.pages m
puts-other pages pages' n m page within other (in_use lt is marks) = ap (λ ps. page_in ps m) is ∙ page-set_other pages.pages n m page other
puts-other pages pages' n m page within other (after_all over is marks) = ap (λ ps. page_in ps m) is ∙ get_or_append_left pages.pages (page ∷ []) unused_page m within

puts-same : (pages pages' : PagesView) (n : ℕ) (page : PageView) → n < length pages.pages → PutsPage pages pages' n page → page_in pages'.pages n ≡ page
puts-same pages pages' n page within (in_use lt is marks) = ap (λ ps. page_in ps n) is ∙ page-set pages.pages n page within
puts-same pages pages' n page within (after_all over is marks) = absurd (let no : 1 ≤ 0 = omega (arith, within, over) in omega (arith, no))

-- a version goes to another page than one that has no room for it
pub goes-elsewhere : (h : HeapView) (place : Tid) (size : ℕ) (target : Target) → VersionIsThere h place → room_of (page_on h place.page).slots < size
    → IsChosen h size (Some target) → (target_number h.pages.pages target ≢ place.page) × GoesTo h size (target_number h.pages.pages target)
goes-elsewhere h place size (Page n) there full chosen = (
  λ same. let room = (page-place h.pages.pages h.max_pages size n chosen).1 in
      let here : size ≤ room_of (page_on h place.page).slots = subst (λ m. size ≤ room_of (page_on h m).slots) same room in let no : 1 ≤ 0 = omega (arith, here, full) in omega (arith, no),
  GoesTo.to_page chosen,
)
goes-elsewhere h place size (New page) there full chosen = (
  λ same. let within = there-within h place there in let no : 1 ≤ 0 = omega (arith, same, within) in omega (arith, no),
  GoesTo.to_new chosen refl,
)

-- the update of a version whose page has no room for the row
pub replaces-elsewhere : (h h' : HeapView) (place : Tid) (x : ℕ) (row : Row) (target : Target) → VersionIsThere h place → room_of (page_on h place.page).slots < rounded_size_of row
    → IsChosen h (rounded_size_of row) (Some target) → ColdUpdates h h' place x row (target_number h.pages.pages target) → Replaces h h' place x row
replaces-elsewhere h h' place x row target there full chosen replaces =
    let goes = goes-elsewhere h place (rounded_size_of row) target there full chosen in
    elsewhere full (target_number h.pages.pages target) goes.0 goes.1 replaces

-- a session's write takes the version at a place away on its page, of which nothing is noted any more
abbrev pub WritesXmax : PageView → PageView → Tid → Tid → ℕ → Type 0
WritesXmax before after place successor x = PutsXmax (record before { flag = false }) after place.slot x successor false

pub moves : (h h1 middle h' : HeapView) (place successor : Tid) (x : ℕ) (row : Row) (target : Target) (before after : PageView)
    → h1.pages ≡ h.pages → h1.indexes ≡ h.indexes → PutsRoot h1 middle true x row successor.page
    → successor.page ≡ target_number h1.pages.pages target → successor.slot ≡ free_number (page_on h1 successor.page).slots
    → slice_get middle.pages.pages place.page ≡ Some before → WritesXmax before after place successor x
    → h'.pages.pages ≡ set middle.pages.pages place.page after → h'.pages.marks ≡ set middle.pages.marks place.page Nothing → h'.indexes ≡ middle.indexes → ColdUpdates h h' place x row (target_number h.pages.pages target)
moves h h1 middle h' place successor x row target before after same_pages same_indexes root page slot at away pages marks indexes =
    let same = ap (λ (p : PagesView). p.pages) same_pages in
    let number : successor.page ≡ target_number h.pages.pages target = page ∙ ap (λ ps. target_number ps target) same in
    let free : successor.slot ≡ free_number (page_on h successor.page).slots = slot ∙ ap (λ (p : PagesView). free_number (page_in p.pages successor.page).slots) same_pages in
    let grown = grown-none h h1 successor.page same (ap (λ (p : PagesView). p.marks) same_pages) (same-entries h.indexes h1.indexes same_indexes) in
    let is = page-at middle.pages.pages place.page before at in
    let T : PageView → Tid → Type 0 = λ page to. WritesXmax page after place to x in
    let moved : T (page_on middle place.page) (record { page = successor.page; slot = free_number (page_on h successor.page).slots }) =
    subst (λ page. T page (record { page = successor.page; slot = free_number (page_on h successor.page).slots })) (sym is) (subst (λ n. T before (record { page = successor.page; slot = n })) free away) in
    subst (λ n. ColdUpdates h h' place x row n) number (record {
      middle = middle;
      root = root-grown h h1 middle true x row successor.page grown root;
      away = record {
        put = record {
          page = after;
          puts = in_use (slice_get_within middle.pages.pages place.page before at) pages marks;
          slots = moved.slots;
          change = moved.change;
          flag = moved.flag;
        };
        entries = same-entries middle.indexes h'.indexes indexes;
      };
    })

pub puts-within : (pages pages' : PagesView) (n m : ℕ) (page : PageView) → m < length pages.pages → PutsPage pages pages' n page → m < length pages'.pages
puts-within pages pages' n m page within (in_use lt is marks) = let long = ap length is ∙ length-set pages.pages n page in omega (arith, long, within)
puts-within pages pages' n m page within (after_all over is marks) = let long = ap length is ∙ length-append pages.pages (page ∷ []) in omega (arith, long, within)

-- the old version is still there when the new one has come
pub stays-there : (h h1 middle : HeapView) (place : Tid) (x : ℕ) (row : Row) (n : ℕ) (before : PageView)
    → h1.pages ≡ h.pages → VersionIsThere h place → PutsRoot h1 middle true x row n → slice_get middle.pages.pages place.page ≡ Some before → IsNormalAt before.slots place.slot
stays-there h h1 middle place x row n before same_pages there root at =
    let there_1 : VersionIsThere h1 place = subst (λ (p : PagesView). IsNormalAt (page_in p.pages place.page).slots place.slot) (sym same_pages) there in
    let within = there-within h1 place there_1 in
    let is : page_on middle place.page ≡ before = page-at middle.pages.pages place.page before at in
    elim (cases_eq place.page n) [
      | inl here ↦
          let now : page_on middle place.page ≡ root.put.page = ap (λ m. page_in middle.pages.pages m) here
          ∙ puts-same h1.pages middle.pages n root.put.page (subst (λ m. m < length h1.pages.pages) here within) root.put.puts in
          let added = subst (λ slots. IsNormalAt slots place.slot) (sym root.put.slots)
          (normal-added (page_on h1 n).slots place.slot _ (subst (λ m. IsNormalAt (page_on h1 m).slots place.slot) here there_1)) in
          subst (λ (p : PageView). IsNormalAt p.slots place.slot) (sym now ∙ is) added
      | inr other ↦
          let kept = puts-other h1.pages middle.pages n place.page root.put.page within other root.put.puts in
          subst (λ (p : PageView). IsNormalAt p.slots place.slot) (sym kept ∙ is) there_1
    ]

-- An update on the page.

pub replaces-here : (h h' : HeapView) (place : Tid) (x : ℕ) (row : Row) (before after : PageView) → slice_get h.pages.pages place.page ≡ Some before
    → AddsToPage (record before { flag = false }) after (with_updated before.slots place.slot x place.page row)
    (replaced_change before.slots place.slot x place.page (free_number before.slots) true (next_change before.change))
    → free_number before.slots ≤ 291
    → h'.pages.pages ≡ set h.pages.pages place.page after → h'.pages.marks ≡ set h.pages.marks place.page Nothing → SameEntries h.indexes h'.indexes → HotUpdates h h' place x row
replaces-here h h' place x row before after at adds within pages marks entries =
    let same : before ≡ page_on h place.page = sym (page-at h.pages.pages place.page before at) in
    record {
      put = record {
        page = after;
        puts = in_use (slice_get_within h.pages.pages place.page before at) pages marks;
        slots = subst (λ (p : PageView). after.slots ≡ with_updated p.slots place.slot x place.page row) same adds.slots;
        change = subst (λ (p : PageView). after.change ≡ replaced_change p.slots place.slot x place.page (free_number p.slots) true (next_change p.change)) same adds.change;
        flag = adds.flag;
      };
      within = subst (λ (p : PageView). free_number p.slots ≤ 291) same within;
      entries = entries;
    }

-- A delete.

pub deletes : (h h' : HeapView) (own own' : Own) (place : Tid) (x : ℕ) (before after : PageView) → ¬ NeedsFreeze h.statuses own → TakesIds h.statuses h'.statuses own own' x
    → VersionIsThere h place → slice_get h.pages.pages place.page ≡ Some before → WritesXmax before after place place x
    → h'.pages.pages ≡ set h.pages.pages place.page after → h'.pages.marks ≡ set h.pages.marks place.page Nothing → SameEntries h.indexes h'.indexes → h'.max_pages ≡ h.max_pages → Deletes h h' own own' place x
deletes h h' own own' place x before after free takes there at away pages marks entries max_pages =
    let moved : WritesXmax (page_on h place.page) after place place x = subst (λ page. WritesXmax page after place place x) (sym (page-at h.pages.pages place.page before at)) away in
    record {
      free = free;
      takes_ids = takes;
      there = there;
      away = record {
        put = record {
          page = after;
          puts = in_use (slice_get_within h.pages.pages place.page before at) pages marks;
          slots = moved.slots;
          change = moved.change;
          flag = moved.flag;
        };
        entries = entries;
      };
      max_pages = max_pages;
    }
