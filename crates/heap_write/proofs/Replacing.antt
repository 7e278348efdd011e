-- A version that may be replaced still may when there is more memory, and when the page was pruned and left it there.
use Rattle.std.proofs.Common.{◌≡◌, ℕ, ◌<◌, ◌≤◌, Bool, true, false, List, length, set, Some, slice_get, subst, sym, ap, ◌∙◌}
use Rattle.std.specs.Prelude.{IsFalse, IsTrue, ◌↔◌}
use Rattle.std.proofs.lemmas.Bool.{iff_false}
use Rattle.std.proofs.lemmas.List.{set-set}
use Rattle.std.proofs.lemmas.Option.{slice_get_within}
use Rattle.xid_circle.specs.declared.Tid.{Tid}
use Rattle.tuple_header.specs.declared.version.Row.{Row}
use Rattle.page_slots.specs.View.{PageView}
use Rattle.space_maps.specs.declared.mark.Mark.TheVariants.{Nothing}
use Rattle.page_sheet.specs.Slots.{room_of, free_number, next_change}
use Rattle.tuple_writes.specs.Writes.{with_updated, replaced_change, AddsToPage}
use Rattle.table_indexes.specs.Indexes.{SameEntries}
use Rattle.table_indexes.proofs.IndexLemmas.{entries-back}
use Rattle.snapshot.specs.Own.{Own}
use Rattle.prune_actions.specs.declared.Action.{Action}
use Rattle.prune.specs.Actions.{applied}
use Rattle.heap_write.specs.Heap.{HeapView, page_on, Keeps}
use Rattle.heap_write.specs.Writes.{KeepsValues, PrunesIfFull, HotUpdates}
use Rattle.write_ids.specs.Ids.{NeedsFreeze, NewestIsGiven, SameOwn}
use Rattle.heap_write.specs.Refusals.{VersionIsThere}
use Rattle.heap_write.specs.Steps.{IsReplaceable, IsPlanOn, IsPlanAround, with_applied}
use Rattle.heap_write.proofs.PageLemmas.{there-within, page-at}
use Rattle.heap_write.proofs.PlaceLemmas.{at-set}
use Rattle.heap_write.proofs.IdlePages.{kept-there}
use Rattle.heap_write.proofs.Plans.{planned-slots, stays-applied, applied-readies, applied-row, applied-unflagged}
use Rattle.heap_write.proofs.Writing.{values-on, replaces-here}

-- where the ids are tested, on a table that is seen as h
pub is-replaceable : {v h : HeapView} (own : Own) (place : Tid) (needs : Bool) → v ≡ h → NewestIsGiven h.statuses own → (IsTrue needs ↔ NeedsFreeze v.statuses own) → IsFalse needs
    → VersionIsThere h place → IsReplaceable h own place
is-replaceable own place needs seen newest says enough there = record {
  newest = newest;
  free = subst (λ (h : HeapView). ¬ NeedsFreeze h.statuses own) seen (iff_false says enough);
  there = there;
}

pub replaceable-kept : (h h1 : HeapView) (own own1 : Own) (place : Tid) → Keeps h h1 → SameOwn own own1 → IsReplaceable h own place → IsReplaceable h1 own1 place
replaceable-kept h h1 own own1 place keeps same may = record {
  newest = rw (keeps.statuses.first, keeps.statuses.entries, same.ids, same.saved) may.newest;
  free = rw (keeps.statuses.first, keeps.statuses.stop_age, keeps.statuses.entries, same.ids, same.saved) may.free;
  there = kept-there h h1 place keeps may.there;
}

-- What is so once the table has grown in memory, and the page is then pruned by a plan that leaves the version there.
pub record OncePruned (h grown ready : HeapView) (own' : Own) (place : Tid) (actions : List (ℕ × Action)) : Type 0 where
  pub within : place.page < length grown.pages.pages
  pub slots : (page_on ready place.page).slots ≡ (applied actions (page_on h place.page)).slots
  pub may : IsReplaceable ready own' place
  pub readies : (horizon size : ℕ) → room_of (page_on h place.page).slots < size → IsPlanOn h place.page horizon actions → PrunesIfFull h ready place horizon size
  pub statuses : ready.statuses ≡ grown.statuses
  pub max_pages : ready.max_pages ≡ grown.max_pages

pub once-pruned : {h grown : HeapView} {own own' : Own} {place : Tid} {actions : List (ℕ × Action)} (ready : HeapView) → Keeps h grown → SameOwn own own' → ready ≡ with_applied grown place.page actions
    → IsPlanAround h place actions → IsReplaceable h own place → OncePruned h grown ready own' place actions
once-pruned {h = h} {grown = grown} {own = own} {own' = own'} {place = place} {actions = actions} ready keeps same is around may =
    let kept = replaceable-kept h grown own own' place keeps same may in
    let within = there-within grown place kept.there in
    record {
      within = within;
      slots = planned-slots h grown ready place.page actions within keeps is;
      may = record {
        newest = subst (λ (v : HeapView). NewestIsGiven v.statuses own') (sym is) kept.newest;
        free = subst (λ (v : HeapView). ¬ NeedsFreeze v.statuses own') (sym is) kept.free;
        there = stays-applied h grown ready place actions within keeps is around.stays;
      };
      readies = λ horizon size full plan. applied-readies h grown ready place horizon size actions may.there full keeps is plan;
      statuses = ap (λ (v : HeapView). v.statuses) is;
      max_pages = ap (λ (v : HeapView). v.max_pages) is;
    }

-- the row has the values of the version there if it had them before
pub pruned-values : {h grown ready : HeapView} {own' : Own} {place : Tid} {actions : List (ℕ × Action)} (row : Row) → Keeps h grown → ready ≡ with_applied grown place.page actions
    → IsPlanAround h place actions → OncePruned h grown ready own' place actions → KeepsValues h place row ↔ KeepsValues ready place row
pruned-values {h = h} {grown = grown} {ready = ready} {place = place} {actions = actions} row keeps is around pruned =
    let same = applied-row h grown ready place actions pruned.within keeps around.planned is pruned.may.there in
    let entries : SameEntries h.indexes ready.indexes = subst (λ (v : HeapView). SameEntries h.indexes v.indexes) (sym is) keeps.entries in
    (λ kept. values-on h ready place row same entries kept, λ kept. values-on ready h place row (sym same) (entries-back h.indexes ready.indexes entries) kept)

-- A page changes once: actions are done on it, and then x replaces the version at a place by a heap-only one of this row.

abbrev pub UpdatesHere : PageView → PageView → Tid → ℕ → Row → Type 0
UpdatesHere page after place x row = AddsToPage page after (with_updated page.slots place.slot x place.page row)
    (replaced_change page.slots place.slot x place.page (free_number page.slots) true (next_change page.change))

pub replaces-pruned : (h h' : HeapView) (place : Tid) (x : ℕ) (row : Row) (actions : List (ℕ × Action)) (before after : PageView) → slice_get h.pages.pages place.page ≡ Some before
    → UpdatesHere (applied actions (record before { flag = false })) after place x row → free_number (applied actions (record before { flag = false })).slots ≤ 291
    → h'.pages.pages ≡ set h.pages.pages place.page after → h'.pages.marks ≡ set h.pages.marks place.page Nothing → SameEntries h.indexes h'.indexes
    → HotUpdates (with_applied h place.page actions) h' place x row
replaces-pruned h h' place x row actions before after at updates within pages marks entries =
    let n = place.page in
    let pruned = applied actions (page_on h n) in
    let same : applied actions (record before { flag = false }) ≡ record pruned { flag = false } =
    ap (λ (p : PageView). applied actions (record p { flag = false })) (sym (page-at h.pages.pages n before at)) ∙ applied-unflagged actions (page_on h n) in
    replaces-here (with_applied h n actions) h' place x row pruned after (at-set h.pages.pages n pruned (slice_get_within h.pages.pages n before at))
    (subst (λ (p : PageView). UpdatesHere p after place x row) same updates) (subst (λ (p : PageView). free_number p.slots ≤ 291) same within)
    (pages ∙ sym (set-set h.pages.pages n pruned after)) marks entries
