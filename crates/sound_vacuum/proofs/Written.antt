-- What is noted of pages, where the steps between those of a vacuum change them.
use Rattle.std.proofs.Common.{◌≡◌, ℕ, Bool, true, false, List, [], ◌∷◌, ◌++◌, ◌≤◌, sym, ap, ◌∙◌, subst}
use Rattle.std.specs.Prelude.{slice_set}
use Rattle.std.proofs.lemmas.List.{length-set, set-set}
use Rattle.xid_circle.specs.declared.Tid.{Tid}
use Rattle.tuple_header.specs.Version.{rounded_size_of}
use Rattle.tuple_header.specs.declared.version.Row.{Row}
use Rattle.page_slots.specs.View.{PageView}
use Rattle.page_sheet.specs.declared.slot.Slot.{Slot}
use Rattle.commit_status.specs.Window.{Window, IsWindow, IsUpToNext, turns}
use Rattle.snapshot.specs.Own.{Own}
use Rattle.space_maps.specs.declared.mark.Mark.{Mark}
use Rattle.space_maps.specs.declared.mark.Mark.TheVariants.{Nothing}
use Rattle.space_maps.specs.View.{mark_on}
use Rattle.heap_pages.specs.View.{PagesView}
use Rattle.freeze.specs.AllVisible.{IsTrueMark}
use Rattle.freeze.specs.Visiting.{SettlesOn}
use Rattle.freeze.proofs.Visiting.{true-on}
use Rattle.heap_write.specs.Heap.{HeapView, Keeps, PutsPage}
use Rattle.write_ids.specs.Ids.{SameIds}
use Rattle.heap_write.specs.Writes.{PutsRoot, SetsXmax, ColdUpdates, UpdatesOnPage, Replaces, PrunesIfFull}
use Rattle.heap_write.specs.Refusals.{FailsUpdate}
use Rattle.heap_write.specs.declared.heap.WriteFault.{WriteFault}
use Rattle.heap_write.specs.declared.heap.WriteFault.TheVariants as fault
use Rattle.write_ids.proofs.IdLemmas.{same-status, same-ids, same-back}
use Rattle.table_integrity.proofs.Places.{free_place}
use Rattle.sound_vacuum.specs.Maps.{MapsAreTrue, flagged_as}
use Rattle.sound_vacuum.specs.Cleaning.{IsNoVisit}
use Rattle.sound_vacuum.specs.Between.{StepsBetween}
use Rattle.sound_vacuum.proofs.Cleaned.{pruned-maps, applied-maps}
use Rattle.sound_vacuum.proofs.LaterMaps.{later-of, added-maps}
use Rattle.sound_vacuum.proofs.Noted.{noted-true}
use Rattle.sound_vacuum.proofs.OnePage.{set-here, set-other}

ids-on : (w v : Window) (horizon : ℕ) (slots : List Slot) → SameIds w v → SettlesOn w v horizon horizon slots
ids-on w v horizon slots same = record {
  committed = λ n t at thawed done. same-status w v t.header.xmin.0 same ∙ done;
  past = λ x done before. before;
}

pub ids-true : (w v : Window) (horizon : ℕ) (pages : List PageView) (marks : List Mark) → SameIds w v → MapsAreTrue w horizon pages marks → MapsAreTrue v horizon pages marks
ids-true w v horizon pages marks same t = record {
  count = t.count;
  true_marks = λ n page at. true-on w v horizon horizon page.slots (ids-on w v horizon page.slots same) (mark_on marks n) (t.true_marks n page at);
  true_flags = t.true_flags;
}

-- What is so of the pages of a table and their marks, while nothing becomes of ids.

module _ (w : Window) (horizon : ℕ) where
  abbrev AreTrue : HeapView → Type 0
  AreTrue h = MapsAreTrue w horizon h.pages.pages h.pages.marks

  nothing-true : (slots : List Slot) → IsTrueMark w horizon slots Nothing
  nothing-true slots = record { visible = λ e. absurd (cc e); frozen = λ e. absurd (cc e) }

  puts-true : (p p' : PagesView) (n : ℕ) (page : PageView) → page.flag ≡ false → PutsPage p p' n page → MapsAreTrue w horizon p.pages p.marks → MapsAreTrue w horizon p'.pages p'.marks
  puts-true p p' n page unflagged (PutsPage.in_use within is marks) t =
      let q = flagged_as Nothing page in
      let same : page ≡ q = ap (λ f. record page { flag = f }) unflagged in
      noted-true w horizon n p.pages (slice_set p.pages n page) p'.pages p.marks p'.marks page Nothing t
      (record { count = length-set p.pages n page; others = λ m off. set-other p.pages n m page off })
      (record { at = set-here p.pages n page within; flagged = is ∙ ap (slice_set p.pages n) same ∙ sym (set-set p.pages n page q); marked = marks })
      (nothing-true page.slots)
  puts-true p p' n page unflagged (PutsPage.after_all end is marks) t =
      subst (λ ps. MapsAreTrue w horizon ps p'.marks) (sym is)
      (subst (λ ms. MapsAreTrue w horizon (p.pages ++ page ∷ []) ms) (sym marks) (added-maps w horizon p.pages p.marks page unflagged t))

  root-true : (h h' : HeapView) (updated : Bool) (x : ℕ) (row : Row) (n : ℕ) → PutsRoot h h' updated x row n → AreTrue h → AreTrue h'
  root-true h h' updated x row n r t = puts-true h.pages h'.pages n r.put.page r.put.flag r.put.puts t

  away-true : (h h' : HeapView) (place : Tid) (x : ℕ) (successor : Tid) → SetsXmax h h' place x successor → AreTrue h → AreTrue h'
  away-true h h' place x successor a t = puts-true h.pages h'.pages place.page a.put.page a.put.flag a.put.puts t

  cold-true : (h h' : HeapView) (place : Tid) (x : ℕ) (row : Row) (n : ℕ) → ColdUpdates h h' place x row n → AreTrue h → AreTrue h'
  cold-true h h' place x row n r t = away-true r.middle h' place x (free_place h n) r.away (root-true h r.middle true x row n r.root t)

  replaces-true : (h h' : HeapView) (place : Tid) (x : ℕ) (row : Row) → Replaces h h' place x row → AreTrue h → AreTrue h'
  replaces-true h h' place x row (Replaces.on_page room (UpdatesOnPage.heap_only values a)) t = puts-true h.pages h'.pages place.page a.put.page a.put.flag a.put.puts t
  replaces-true h h' place x row (Replaces.on_page room (UpdatesOnPage.as_root changed r)) t = cold-true h h' place x row place.page r t
  replaces-true h h' place x row (Replaces.elsewhere room n off goes r) t = cold-true h h' place x row n r t

  kept-true : (h h' : HeapView) → Keeps h h' → AreTrue h → AreTrue h'
  kept-true h h' k t =
      subst (λ (pages : List PageView). MapsAreTrue w horizon pages h'.pages.marks) (sym k.pages)
      (subst (λ (marks : List Mark). MapsAreTrue w horizon h.pages.pages marks) (sym k.marks) t)

  readied-true : (h h' : HeapView) (place : Tid) (later size : ℕ) → SameIds w h.statuses → PrunesIfFull h h' place later size → AreTrue h → AreTrue h'
  readied-true h h' place later size ids (PrunesIfFull.has_room room is) t = subst AreTrue (sym is) t
  readied-true h h' place later size ids (PrunesIfFull.is_left full goes keeps) t = kept-true h h' keeps t
  readied-true h h' place later size ids (PrunesIfFull.is_pruned full grown keeps prunes) t =
      let same : SameIds w grown.statuses = record {
        first = keeps.statuses.first ∙ ids.first;
        stop_age = keeps.statuses.stop_age ∙ ids.stop_age;
        entries = keeps.statuses.entries ∙ ids.entries;
      } in
      let statuses : h'.statuses ≡ grown.statuses = ap (λ (g : HeapView). g.statuses) prunes.is in
      let marks : h'.pages.marks ≡ grown.pages.marks = ap (λ (g : HeapView). g.pages.marks) prunes.is in
      let pruned = pruned-maps grown h' grown.pages.marks place.page later horizon (ids-true w grown.statuses horizon grown.pages.pages grown.pages.marks same (kept-true h grown keeps t)) prunes in
      ids-true grown.statuses w horizon h'.pages.pages h'.pages.marks (same-back w grown.statuses same)
      (subst (λ ms. MapsAreTrue grown.statuses horizon h'.pages.pages ms) (sym marks) (subst (λ v. MapsAreTrue v horizon h'.pages.pages grown.pages.marks) statuses pruned))

  failed-true : (h h' : HeapView) (own : Own) (place : Tid) (row : Row) (later : ℕ) (fault : WriteFault) → SameIds w h.statuses → FailsUpdate h h' own place row later fault → AreTrue h → AreTrue h'
  failed-true h h' own place row later fault.NeedsFreeze ids f t = kept-true h h' f.1 t
  failed-true h h' own place row later fault.NoRoom ids f t = kept-true f.ready h' f.keeps (readied-true h f.ready place later (rounded_size_of row) ids f.readies t)
  failed-true h h' own place row later fault.NoMemory ids f t = kept-true h h' f.2 t

-- by the ids as they were before the step
pages-true : (h h' : HeapView) (horizon : ℕ) (step : StepsBetween h h') → IsNoVisit step → MapsAreTrue h.statuses horizon h.pages.pages h.pages.marks → MapsAreTrue h.statuses horizon h'.pages.pages h'.pages.marks
pages-true h h' horizon (StepsBetween.inserts own own' row x writer i) none t = root-true h.statuses horizon h h' false x row i.number i.root t
pages-true h h' horizon (StepsBetween.updates own own' place row later x writer u) none t =
    replaces-true h.statuses horizon u.ready h' place x row u.replaces (readied-true h.statuses horizon h u.ready place later (rounded_size_of row) (same-ids h.statuses) u.readies t)
pages-true h h' horizon (StepsBetween.deletes own own' place x writer d) none t = away-true h.statuses horizon h h' place x place d.away t
pages-true h h' horizon (StepsBetween.fails_update own place row later fault f) none t = failed-true h.statuses horizon h h' own place row later fault (same-ids h.statuses) f t
pages-true h h' horizon (StepsBetween.keeps k) none t = kept-true h.statuses horizon h h' k t
pages-true h h' horizon (StepsBetween.finishes ids status f) none t = subst (λ (p : PagesView). MapsAreTrue h.statuses horizon p.pages p.marks) (sym f.pages) t
pages-true h h' horizon (StepsBetween.prunes number later p) none t =
    subst (λ ms. MapsAreTrue h.statuses horizon h'.pages.pages ms) (sym (ap (λ (g : HeapView). g.pages.marks) p.is))
    (subst (λ v. MapsAreTrue v horizon h'.pages.pages h.pages.marks) (ap (λ (g : HeapView). g.statuses) p.is) (pruned-maps h h' h.pages.marks number later horizon t p))
pages-true h h' horizon (StepsBetween.applies number later change actions a) none t =
    subst (λ ms. MapsAreTrue h.statuses horizon h'.pages.pages ms) (sym (ap (λ (g : HeapView). g.pages.marks) a.is))
    (subst (λ v. MapsAreTrue v horizon h'.pages.pages h.pages.marks) (ap (λ (g : HeapView). g.statuses) a.is)
    (applied-maps h h' h.pages.marks number later change actions horizon t a))
pages-true h h' horizon (StepsBetween.visits later cutoff p v) none t = absurd none

pub steps-true : (h h' : HeapView) (horizon later : ℕ) (step : StepsBetween h h') → IsNoVisit step → IsWindow h.statuses → IsWindow h'.statuses → IsUpToNext h.statuses horizon → IsUpToNext h'.statuses later
    → turns h.statuses.first horizon ≤ turns h.statuses.first later → MapsAreTrue h.statuses horizon h.pages.pages h.pages.marks → MapsAreTrue h'.statuses later h'.pages.pages h'.pages.marks
steps-true h h' horizon later step none is is' upto upto' on t =
    later-of h h' horizon later step is is' upto upto' on h'.pages.pages h'.pages.marks (pages-true h h' horizon step none t)
