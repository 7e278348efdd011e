-- The steps of a vacuum, one by one.
use Rattle.std.proofs.Common.{◌≡◌, ℕ, ◌≤◌, ◌==◌, true, List, length, Option, arith, refl, sym, ap, ◌∙◌, subst}
use Rattle.std.specs.Prelude.{Contains, slice_set}
use Rattle.std.specs.Option.{option_and_then}
use Rattle.std.proofs.lemmas.List.{length-set}
use Rattle.xid_circle.specs.Circle.{Precedes}
use Rattle.xid_circle.specs.declared.Tid.{Tid}
use Rattle.page_sheet.specs.Slots.{version_of}
use Rattle.commit_status.specs.Window.{Window, IsActive, turns}
use Rattle.commit_status.proofs.Places.{precedes-turns, upto-given}
use Rattle.snapshot.specs.Snap.{Snap}
use Rattle.space_maps.specs.declared.mark.Mark.{Mark}
use Rattle.space_maps.specs.View.{says_visible, says_frozen}
use Rattle.freeze.specs.Laws.{IsCutoff}
use Rattle.index_entries.specs.declared.entry.Entry.{Entry}
use Rattle.index_lookup.specs.Pages.{slots_on, slot_in, version_in}
use Rattle.index_lookup.proofs.PageLists.{slots-there}
use Rattle.sound_entries.proofs.Going.{stays-same}
use Rattle.heap_write.specs.Heap.{HeapView, slots_of}
use Rattle.table_integrity.specs.Table.{SoundTable, StaysSoundTable}
use Rattle.table_integrity.specs.Readers.{IsTableReader, FindsTheSame}
use Rattle.table_integrity.proofs.Finding.{both}
use Rattle.table_integrity.proofs.InUse.{used-by, same-come, stays-then}
use Rattle.calls.specs.declared.vacuum.Mode.{Mode}
use Rattle.calls.specs.declared.vacuum.Mode.TheVariants.{Normal, Aggressive}
use Rattle.freeze.proofs.Marks.{frozen-visible}
use Rattle.root_index.specs.declared.progress.Progress.{Progress}
use Rattle.vacuum_passes.specs.View.{VacuumView, skips}
use Rattle.vacuum_passes.specs.Visits.{Visits}
use Rattle.heap_write.specs.Cleaning.{Notes, SweepsAt}
use Rattle.vacuum_passes.specs.Steps.{Frees}
use Rattle.vacuum_passes.proofs.ListLemmas.{in-filtered, in-mapping}
use Rattle.sound_vacuum.specs.Maps.{MapsAreTrue}
use Rattle.sound_vacuum.specs.Noting.{FlagsAt, IsSameTable}
use Rattle.sound_vacuum.specs.Sweeping.{AreDead}
use Rattle.table_indexes.proofs.IndexLemmas.{same-entries}
use Rattle.sound_vacuum.specs.Indexes.{AllAreSwept}
use Rattle.sound_vacuum.specs.Vacuuming.{CanVacuum, KeepsVacuum, IsSafe}
use Rattle.sound_vacuum.proofs.Collected.{swept-unled, swept-stays-table, swept-unseen}
use Rattle.sound_vacuum.proofs.FreedTables.{frees-table, freed-stays-table, freed-reader-table, freed-unseen}
use Rattle.sound_vacuum.proofs.Visited.{visited-stays-table, visited-unseen}
use Rattle.sound_vacuum.proofs.Flagged.{slots-same, flagged-same, flagged-stays, flagged-reader, flagged-unseen, visited-maps, freed-maps}

-- Ids.

module _ (h : HeapView) (horizon : ℕ) (v : VacuumView) (can : CanVacuum h horizon) (keeps : KeepsVacuum h horizon v) where
  pub first-cutoff : IsCutoff h.statuses v.horizon horizon
  first-cutoff = record { window = can.window; cutoff_upto = keeps.first; horizon_upto = can.upto; low = keeps.horizon_first }

  pub the-cutoff : IsCutoff h.statuses v.cutoff horizon
  the-cutoff = record {
    window = can.window;
    cutoff_upto = keeps.cutoff;
    horizon_upto = can.upto;
    low = let a = keeps.cutoff_first in let b = keeps.horizon_first in omega (arith, a, b);
  }

  -- ids in progress are neither before the horizon of its beginning nor before the cutoff
  pub active-late : (x : ℕ) → IsActive h.statuses x → ¬ Precedes x v.horizon
  active-late x active before =
      let lt = (precedes-turns h.statuses x v.horizon can.window (upto-given h.statuses x active.is_given) keeps.first).0 before in
      let a = can.earliest x active in
      let b = keeps.horizon_first in
      absurd (omega (arith, lt, a, b))

  pub active-young : (x : ℕ) → IsActive h.statuses x → turns h.statuses.first v.cutoff ≤ turns h.statuses.first x
  active-young x active = let a = can.earliest x active in let b = keeps.horizon_first in let c = keeps.cutoff_first in omega (arith, a, b, c)

-- Marks.

pub skipped-visible : (mode : Mode) (mark : Mark) → skips mode mark ≡ true → says_visible mark ≡ true
skipped-visible Normal mark e = e
skipped-visible Aggressive mark e = frozen-visible mark e

pub skipped-frozen : (mode : Mode) (mark : Mark) → mode ≡ Aggressive → skips mode mark ≡ true → says_frozen mark ≡ true
skipped-frozen mode mark is e = sym (ap (λ m. skips m mark) is) ∙ e

-- What is so of a page is noted.

module _ (h h' : HeapView) (p horizon : ℕ) (n : Notes h h' p horizon) where
  pub notes-flag : FlagsAt h h' p n.mark
  notes-flag = record {
    page = n.page;
    at = n.at;
    pages = ap (λ (g : HeapView). g.pages.pages) n.is;
    statuses = ap (λ (g : HeapView). g.statuses) n.is;
    indexes = ap (λ (g : HeapView). g.indexes) n.is;
  }

  pub notes-marks : h'.pages.marks ≡ slice_set h.pages.marks p n.mark
  notes-marks = ap (λ (g : HeapView). g.pages.marks) n.is

  pub notes-same : IsSameTable h h'
  notes-same = flagged-same h h' p n.mark notes-flag

  pub notes-slots : (m : ℕ) → slots_on (slots_of h') m ≡ slots_on (slots_of h) m
  notes-slots m = slots-same h h' p n.mark notes-flag m

  pub notes-version : (q : Tid) → version_in (slots_of h') q ≡ version_in (slots_of h) q
  notes-version q = ap (option_and_then version_of) (notes-same.slots q)

  pub notes-count : length h'.pages.pages ≡ length h.pages.pages
  notes-count = ap (λ (g : HeapView). length g.pages.pages) n.is ∙ length-set h.pages.pages p _

  -- the slots of the page
  pub notes-page : slots_on (slots_of h) p ≡ n.page.slots
  notes-page = slots-there h.pages.pages p n.page n.at

  pub then-noted : (g : HeapView) → SoundTable g → g.statuses ≡ h.statuses → (same : h.indexes ≡ g.indexes) → StaysSoundTable g h
      → ((s : Snap) (own : List ℕ) → IsTableReader g horizon s own → IsTableReader h horizon s own × FindsTheSame g h s own)
      → MapsAreTrue h.statuses horizon h'.pages.pages h'.pages.marks → IsSafe g h' horizon
  then-noted g sound ids same stays unseen maps = record {
    ids = notes-flag.statuses ∙ sym ids;
    table = stays-then g h h' sound (same-come g.indexes h.indexes (same-entries g.indexes h.indexes same)) stays
        (flagged-stays h h' p n.mark notes-flag stays.sound);
    maps = subst (λ (w : Window). MapsAreTrue w horizon h'.pages.pages h'.pages.marks) (sym notes-flag.statuses) maps;
    unseen = λ s own reader.
        let first = unseen s own reader in
        (flagged-reader h h' p n.mark notes-flag horizon s own first.0, λ q r. both (first.1 q r) (flagged-unseen h h' p n.mark notes-flag s own q r));
  }

-- A visit.

module _ (h h' : HeapView) (v v' : VacuumView) (horizon p : ℕ) (can : CanVacuum h horizon) (keeps : KeepsVacuum h horizon v) (visit : Visits h h' v v' horizon p) where
  pub visit-table : visit.visited.statuses ≡ h.statuses
  visit-table = ap (λ (g : HeapView). g.statuses) visit.visits.freezes.is ∙ ap (λ (g : HeapView). g.statuses) visit.visits.prunes.is

  visit-indexes : visit.visited.indexes ≡ h.indexes
  visit-indexes = ap (λ (g : HeapView). g.indexes) visit.visits.freezes.is ∙ ap (λ (g : HeapView). g.indexes) visit.visits.prunes.is

  pub visit-marks : visit.visited.pages.marks ≡ h.pages.marks
  visit-marks = ap (λ (g : HeapView). g.pages.marks) visit.visits.freezes.is ∙ ap (λ (g : HeapView). g.pages.marks) visit.visits.prunes.is

  pub visit-safe : IsSafe h h' horizon
  visit-safe = then-noted visit.visited h' p horizon visit.notes h can.sound (sym visit-table) visit-indexes
      (visited-stays-table h visit.visited horizon v.cutoff p visit.visits can.sound (the-cutoff h horizon v can keeps))
      (λ s own reader. visited-unseen h visit.visited horizon v.cutoff p visit.visits can.sound (the-cutoff h horizon v can keeps) s own reader)
      (visited-maps h visit.visited horizon v.cutoff p h'.pages.pages h.pages.marks h'.pages.marks visit.notes.page visit.notes.mark can.maps visit.visits
      (record {
        at = visit.notes.at;
        flagged = ap (λ (g : HeapView). g.pages.pages) visit.notes.is;
        marked = notes-marks visit.visited h' p horizon visit.notes ∙ ap (λ (ms : List Mark). slice_set ms p visit.notes.mark) visit-marks;
      })
      visit.notes.exact)

-- A piece of an index.

module _ (h h' : HeapView) (i : ℕ) (dead : List Tid) (from : Option Entry) (progress : Progress) (s : SweepsAt h h' i dead from progress) where
  pub sweep-table : h'.statuses ≡ h.statuses
  sweep-table = ap (λ (g : HeapView). g.statuses) s.is

  pub sweep-pages : h'.pages ≡ h.pages
  sweep-pages = ap (λ (g : HeapView). g.pages) s.is

  pub sweep-safe : (horizon : ℕ) → CanVacuum h horizon → AreDead (slots_of h) dead → IsSafe h h' horizon
  sweep-safe horizon can are = record {
    ids = sweep-table;
    table = swept-stays-table h h' i dead from progress s can.sound are;
    maps = subst (λ (g : HeapView). MapsAreTrue g.statuses horizon g.pages.pages g.pages.marks) (sym s.is) can.maps;
    unseen = λ snap own reader. (
      subst (λ (g : HeapView). IsTableReader g horizon snap own) (sym s.is) reader,
      swept-unseen h h' i dead from progress s snap own,
    );
  }

-- Slots become unused.

module _ (h h' : HeapView) (v v' : VacuumView) (horizon p : ℕ) (can : CanVacuum h horizon) (f : Frees h h' v v' horizon p) where
  -- each of them was collected
  pub freed-collected : (k : ℕ) → Contains f.numbers k → Contains v.store (record { page = p; slot = k })
  freed-collected k named = in-filtered (λ (t : Tid). t.page == p) v.store (record { page = p; slot = k })
      (subst (λ l. Contains l (record { page = p; slot = k })) (sym f.are) (in-mapping (λ n. record { page = p; slot = n }) f.numbers k named))

  pub free-table : f.freed.statuses ≡ h.statuses
  free-table = frees-table h f.freed p f.numbers f.frees

  pub free-marks : f.freed.pages.marks ≡ h.pages.marks
  free-marks = ap (λ (g : HeapView). g.pages.marks) f.frees.is

  pub free-safe : AllAreSwept h v.store → IsSafe h h' horizon
  free-safe swept = then-noted f.freed h' p horizon f.notes h can.sound (sym free-table) (ap (λ (g : HeapView). g.indexes) f.frees.is)
      (freed-stays-table h f.freed p f.numbers f.frees can.sound (swept-unled h v.store p f.numbers swept freed-collected))
      (λ s own reader. (freed-reader-table h f.freed p f.numbers f.frees horizon s own reader, freed-unseen h f.freed p f.numbers f.frees s own))
      (freed-maps h f.freed horizon p f.numbers h'.pages.pages h.pages.marks h'.pages.marks f.notes.page f.notes.mark can.maps f.frees
      (record {
        at = f.notes.at;
        flagged = ap (λ (g : HeapView). g.pages.pages) f.notes.is;
        marked = notes-marks f.freed h' p horizon f.notes ∙ ap (λ (ms : List Mark). slice_set ms p f.notes.mark) free-marks;
      })
      f.notes.exact)

-- Nothing.
pub same-safe : (h h' : HeapView) (horizon : ℕ) → CanVacuum h horizon → h' ≡ h → IsSafe h h' horizon
same-safe h h' horizon can is = subst (λ (g : HeapView). IsSafe h g horizon) (sym is) (record {
  ids = refl;
  table = record { sound = can.sound; in_use = λ n. (λ u. u, λ u. u); since = λ n. refl; led = λ n e there among. stays-same (slot_in (slots_of h) e.tid) ((can.sound.indexes n (used-by h.indexes n e there)).leads e there) };
  maps = can.maps;
  unseen = λ s own reader. (reader, λ q r. (λ x. x, λ x. x));
})
