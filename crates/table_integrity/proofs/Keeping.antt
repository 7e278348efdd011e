-- Steps that write no row leave a table sound.
use Rattle.std.proofs.Common.{◌≡◌, ℕ, List, [], map, Option, refl, sym, ap, ◌∙◌, subst}
use Rattle.std.specs.Prelude.{Contains, slice_set}
use Rattle.xid_circle.specs.declared.Tid.{Tid}
use Rattle.tuple_header.specs.Version.{rounded_size_of}
use Rattle.tuple_header.specs.declared.version.Row.{Row}
use Rattle.commit_status.specs.declared.status.Status.TheVariants.{Committed, Aborted}
use Rattle.commit_status.specs.Window.{Window, IsWindow, IsActive}
use Rattle.commit_status.specs.Changes.{Gives}
use Rattle.prune.specs.Pruning.{IsPruned}
use Rattle.prune_actions.specs.declared.Action.{Action}
use Rattle.prune.specs.Actions.{applied}
use Rattle.prune.specs.Thinning.{IsThinned}
use Rattle.prune.proofs.Thinned.{thinned-sound}
use Rattle.prune.proofs.Thins.{checked-thins, pruned-thins}
use Rattle.sound_page.specs.Sound.{SoundPage}
use Rattle.tuple_writes.specs.Laws.{DeletedWhatWasMade, AloneDeletedTheirs}
use Rattle.tuple_writes.proofs.Statuses.{giving-sound, committing-sound, aborting-sound}
use Rattle.snapshot.specs.Own.{Own}
use Rattle.index_entries.specs.declared.entry.Entry.{Entry}
use Rattle.tuple_header.specs.IndexValue.{value_in}
use Rattle.index_lookup.specs.Pages.{slots_on, Puts}
use Rattle.sound_entries.specs.Entries.{SoundHeap, SoundEntries, EntriesAreSound, StaysSound}
use Rattle.sound_entries.proofs.Changes.{thinning-stays, heap-puts}
use Rattle.sound_entries.proofs.Finishing.{statuses-stay, giving-stays, committing-stays, aborting-stays}
use Rattle.sound_entries.proofs.Tables.{nothing-sound}
use Rattle.heap_pages.specs.View.{PagesView}
use Rattle.page_slots.specs.View.{PageView}
use Rattle.index_lookup.specs.Pages as lists
use Rattle.table_indexes.specs.Indexes.{entries_in, since_at, IsInUse, SameEntries}
use Rattle.table_indexes.proofs.IndexLemmas.{same-entries, entries-kept}
use Rattle.heap_write.specs.Heap.{HeapView, Keeps, slots_of}
use Rattle.write_ids.specs.Ids.{SameIds, TakesIds}
use Rattle.write_ids.proofs.IdLemmas.{same-back}
use Rattle.heap_write.specs.Writes.{PrunesIfFull, Prunes, Applies}
use Rattle.heap_write.specs.Refusals.{FailsUpdate}
use Rattle.heap_write.specs.declared.heap.WriteFault.{WriteFault}
use Rattle.heap_write.specs.declared.heap.WriteFault.TheVariants as fault
use Rattle.heap_write.proofs.PageLemmas.{slots-kept}
use Rattle.heap_write.proofs.Plans.{pruned-page}
use Rattle.table_integrity.specs.Table.{SoundTable, StaysSoundTable}
use Rattle.table_integrity.specs.Laws.{FinishesInTable}
use Rattle.table_integrity.proofs.Memory.{same-status, same-sound}
use Rattle.table_integrity.proofs.TakenIds.{under-keeps, takes-mine, takes-active}
use Rattle.table_integrity.proofs.Places.{BecomesPage, becomes-puts, prunes-becomes, prunes-on, applies-becomes, applies-on}
use Rattle.table_integrity.proofs.InUse.{OnlyCome, same-come, index-sound, same-stays, stays-then}

-- A page is pruned.

-- of each chain of one page a prefix goes that pruning would cut
thinned-stays : (h h' : HeapView) (number horizon : ℕ) (before page : PageView) → SoundTable h → BecomesPage h h' number before page
    → IsThinned h.statuses horizon (slots_on (slots_of h) number) page.slots → StaysSoundTable h h'
thinned-stays h h' number horizon before page s b thinned = subst (λ (g : HeapView). StaysSoundTable h g) (sym b.is)
    (same-stays h after (entries-kept h.indexes) (heap-puts h.statuses number (slots_of h) (slots_of after) page.slots s.heap puts
    (thinned-sound h.statuses horizon (slots_on (slots_of h) number) page.slots (s.heap number) thinned))
    (λ n used. thinning-stays (value_in n) (since_at h.indexes n) h.statuses horizon number (slots_of h) (slots_of after) (entries_in h.indexes n) page.slots (index-sound h s n used) thinned puts))
  where
    after : HeapView
    after = record h { pages = record h.pages { pages = slice_set h.pages.pages number page } }

    puts : Puts (slots_of h) (slots_of after) number page.slots
    puts = subst (λ (g : HeapView). Puts (slots_of h) (slots_of g) number page.slots) b.is (becomes-puts h h' number before page b)

pub pruned-stays : (h h' : HeapView) (number horizon : ℕ) → SoundTable h → Prunes h h' number horizon → StaysSoundTable h h'
pruned-stays h h' number horizon s p = thinned-stays h h' number horizon p.before p.after s (prunes-becomes h h' number horizon p)
    (pruned-thins h.statuses horizon (slots_on (slots_of h) number) p.after.slots
    (subst (λ slots. IsPruned h.statuses horizon slots p.after.slots) (sym (prunes-on h h' number horizon p)) (pruned-page h h' number horizon p)) (s.heap number))

pub applied-stays : (h h' : HeapView) (number horizon change : ℕ) (actions : List (ℕ × Action)) → SoundTable h → Applies h h' number horizon change actions → StaysSoundTable h h'
applied-stays h h' number horizon change actions s a =
    let on = applies-on h h' number horizon change actions a in
    let sound = subst (SoundPage h.statuses) on (s.heap number) in
    thinned-stays h h' number horizon a.before (applied actions a.before) s (applies-becomes h h' number horizon change actions a)
    (subst (λ slots. IsThinned h.statuses horizon slots (applied actions a.before).slots) (sym on) (checked-thins h.statuses horizon a.before change actions sound a.does.0))

-- The slots and the entries are as they were.

slots-stay : (h h' : HeapView) → slots_of h' ≡ slots_of h → SameEntries h.indexes h'.indexes → SoundHeap h'.statuses (slots_of h)
    → ((n : ℕ) → IsInUse h.indexes n → StaysSound (value_in n) (since_at h.indexes n) h'.statuses (slots_of h) (slots_of h) (entries_in h.indexes n) (entries_in h.indexes n))
    → StaysSoundTable h h'
slots-stay h h' slots entries heap each = same-stays h h' entries (subst (λ pages. SoundHeap h'.statuses pages) (sym slots) heap)
    (λ n used. subst (λ pages. StaysSound (value_in n) (since_at h.indexes n) h'.statuses (slots_of h) pages (entries_in h.indexes n) (entries_in h.indexes n)) (sym slots) (each n used))

pub committed-stays : (h h' : HeapView) (ids : List ℕ) → SoundTable h → FinishesInTable h h' ids Committed
    → ((n : ℕ) → DeletedWhatWasMade h.statuses (slots_on (slots_of h) n) ids) → StaysSoundTable h h'
committed-stays h h' ids s f theirs =
    slots-stay h h' (ap (λ (p : PagesView). lists.page_slots_of p) f.pages) (same-entries h.indexes h'.indexes f.indexes)
    (λ n. committing-sound h.statuses h'.statuses ids (slots_on (slots_of h) n) f.active f.finishes (theirs n) (s.heap n))
    (λ n used. committing-stays (value_in n) (since_at h.indexes n) h.statuses h'.statuses ids (slots_of h) (entries_in h.indexes n) (index-sound h s n used) f.active f.finishes theirs)

pub aborted-stays : (h h' : HeapView) (ids : List ℕ) → SoundTable h → FinishesInTable h h' ids Aborted
    → ((n : ℕ) → AloneDeletedTheirs h.statuses (slots_on (slots_of h) n) ids) → StaysSoundTable h h'
aborted-stays h h' ids s f theirs =
    slots-stay h h' (ap (λ (p : PagesView). lists.page_slots_of p) f.pages) (same-entries h.indexes h'.indexes f.indexes)
    (λ n. aborting-sound h.statuses h'.statuses ids (slots_on (slots_of h) n) f.active f.finishes (theirs n) (s.heap n))
    (λ n used. aborting-stays (value_in n) (since_at h.indexes n) h.statuses h'.statuses ids (slots_of h) (entries_in h.indexes n) (index-sound h s n used) f.active f.finishes theirs)

-- There is more memory.

pub kept-stays : (h h' : HeapView) → SoundTable h → Keeps h h' → StaysSoundTable h h'
kept-stays h h' s k = slots-stay h h' (slots-kept h h' k) k.entries still
    (λ n used. statuses-stay h.statuses h'.statuses (λ x gone. same-status h.statuses h'.statuses k.statuses x ∙ gone) (λ x done. same-status h.statuses h'.statuses k.statuses x ∙ done)
    (value_in n) (since_at h.indexes n) (slots_of h) (entries_in h.indexes n)
    (index-sound h s n used) still)
  where
    still : SoundHeap h'.statuses (slots_of h)
    still n = same-sound h.statuses h'.statuses k.statuses (slots_on (slots_of h) n) (s.heap n)

-- A page is made ready, with the ids as they were.

abbrev pub with_table : HeapView → Window → HeapView
with_table h w = record h { statuses = w }

as-was : (h : HeapView) (w : Window) → SameIds h.statuses w → SoundTable h → StaysSoundTable h (with_table h w)
as-was h w ids s = kept-stays h (with_table h w) s (record { pages = refl; marks = refl; statuses = ids; entries = entries-kept h.indexes; max_pages = refl })

pub ready-come : (h h' : HeapView) (place : Tid) (horizon size : ℕ) → PrunesIfFull h h' place horizon size → OnlyCome h.indexes h'.indexes
ready-come h h' place horizon size (PrunesIfFull.has_room room is) = same-come h.indexes h'.indexes (same-entries h.indexes h'.indexes (ap (λ (g : HeapView). g.indexes) is))
ready-come h h' place horizon size (PrunesIfFull.is_pruned full grown keeps prunes) =
    subst (λ (g : HeapView). OnlyCome h.indexes g.indexes) (sym prunes.is) (same-come h.indexes grown.indexes keeps.entries)
ready-come h h' place horizon size (PrunesIfFull.is_left full goes keeps) = same-come h.indexes h'.indexes keeps.entries

pub readied-stays : (h h' : HeapView) (place : Tid) (horizon size : ℕ) → SoundTable h → PrunesIfFull h h' place horizon size → StaysSoundTable h h'
readied-stays h h' place horizon size s (PrunesIfFull.has_room room is) =
    subst (λ (g : HeapView). StaysSoundTable h g) (sym is) (as-was h h.statuses (record { first = refl; stop_age = refl; entries = refl }) s)
readied-stays h h' place horizon size s (PrunesIfFull.is_pruned full grown keeps prunes) =
    let first = kept-stays h grown s keeps in
    stays-then h grown h' s (same-come h.indexes grown.indexes keeps.entries) first (pruned-stays grown h' place.page horizon first.sound prunes)
readied-stays h h' place horizon size s (PrunesIfFull.is_left full goes keeps) = kept-stays h h' s keeps

ready-ids : (h h' : HeapView) (place : Tid) (horizon size : ℕ) → PrunesIfFull h h' place horizon size → SameIds h'.statuses h.statuses
ready-ids h h' place horizon size (PrunesIfFull.has_room room is) =
    subst (λ (g : HeapView). SameIds g.statuses h.statuses) (sym is) (record { first = refl; stop_age = refl; entries = refl })
ready-ids h h' place horizon size (PrunesIfFull.is_pruned full grown keeps prunes) =
    subst (λ (g : HeapView). SameIds g.statuses h.statuses) (sym prunes.is) (same-back h.statuses grown.statuses keeps.statuses)
ready-ids h h' place horizon size (PrunesIfFull.is_left full goes keeps) = same-back h.statuses h'.statuses keeps.statuses

pub ready-stays : (h h' : HeapView) (place : Tid) (horizon size : ℕ) → SoundTable h → PrunesIfFull h h' place horizon size → StaysSoundTable h (with_table h' h.statuses)
ready-stays h h' place horizon size s ready =
    let first = readied-stays h h' place horizon size s ready in
    stays-then h h' (with_table h' h.statuses) s (ready-come h h' place horizon size ready)
    first (as-was h' h.statuses (ready-ids h h' place horizon size ready) first.sound)

-- An update fails.

pub failed-stays : (h h' : HeapView) (horizon : ℕ) (own : Own) (place : Tid) (row : Row) (fault : WriteFault) → SoundTable h → FailsUpdate h h' own place row horizon fault → StaysSoundTable h h'
failed-stays h h' horizon own place row fault.NeedsFreeze s f = kept-stays h h' s f.1
failed-stays h h' horizon own place row fault.NoRoom s f =
    let first = readied-stays h f.ready place horizon (rounded_size_of row) s f.readies in
    stays-then h f.ready h' s (ready-come h f.ready place horizon (rounded_size_of row) f.readies)
    first (kept-stays f.ready h' first.sound f.keeps)
failed-stays h h' horizon own place row fault.NoMemory s f = kept-stays h h' s f.2

-- There is nothing.

pub nothing-stays : (h : HeapView) → h.pages.pages ≡ [] → ((n : ℕ) → entries_in h.indexes n ≡ []) → SoundTable h
nothing-stays h pages entries = record {
  heap = (nothing 0).heap;
  indexes = λ n used. subst (λ (es : List Entry). SoundEntries (value_in n) (since_at h.indexes n) h.statuses (slots_of h) es) (sym (entries n)) (nothing n).index;
}
  where
    nothing : (n : ℕ) → EntriesAreSound (value_in n) (since_at h.indexes n) h.statuses (slots_of h) []
    nothing n = subst (λ (ps : List PageView). EntriesAreSound (value_in n) (since_at h.indexes n) h.statuses (map (λ (p : PageView). p.slots) ps) []) (sym pages) (nothing-sound (value_in n) (since_at h.indexes n) h.statuses)

-- The ids that a session lacks are given.

given-one : (h : HeapView) (a b : Window) (parent : Option ℕ) → IsWindow a → IsWindow b → Gives a b parent → SoundTable (with_table h a) → SoundTable (with_table h b)
given-one h a b parent before after gives s = record {
  heap = λ n. giving-sound a b parent (slots_on (slots_of h) n) before after gives (s.heap n);
  indexes = λ n used. (giving-stays (value_in n) (since_at h.indexes n) a b parent (slots_of h) (entries_in h.indexes n) (index-sound (with_table h a) s n used) before after gives).sound.index;
}

pub given-stays : (h : HeapView) (v : Window) (own own' : Own) (x : ℕ) → SoundTable h → IsWindow h.statuses → IsWindow v
    → ((y : ℕ) → Contains own.ids y → IsActive h.statuses y) → TakesIds h.statuses v own own' x → SoundTable (with_table h v) × IsActive v x
given-stays h v own own' x s before after active takes = (
  under-keeps (λ u. SoundTable (with_table h u)) (λ a b parent wa wb gives sound. given-one h a b parent wa wb gives sound)
      h.statuses v _ takes.given before after takes.gives s,
  takes-active h.statuses v own own' x before after takes active x (takes-mine h.statuses v own own' x before after takes),
)
