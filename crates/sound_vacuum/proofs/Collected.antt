-- Dead slots, and the entries that come, in each step that may come between those of a vacuum.
use Rattle.std.proofs.Common.{◌≡◌, ◌↔◌, ℕ, Bool, true, false, List, [], Option, Some, None, refl, sym, ap, ◌∙◌, subst, ⊎_elim}
use Rattle.std.specs.Prelude.{Contains, unwrap_or}
use Rattle.std.specs.Option.{option_map}
use Rattle.std.proofs.lemmas.Bool.{cases_eq}
use Rattle.xid_circle.specs.declared.Tid.{Tid}
use Rattle.xid_circle.proofs.Tids.{same-tid}
use Rattle.tuple_header.specs.Version.{Version, rounded_size_of}
use Rattle.tuple_header.specs.declared.version.Row.{Row}
use Rattle.page_sheet.specs.declared.slot.Slot.{Slot}
use Rattle.page_sheet.specs.declared.slot.Slot.TheVariants.{Unused, Normal, Dead}
use Rattle.page_sheet.specs.Slots.{slot_at, free_number, with_added, IsNormalAt}
use Rattle.page_sheet.proofs.SlotLemmas.{normal_at, slot_at-from_version_at, version_at-from_slot_at, free_number-was, slot_at-with_added_other}
use Rattle.snapshot.specs.Snap.{Snap}
use Rattle.snapshot.specs.Own.{Own}
use Rattle.visibility.specs.Visible.{IsVisible}
use Rattle.commit_status.specs.Window.{Window}
use Rattle.freeze.specs.Freezing.{Freezes, frozen_slot}
use Rattle.tuple_writes.specs.Headers.{heap_only_header}
use Rattle.tuple_writes.specs.Writes.{with_root, with_replaced, with_heap_only, with_updated}
use Rattle.tuple_writes.proofs.Slotted.{replaced-other}
use Rattle.index_entries.specs.declared.entry.Entry.{Entry}
use Rattle.tuple_header.specs.IndexValue.{value_in}
use Rattle.heap_pages.specs.View.{PagesView}
use Rattle.index_lookup.specs.Pages.{slots_on, slot_in, version_in, Puts}
use Rattle.sound_entries.specs.Entries.{SoundHeap, EntriesAreSound, StaysSound}
use Rattle.sound_entries.proofs.Changes.{dead-stays}
use Rattle.index_lookup.specs.Pages as lists
use Rattle.table_indexes.specs.Indexes.{entries_at, entries_in, since_at, IsInUse, SameEntries}
use Rattle.table_indexes.proofs.IndexLemmas.{same-entries}
use Rattle.heap_write.specs.Heap.{HeapView, slots_of, page_on, Keeps}
use Rattle.heap_write.specs.Writes.{PutsRoot, SetsXmax, HotUpdates, ColdUpdates, UpdatesOnPage, Replaces, PrunesIfFull, Prunes, Applies}
use Rattle.prune_actions.specs.declared.Action.{Action}
use Rattle.prune.specs.Actions.{applied}
use Rattle.prune.proofs.IdlePlans.{checked-dead}
use Rattle.heap_write.specs.Refusals.{FailsUpdate}
use Rattle.heap_write.specs.declared.heap.WriteFault.{WriteFault}
use Rattle.heap_write.specs.declared.heap.WriteFault.TheVariants as fault
use Rattle.table_integrity.specs.Table.{SoundTable, StaysSoundTable}
use Rattle.table_integrity.specs.Laws.{FinishesInTable}
use Rattle.table_integrity.specs.Readers.{FindsAt, FindsRowAt, FindsTheSame}
use Rattle.table_integrity.proofs.Places.{slots_on-page_on, version-on, free_place, root_version, root-puts, root-stands, away-puts, here-puts, by-root-still, prunes-on, prunes-puts, applies-on, applies-puts}
use Rattle.table_integrity.proofs.InUse.{used-by, same-in, enters-used, enters-adds, index-sound, table-stays}
use Rattle.root_index.specs.declared.progress.Progress.{Progress}
use Rattle.root_index.specs.declared.progress.Progress.TheVariants.{Done}
use Rattle.vacuum_passes.specs.Visits.{VisitsAt}
use Rattle.heap_write.specs.Cleaning.{FreesAt, SweepsAt}
use Rattle.heap_write.proofs.PageLemmas.{slots-kept}
use Rattle.heap_write.proofs.Plans.{pruned-page}
use Rattle.sound_vacuum.specs.Freeing.{AreUnled}
use Rattle.sound_vacuum.specs.Sweeping.{AreDead, IsSweptTo}
use Rattle.sound_vacuum.specs.Between.{KeepsDeadSlots, StepsBetween}
use Rattle.sound_vacuum.proofs.OnePage.{ChangesPage, changes-from, on-each}
use Rattle.sound_vacuum.proofs.Swept.{going-stays, piece-stays}
use Rattle.sound_vacuum.proofs.Visited.{freezes-on, freezes-put}

-- Dead slots.

abbrev pub DeadStay : List Slot → List Slot → Type 0
DeadStay slots after = (k : ℕ) → slot_at slots k ≡ Some Dead → slot_at after k ≡ Some Dead

dead-normal : (o : Option Slot) (t : Version) → o ≡ Some Dead → o ≡ Some (Normal t) → ⊥
dead-normal o t dead normal = let e : Some Dead ≡ Some (Normal t) = sym dead ∙ normal in cc

-- a free number is no dead slot
free-alive : (slots : List Slot) → slot_at slots (free_number slots) ≡ Some Dead → ⊥
free-alive slots dead = ⊎_elim
    (λ none. let e : None ≡ Some Dead = sym none ∙ dead in cc)
    (λ unused. let e : Some Unused ≡ Some Dead = sym unused ∙ dead in cc)
    (free_number-was slots)

added-dead : (slots : List Slot) (s : Slot) → DeadStay slots (with_added slots s)
added-dead slots s k dead = slot_at-with_added_other slots k s (λ same. free-alive slots (ap (slot_at slots) (sym same) ∙ dead)) ∙ dead

replaced-dead : (slots : List Slot) (n x page place : ℕ) (hot : Bool) (t : Version) → slot_at slots n ≡ Some (Normal t) → DeadStay slots (with_replaced slots n x page place hot)
replaced-dead slots n x page place hot t at k dead =
    replaced-other slots n x page place hot t k at (λ same. dead-normal (slot_at slots k) t dead (ap (slot_at slots) same ∙ at)) ∙ dead

updated-dead : (slots : List Slot) (n x page : ℕ) (row : Row) (t : Version) → slot_at slots n ≡ Some (Normal t) → DeadStay slots (with_updated slots n x page row)
updated-dead slots n x page row t at k dead =
    let new : Version = record { header = heap_only_header x page (free_number slots); row = row } in
    replaced-dead (with_heap_only slots x page row) n x page (free_number slots) true t
    (slot_at-with_added_other slots n (Normal new) (λ same. not-free (ap (slot_at slots) (sym same) ∙ at)) ∙ at)
    k (added-dead slots (Normal new) k dead)
  where
    not-free : slot_at slots (free_number slots) ≡ Some (Normal t) → ⊥
    not-free normal = ⊎_elim
        (λ none. let e : None ≡ Some (Normal t) = sym none ∙ normal in cc)
        (λ unused. let e : Some Unused ≡ Some (Normal t) = sym unused ∙ normal in cc)
        (free_number-was slots)

frozen-dead : (w : Window) (cutoff page : ℕ) (slots after : List Slot) → Freezes w cutoff page slots after → DeadStay slots after
frozen-dead w cutoff page slots after f k dead = f.each k ∙ ap (option_map (frozen_slot w cutoff page k)) dead

put-dead : (pages pages' : List (List Slot)) (n : ℕ) (after : List Slot) → Puts pages pages' n after → DeadStay (slots_on pages n) after
    → (p : Tid) → slot_in pages p ≡ Some Dead → slot_in pages' p ≡ Some Dead
put-dead pages pages' n after puts stay p = on-each (λ slots slots'. DeadStay slots slots') pages pages' n after puts stay (λ slots k dead. dead) p.page p.slot

-- Tables.

-- where the entries are as they were
same-keep : (h h' : HeapView) → SameEntries h.indexes h'.indexes → ((p : Tid) → slot_in (slots_of h) p ≡ Some Dead → slot_in (slots_of h') p ≡ Some Dead) → KeepsDeadSlots h h'
same-keep h h' same dead n = record {
  dead = dead;
  fresh = λ e there absent. absurd (absent (subst (λ (es : List Entry). Contains es e) (same-in h.indexes h'.indexes same n) there));
}

pages-keep : (h h' : HeapView) → slots_of h' ≡ slots_of h → SameEntries h.indexes h'.indexes → KeepsDeadSlots h h'
pages-keep h h' slots entries = same-keep h h' entries (λ p dead. ap (λ pages. slot_in pages p) slots ∙ dead)

pub keeps-then : (a b c : HeapView) → KeepsDeadSlots a b → KeepsDeadSlots b c → KeepsDeadSlots a c
keeps-then a b c first second n = record {
  dead = λ p dead. (second n).dead p ((first n).dead p dead);
  fresh = λ e there absent dead. (second n).fresh e there (λ mid. (first n).fresh e mid absent dead) ((first n).dead e.tid dead);
}

kept-keep : (h h' : HeapView) → Keeps h h' → KeepsDeadSlots h h'
kept-keep h h' k = pages-keep h h' (slots-kept h h' k) k.entries

finished-keep : (h h' : HeapView) (ids : List ℕ) (status : _) → FinishesInTable h h' ids status → KeepsDeadSlots h h'
finished-keep h h' ids status f = pages-keep h h' (ap (λ (p : PagesView). lists.page_slots_of p) f.pages) (same-entries h.indexes h'.indexes f.indexes)

pruned-keep : (h h' : HeapView) (number horizon : ℕ) → Prunes h h' number horizon → KeepsDeadSlots h h'
pruned-keep h h' number horizon p = same-keep h h' (same-entries h.indexes h'.indexes (ap (λ (g : HeapView). g.indexes) p.is))
    (put-dead (slots_of h) (slots_of h') number p.after.slots (prunes-puts h h' number horizon p)
    (subst (λ slots. DeadStay slots p.after.slots) (sym (prunes-on h h' number horizon p))
    (λ k dead. dead-stays h.statuses horizon p.before.slots p.after.slots k (pruned-page h h' number horizon p) dead)))

applied-keep : (h h' : HeapView) (number horizon change : ℕ) (actions : List (ℕ × Action)) → Applies h h' number horizon change actions → KeepsDeadSlots h h'
applied-keep h h' number horizon change actions a = same-keep h h' (same-entries h.indexes h'.indexes (ap (λ (g : HeapView). g.indexes) a.is))
    (put-dead (slots_of h) (slots_of h') number (applied actions a.before).slots (applies-puts h h' number horizon change actions a)
    (subst (λ slots. DeadStay slots (applied actions a.before).slots) (sym (applies-on h h' number horizon change actions a))
    (checked-dead h.statuses horizon a.before change actions a.does.0)))

readied-keep : (h h' : HeapView) (place : Tid) (horizon size : ℕ) → PrunesIfFull h h' place horizon size → KeepsDeadSlots h h'
readied-keep h h' place horizon size (PrunesIfFull.has_room room is) =
    pages-keep h h' (ap (λ (g : HeapView). slots_of g) is) (same-entries h.indexes h'.indexes (ap (λ (g : HeapView). g.indexes) is))
readied-keep h h' place horizon size (PrunesIfFull.is_pruned full grown keeps prunes) = keeps-then h grown h' (kept-keep h grown keeps) (pruned-keep grown h' place.page horizon prunes)
readied-keep h h' place horizon size (PrunesIfFull.is_left full goes keeps) = kept-keep h h' keeps

root-keep : (h h' : HeapView) (updated : Bool) (x : ℕ) (row : Row) (n : ℕ) → PutsRoot h h' updated x row n → KeepsDeadSlots h h'
root-keep h h' updated x row n r i = record {
  dead = put-dead (slots_of h) (slots_of h') n (with_root (page_on h n).slots updated x n row) (root-puts h h' updated x row n r)
      (subst (λ slots. DeadStay slots (with_root (page_on h n).slots updated x n row)) (sym (slots_on-page_on h n))
      (added-dead (page_on h n).slots (Normal (root_version h updated x row n))));
  fresh = λ e there absent dead.
      let used = (enters-used h.indexes h'.indexes row (free_place h n) r.entries i).1 (used-by h'.indexes i e there) in
      ⊎_elim
      (λ old. absent old)
      (λ new. free-alive (page_on h n).slots (ap (λ slots. slot_at slots (free_number (page_on h n).slots)) (sym (slots_on-page_on h n))
      ∙ ap (λ (f : Entry). slot_in (slots_of h) f.tid) (sym new) ∙ dead))
      (((enters-adds h.indexes h'.indexes row (free_place h n) r.entries i used).members e).0 there);
}

away-keep : (h h' : HeapView) (place : Tid) (x : ℕ) (successor : Tid) (t : Version) → version_in (slots_of h) place ≡ Some t → SetsXmax h h' place x successor → KeepsDeadSlots h h'
away-keep h h' place x successor t at a = same-keep h h' a.entries
    (put-dead (slots_of h) (slots_of h') place.page (with_replaced (page_on h place.page).slots place.slot x successor.page successor.slot false) (away-puts h h' place x successor a)
    (subst (λ slots. DeadStay slots (with_replaced (page_on h place.page).slots place.slot x successor.page successor.slot false)) (sym (slots_on-page_on h place.page))
    (replaced-dead (page_on h place.page).slots place.slot x successor.page successor.slot false t
    (slot_at-from_version_at (page_on h place.page).slots place.slot t (sym (version-on h place) ∙ at)))))

here-keep : (h h' : HeapView) (place : Tid) (x : ℕ) (row : Row) (t : Version) → version_in (slots_of h) place ≡ Some t → HotUpdates h h' place x row → KeepsDeadSlots h h'
here-keep h h' place x row t at a = same-keep h h' a.entries
    (put-dead (slots_of h) (slots_of h') place.page (with_updated (page_on h place.page).slots place.slot x place.page row) (here-puts h h' place x row a)
    (subst (λ slots. DeadStay slots (with_updated (page_on h place.page).slots place.slot x place.page row)) (sym (slots_on-page_on h place.page))
    (updated-dead (page_on h place.page).slots place.slot x place.page row t
    (slot_at-from_version_at (page_on h place.page).slots place.slot t (sym (version-on h place) ∙ at)))))

by-root-keep : (h h' : HeapView) (place : Tid) (x : ℕ) (row : Row) (n : ℕ) (t : Version) → version_in (slots_of h) place ≡ Some t → ColdUpdates h h' place x row n → KeepsDeadSlots h h'
by-root-keep h h' place x row n t at r = keeps-then h r.middle h' (root-keep h r.middle true x row n r.root)
    (away-keep r.middle h' place x (free_place h n) t
    (by-root-still h (version_in (slots_of r.middle)) place (free_place h n) (root_version h true x row n) t (root-stands h r.middle true x row n r.root) at) r.away)

replaces-keep : (h h' : HeapView) (place : Tid) (x : ℕ) (row : Row) (t : Version) → version_in (slots_of h) place ≡ Some t → Replaces h h' place x row → KeepsDeadSlots h h'
replaces-keep h h' place x row t at (Replaces.on_page room (UpdatesOnPage.heap_only values a)) = here-keep h h' place x row t at a
replaces-keep h h' place x row t at (Replaces.on_page room (UpdatesOnPage.as_root changed r)) = by-root-keep h h' place x row place.page t at r
replaces-keep h h' place x row t at (Replaces.elsewhere room n off goes r) = by-root-keep h h' place x row n t at r

pub some-there : (h : HeapView) (place : Tid) → IsNormalAt (page_on h place.page).slots place.slot → (t : Version) × (version_in (slots_of h) place ≡ Some t)
some-there h place there =
    let t = normal_at (page_on h place.page).slots place.slot there in
    (t.0, version-on h place ∙ version_at-from_slot_at (page_on h place.page).slots place.slot t.0 t.1)

failed-keep : (h h' : HeapView) (own : Own) (place : Tid) (row : Row) (horizon : ℕ) (fault : WriteFault) → FailsUpdate h h' own place row horizon fault → KeepsDeadSlots h h'
failed-keep h h' own place row horizon fault.NeedsFreeze f = kept-keep h h' f.1
failed-keep h h' own place row horizon fault.NoRoom f = keeps-then h f.ready h' (readied-keep h f.ready place horizon (rounded_size_of row) f.readies) (kept-keep f.ready h' f.keeps)
failed-keep h h' own place row horizon fault.NoMemory f = kept-keep h h' f.2

visited-keep : (h h' : HeapView) (horizon cutoff p : ℕ) → VisitsAt h h' horizon cutoff p → KeepsDeadSlots h h'
visited-keep h h' horizon cutoff p v = keeps-then h v.pruned h' (pruned-keep h v.pruned p horizon v.prunes)
    (same-keep v.pruned h' (same-entries v.pruned.indexes h'.indexes (ap (λ (g : HeapView). g.indexes) v.freezes.is))
    (put-dead (slots_of v.pruned) (slots_of h') p v.freezes.after.slots (freezes-put v.pruned h' cutoff p v.freezes)
    (frozen-dead v.pruned.statuses cutoff p (slots_on (slots_of v.pruned) p) v.freezes.after.slots (freezes-on v.pruned h' cutoff p v.freezes))))

pub steps-keep : (h h' : HeapView) → StepsBetween h h' → KeepsDeadSlots h h'
steps-keep h h' (StepsBetween.inserts own own' row x writer i) = root-keep h h' false x row i.number i.root
steps-keep h h' (StepsBetween.updates own own' place row horizon x writer u) =
    let t = some-there u.ready place u.there in
    keeps-then h u.ready h' (readied-keep h u.ready place horizon (rounded_size_of row) u.readies) (replaces-keep u.ready h' place x row t.0 t.1 u.replaces)
steps-keep h h' (StepsBetween.deletes own own' place x writer d) = let t = some-there h place d.there in away-keep h h' place x place t.0 t.1 d.away
steps-keep h h' (StepsBetween.fails_update own place row horizon fault f) = failed-keep h h' own place row horizon fault f
steps-keep h h' (StepsBetween.keeps k) = kept-keep h h' k
steps-keep h h' (StepsBetween.finishes ids status f) = finished-keep h h' ids status f
steps-keep h h' (StepsBetween.prunes number horizon p) = pruned-keep h h' number horizon p
steps-keep h h' (StepsBetween.applies number horizon change actions a) = applied-keep h h' number horizon change actions a
steps-keep h h' (StepsBetween.visits horizon cutoff p v) = visited-keep h h' horizon cutoff p v

-- A piece of an index.

module _ (h h' : HeapView) (i : ℕ) (dead : List Tid) (from : Option Entry) (progress : Progress) (v : SweepsAt h h' i dead from progress) where
  same-slots : slots_of h' ≡ slots_of h
  same-slots = ap (λ (g : HeapView). slots_of g) v.is

  same-table : h'.statuses ≡ h.statuses
  same-table = ap (λ (g : HeapView). g.statuses) v.is

  -- what is so of index i, and of any that stays, is so of each
  on-index : (P : ℕ → List Entry → List Entry → Type 0) → P i (entries_in h.indexes i) (entries_in h'.indexes i) → ((n : ℕ) (es : List Entry) → P n es es)
      → (n : ℕ) → P n (entries_in h.indexes n) (entries_in h'.indexes n)
  on-index P here other n = ⊎_elim
      (λ same. subst (λ k. P k (entries_in h.indexes k) (entries_in h'.indexes k)) (sym same) here)
      (λ off. subst (P n (entries_in h.indexes n)) (sym (ap (λ (o : Option (List Entry)). unwrap_or o []) (v.others n off))) (other n (entries_in h.indexes n)))
      (cases_eq n i)

  only-go : (n : ℕ) (e : Entry) → Contains (entries_in h'.indexes n) e → Contains (entries_in h.indexes n) e
  only-go n = on-index (λ k old new. (e : Entry) → Contains new e → Contains old e) (λ e there. ((v.removes.members e).0 there).0) (λ k es e there. there) n

  pub swept-keep : KeepsDeadSlots h h'
  swept-keep n = record {
    dead = λ p at. ap (λ pages. slot_in pages p) same-slots ∙ at;
    fresh = λ e there absent. absurd (absent (only-go n e there));
  }

  piece-of : SoundTable h → AreDead (slots_of h) dead → (n : ℕ) → EntriesAreSound (value_in n) (since_at h.indexes n) h.statuses (slots_of h) (entries_in h.indexes n)
      → StaysSound (value_in n) (since_at h.indexes n) h.statuses (slots_of h) (slots_of h) (entries_in h.indexes n) (entries_in h'.indexes n)
  piece-of s are n = on-index
      (λ k old new. EntriesAreSound (value_in k) (since_at h.indexes k) h.statuses (slots_of h) old → StaysSound (value_in k) (since_at h.indexes k) h.statuses (slots_of h) (slots_of h) old new)
      (λ sound. piece-stays (value_in i) (since_at h.indexes i) h.statuses (slots_of h) (entries_in h.indexes i) (entries_in h'.indexes i) dead from progress sound v.removes are)
      (λ k es sound. going-stays (value_in k) (since_at h.indexes k) h.statuses (slots_of h) es es sound (λ e there. there) (λ e there root. there))
      n

  pub swept-stays-table : SoundTable h → AreDead (slots_of h) dead → StaysSoundTable h h'
  swept-stays-table s are = table-stays h h'
      (subst (λ pages. SoundHeap h'.statuses pages) (sym same-slots) (subst (λ (w : Window). SoundHeap w (slots_of h)) (sym same-table) s.heap))
      v.in_use v.since
      (λ n used.
      subst (λ pages. StaysSound (value_in n) (since_at h.indexes n) h'.statuses (slots_of h) pages (entries_in h.indexes n) (entries_in h'.indexes n)) (sym same-slots)
      (subst (λ (w : Window). StaysSound (value_in n) (since_at h.indexes n) w (slots_of h) (slots_of h) (entries_in h.indexes n) (entries_in h'.indexes n)) (sym same-table)
      (piece-of s are n (index-sound h s n used))))

  pub swept-unseen : (s : Snap) (own : List ℕ) → FindsTheSame h h' s own
  swept-unseen s own q r =
      subst (λ pages. FindsRowAt h s own q r ↔ FindsAt (IsVisible h'.statuses s own) (version_in pages) q r) (sym same-slots)
      (subst (λ (w : Window). FindsRowAt h s own q r ↔ FindsAt (IsVisible w s own) (version_in (slots_of h)) q r) (sym same-table) (λ a. a, λ b. b))

pub swept-unled : (h : HeapView) (dead : List Tid) (p : ℕ) (numbers : List ℕ) → ((n : ℕ) → IsInUse h.indexes n → IsSweptTo (entries_in h.indexes n) dead Done)
    → ((k : ℕ) → Contains numbers k → Contains dead (record { page = p; slot = k })) → AreUnled h p numbers
swept-unled h dead p numbers swept are n used e there here named =
    swept n used e there tt (subst (Contains dead) (sym (same-tid e.tid (record { page = p; slot = e.tid.slot }) here refl)) (are e.tid.slot named))

pub freed-others : (h h' : HeapView) (p : ℕ) (numbers : List ℕ) → FreesAt h h' p numbers
    → ((q : Tid) → (q.page ≡ p → ¬ Contains numbers q.slot) → slot_in (slots_of h') q ≡ slot_in (slots_of h) q)
    × ((n : ℕ) → entries_at h'.indexes n ≡ entries_at h.indexes n)
freed-others h h' p numbers f = (
  λ q off. ⊎_elim
      (λ here. ap (λ slots. slot_at slots q.slot) (ap (slots_on (slots_of h')) here ∙ changes.puts.put)
      ∙ f.does.slots.others q.slot (λ named dead. off here named)
      ∙ ap (λ slots. slot_at slots q.slot) (sym changes.before ∙ ap (slots_on (slots_of h)) (sym here)))
      (λ elsewhere. ap (λ slots. slot_at slots q.slot) (changes.puts.others q.page elsewhere))
      (cases_eq q.page p),
  (same-entries h.indexes h'.indexes (ap (λ (g : HeapView). g.indexes) f.is)).entries,
)
  where
    changes : ChangesPage h h' p f.before.slots f.after.slots
    changes = changes-from h h' p f.before f.after f.at f.is
