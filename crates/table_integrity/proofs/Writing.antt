-- Writes leave a table sound.
use Rattle.std.proofs.Common.{◌≡◌, ◌≤◌, ℕ, Bool, true, false, List, Some, refl, sym, ◌∙◌, subst, ⊎_elim, inl, inr}
use Rattle.xid_circle.specs.declared.Tid.{Tid}
use Rattle.tuple_header.specs.Version.{Version, rounded_size_of}
use Rattle.tuple_header.specs.declared.version.Header.{Header}
use Rattle.tuple_header.specs.declared.version.Row.{Row}
use Rattle.page_sheet.specs.declared.slot.Slot.{Slot}
use Rattle.page_sheet.specs.Slots.{free_number}
use Rattle.commit_status.specs.Window.{Window, IsActive, status_of}
use Rattle.tuple_writes.specs.Writes.{with_root, with_replaced, with_updated}
use Rattle.tuple_writes.specs.Keeps.{IsMade, HasNoXmax, IsDeletable}
use Rattle.tuple_writes.proofs.Slotted.{root-added, taken-away, updated-here}
use Rattle.snapshot.specs.Own.{Own}
use Rattle.index_entries.specs.Sets.{AddsEntry}
use Rattle.tuple_header.specs.IndexValue.{value_in}
use Rattle.root_index.specs.Rows.{entry_for}
use Rattle.index_lookup.specs.Pages.{slots_on, slot_in, version_in, Puts}
use Rattle.sound_entries.proofs.Going.{stays-same}
use Rattle.sound_entries.proofs.Changes.{adding-stays, taking-stays, updating-stays, heap-puts}
use Rattle.table_indexes.specs.Indexes.{entries_in, since_at, IsInUse}
use Rattle.heap_write.specs.Heap.{HeapView, slots_of, page_on}
use Rattle.heap_write.specs.Writes.{PutsRoot, SetsXmax, HotUpdates, ColdUpdates, KeepsValues, UpdatesOnPage, Replaces, Inserts, Updates, Deletes}
use Rattle.table_integrity.specs.Table.{SoundTable, StaysSoundTable, MayDelete}
use Rattle.table_integrity.specs.Laws.{WritesUnder}
use Rattle.table_integrity.proofs.Places.{slots_on-page_on, row-there, free_place, root_version, root-puts, away-puts, here-puts, root-stands, by-root-still, updates-ready}
use Rattle.table_integrity.proofs.InUse.{used-by, enters-used, enters-adds, enters-come, index-sound, table-stays, same-stays, stays-then}
use Rattle.table_integrity.proofs.TakenIds.{takes-status}
use Rattle.table_integrity.proofs.Keeping.{with_table, given-stays, ready-come, ready-stays}

-- A version may be taken away, whatever ids are given.

pub still-made : (w v : Window) (h : Header) → ((y : ℕ) → status_of v y ≡ status_of w y) → IsMade w h → IsMade v h
still-made w v h same = ⊎_elim (λ f. inl f) (λ is. inr (⊎_elim (λ done. inl (same h.xmin.0 ∙ done)) (λ going. inr (same h.xmin.0 ∙ going)) is))

pub still-untaken : (w v : Window) (h : Header) → ((y : ℕ) → status_of v y ≡ status_of w y) → HasNoXmax w h → HasNoXmax v h
still-untaken w v h same = ⊎_elim (λ none. inl none) (λ gone. inr (same h.xmax.0 ∙ gone))

-- One page changes. The ids are those of w, in which x is in progress.

module _ (h h' : HeapView) (w : Window) (x : ℕ) (s : SoundTable (with_table h w)) (active : IsActive w x) where
  pub root-stays : (updated : Bool) (row : Row) (n : ℕ) → PutsRoot h h' updated x row n → StaysSoundTable (with_table h w) (with_table h' w)
  root-stays updated row n r = table-stays (with_table h w) (with_table h' w)
      (heap-puts w n (slots_of h) (slots_of h') (with_root slots updated x n row) s.heap puts (root-added w x n slots updated row (s.heap n) active few).sound)
      (enters-used h.indexes h'.indexes row (free_place h n) r.entries) r.entries.since
      (λ i used. adding-stays (value_in i) (since_at h.indexes i) w x n (slots_of h) (slots_of h') (entries_in h.indexes i) (entries_in h'.indexes i) updated row
      (index-sound (with_table h w) s i used) active few puts (adds i used))
    where
      slots : List Slot
      slots = slots_on (slots_of h) n

      same : (page_on h n).slots ≡ slots
      same = sym (slots_on-page_on h n)

      few : free_number slots ≤ 291
      few = subst (λ xs. free_number xs ≤ 291) same r.within

      puts : Puts (slots_of h) (slots_of h') n (with_root slots updated x n row)
      puts = subst (λ xs. Puts (slots_of h) (slots_of h') n (with_root xs updated x n row)) same (root-puts h h' updated x row n r)

      adds : (i : ℕ) → IsInUse h.indexes i → AddsEntry (entries_in h.indexes i) (entries_in h'.indexes i) (entry_for (value_in i) row n (free_number slots))
      adds i used = subst (λ xs. AddsEntry (entries_in h.indexes i) (entries_in h'.indexes i) (entry_for (value_in i) row n (free_number xs))) same
          (enters-adds h.indexes h'.indexes row (free_place h n) r.entries i used)

  -- a version that may be taken away
  module _ (place : Tid) (t : Version) (at : version_in (slots_of h) place ≡ Some t) (made : IsMade w t.header) (untaken : HasNoXmax w t.header) where
    is-free : IsDeletable w (slots_on (slots_of h) place.page) place.slot
    is-free = record { version = t; there = at; made = made; untaken = untaken }

    pub away-stays : (successor : Tid) → SetsXmax h h' place x successor → StaysSoundTable (with_table h w) (with_table h' w)
    away-stays successor a =
        let slots = slots_on (slots_of h) place.page in
        let after = with_replaced slots place.slot x successor.page successor.slot false in
        let puts = subst (λ xs. Puts (slots_of h) (slots_of h') place.page (with_replaced xs place.slot x successor.page successor.slot false)) (sym (slots_on-page_on h place.page))
        (away-puts h h' place x successor a) in
        same-stays (with_table h w) (with_table h' w) a.entries
        (heap-puts w place.page (slots_of h) (slots_of h') after s.heap puts
        (taken-away w place.slot x successor.page successor.slot slots (s.heap place.page) active is-free).sound)
        (λ i used. taking-stays (value_in i) (since_at h.indexes i) w place.page place.slot x successor.page successor.slot (slots_of h) (slots_of h') (entries_in h.indexes i)
        (index-sound (with_table h w) s i used) active is-free puts)

    pub here-stays : (row : Row) → row.key ≡ t.row.key → KeepsValues h place row → HotUpdates h h' place x row → StaysSoundTable (with_table h w) (with_table h' w)
    here-stays row key values a =
        let slots = slots_on (slots_of h) place.page in
        let same = sym (slots_on-page_on h place.page) in
        let few : free_number slots ≤ 291 = subst (λ xs. free_number xs ≤ 291) same a.within in
        let puts = subst (λ xs. Puts (slots_of h) (slots_of h') place.page (with_updated xs place.slot x place.page row)) same (here-puts h h' place x row a) in
        same-stays (with_table h w) (with_table h' w) a.entries
        (heap-puts w place.page (slots_of h) (slots_of h') (with_updated slots place.slot x place.page row) s.heap puts
        (updated-here w place.slot x place.page slots row (s.heap place.page) active is-free few).sound)
        (λ i used. updating-stays (value_in i) (since_at h.indexes i) w place.page place.slot x place.page (slots_of h) (slots_of h') (entries_in h.indexes i) row t
        (index-sound (with_table h w) s i used) active is-free few at (values t.row (row-there h place t at) i used) key puts)

-- A version is replaced: by a root on any page, or on its own page by a heap-only one where no value changes.

pub by-root-stays : (h h' : HeapView) (w : Window) (x : ℕ) (place : Tid) (row : Row) (n : ℕ) (t : Version) → SoundTable (with_table h w) → IsActive w x
    → version_in (slots_of h) place ≡ Some t → IsMade w t.header → HasNoXmax w t.header → ColdUpdates h h' place x row n → StaysSoundTable (with_table h w) (with_table h' w)
by-root-stays h h' w x place row n t s active at made untaken r =
    let first = root-stays h r.middle w x s active true row n r.root in
    let still = by-root-still h (version_in (slots_of r.middle)) place (free_place h n) (root_version h true x row n) t (root-stands h r.middle true x row n r.root) at in
    stays-then (with_table h w) (with_table r.middle w) (with_table h' w) s (enters-come h.indexes r.middle.indexes row (free_place h n) r.root.entries) first
    (away-stays r.middle h' w x first.sound active place t still made untaken (free_place h n) r.away)

pub replaced-stays : (h h' : HeapView) (w : Window) (x : ℕ) (place : Tid) (row : Row) (t : Version) → SoundTable (with_table h w) → IsActive w x
    → version_in (slots_of h) place ≡ Some t → IsMade w t.header → HasNoXmax w t.header → row.key ≡ t.row.key → Replaces h h' place x row → StaysSoundTable (with_table h w) (with_table h' w)
replaced-stays h h' w x place row t s active at made untaken key (Replaces.on_page room (UpdatesOnPage.heap_only values a)) =
    here-stays h h' w x s active place t at made untaken row key values a
replaced-stays h h' w x place row t s active at made untaken key (Replaces.on_page room (UpdatesOnPage.as_root changed r)) =
    by-root-stays h h' w x place row place.page t s active at made untaken r
replaced-stays h h' w x place row t s active at made untaken key (Replaces.elsewhere room n off goes r) =
    by-root-stays h h' w x place row n t s active at made untaken r

-- Writes.

-- the ids are given, and nothing else
given : (h : HeapView) (v : Window) → SoundTable h → SoundTable (with_table h v) → StaysSoundTable h (with_table h v)
given h v before after =
    record {
      sound = after;
      in_use = λ n. (λ used. used, λ used. used);
      since = λ n. refl;
      led = λ n e there among. stays-same (slot_in (slots_of h) e.tid) ((before.indexes n (used-by h.indexes n e there)).leads e there);
    }

pub inserted-stays : (h h' : HeapView) (own own' : Own) (row : Row) (x : ℕ) → SoundTable h → WritesUnder h h' own
    → Inserts h h' own own' row x → StaysSoundTable h h'
inserted-stays h h' own own' row x s writer i =
    let g = given-stays h h'.statuses own own' x s writer.before writer.after writer.active i.takes_ids in
    stays-then h (with_table h h'.statuses) h' s (λ n e there. there) (given h h'.statuses s g.0)
    (root-stays h h' h'.statuses x g.0 g.1 false row i.number i.root)

pub deleted-stays : (h h' : HeapView) (own own' : Own) (place : Tid) (t : Version) (x : ℕ) → SoundTable h → WritesUnder h h' own → MayDelete h place t
    → Deletes h h' own own' place x → StaysSoundTable h h'
deleted-stays h h' own own' place t x s writer may d =
    let g = given-stays h h'.statuses own own' x s writer.before writer.after writer.active d.takes_ids in
    let same = takes-status h.statuses h'.statuses own own' x writer.before writer.after d.takes_ids in
    stays-then h (with_table h h'.statuses) h' s (λ n e there. there) (given h h'.statuses s g.0)
    (away-stays h h' h'.statuses x g.0 g.1 place t may.there (still-made h.statuses h'.statuses t.header same may.made)
    (still-untaken h.statuses h'.statuses t.header same may.untaken) place d.away)

pub updated-stays : (h h' : HeapView) (horizon : ℕ) (own own' : Own) (place : Tid) (t : Version) (row : Row) (x : ℕ) → SoundTable h → WritesUnder h h' own → MayDelete h place t
    → row.key ≡ t.row.key → Updates h h' own own' place row horizon x → StaysSoundTable h h'
updated-stays h h' horizon own own' place t row x s writer may key u =
    let ready = with_table u.ready h.statuses in
    let first = ready-stays h u.ready place horizon (rounded_size_of row) s u.readies in
    let g = given-stays ready h'.statuses own own' x first.sound writer.before writer.after writer.active u.takes_ids in
    let same = takes-status h.statuses h'.statuses own own' x writer.before writer.after u.takes_ids in
    let at = updates-ready h h' own own' place row horizon x t u may.there in
    stays-then h ready h' s (ready-come h u.ready place horizon (rounded_size_of row) u.readies) first
    (stays-then ready (with_table ready h'.statuses) h' first.sound (λ n e there. there) (given ready h'.statuses first.sound g.0)
    (replaced-stays u.ready h' h'.statuses x place row t g.0 g.1 at (still-made h.statuses h'.statuses t.header same may.made)
    (still-untaken h.statuses h'.statuses t.header same may.untaken) key u.replaces))
