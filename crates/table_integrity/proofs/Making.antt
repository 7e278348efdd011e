-- Making an index while no id is in progress leaves the table sound.
use Rattle.std.proofs.Common.{◌≡◌, ◌⊎◌, ℕ, suc, List, [], get_or, Option, Some, inl, inr, ⊎_elim, sym, ap, ◌∙◌, subst}
use Rattle.std.specs.Prelude.{Contains, IsSome, unwrap_or}
use Rattle.std.proofs.lemmas.Bool.{cases_eq}
use Rattle.xid_circle.specs.declared.Tid.{Tid}
use Rattle.tuple_header.specs.Version.{Version}
use Rattle.tuple_header.specs.IndexValue.{value_in}
use Rattle.page_sheet.specs.declared.slot.Slot.{Slot}
use Rattle.page_sheet.specs.Slots.{version_at}
use Rattle.commit_status.specs.Window.{Window, next_id}
use Rattle.commit_status.proofs.Places.{upto-next}
use Rattle.visibility.specs.Visible.{IsDead}
use Rattle.sound_page.specs.Sound.{IsIn}
use Rattle.sound_page.proofs.SoundChains.{in-leads}
use Rattle.index_entries.specs.declared.entry.Entry.{Entry}
use Rattle.index_lookup.specs.Pages.{slots_on, slot_in}
use Rattle.sound_entries.specs.Entries.{SoundHeap, SoundEntries, KeepsTarget, KeepsTargets}
use Rattle.sound_entries.specs.Since.{IsExactSince}
use Rattle.sound_entries.proofs.Going.{stays-same}
use Rattle.sound_entries.proofs.OnHeap.{listed-in}
use Rattle.table_indexes.specs.Indexes.{entries_at, entries_in, since_at, index_entry_of}
use Rattle.heap_write.specs.Heap.{HeapView, slots_of}
use Rattle.index_making.specs.Making.{IsCurrent, IsOfCurrent, ListsCurrent}
use Rattle.heap_write.specs.Making.{MakesIndex}
use Rattle.table_integrity.specs.Table.{SoundTable}
use Rattle.table_integrity.specs.Making.{AllHaveEnded}
use Rattle.table_integrity.proofs.InUse.{used-by}
use Rattle.table_integrity.proofs.OneCurrent.{dead-or_current, chain-one_current}

-- The entries of the new index.

-- the current version by which an entry was made, in its slot
record MadeBy (w : Window) (pages : List (List Slot)) (number : ℕ) (e : Entry) : Type 0 where
  slot : ℕ
  version : Version
  in_chain : IsIn w (slots_on pages e.tid.page) e.tid.slot slot
  there : version_at (slots_on pages e.tid.page) slot ≡ Some version
  current : IsCurrent w version.header
  is : e ≡ index_entry_of number version.row e.tid

made-by : (w : Window) (pages : List (List Slot)) (number : ℕ) (e : Entry) → IsOfCurrent w pages number e → MadeBy w pages number e
made-by w pages number e o =
    let chain = o.first.0 in
    let seen = o.first.2.1 in
    record {
      slot = get_or chain o.first.2.0 0;
      version = o.version;
      in_chain = listed-in w (slots_on pages e.tid.page) e.tid.slot o.first.2.0 chain (inl o.root) o.first.1 seen.within;
      there = seen.there;
      current = seen.is_seen;
      is = o.is;
    }

module _ (h : HeapView) (number : ℕ) (entries : List Entry) (sound : SoundTable h) (nobody : AllHaveEnded h)
    (lists_current : ListsCurrent h.statuses (slots_of h) number entries) where
  abbrev w : Window
  w = h.statuses

  abbrev pages : List (List Slot)
  pages = slots_of h

  by-version : (e : Entry) → Contains entries e → MadeBy w pages number e
  by-version e there = made-by w pages number e (lists_current.only e there)

  -- each version of the table is current, or dead at the next id
  dead-or : (page n : ℕ) (t : Version) → version_at (slots_on pages page) n ≡ Some t → IsDead w (next_id w) t.header ⊎ IsCurrent w t.header
  dead-or page n t at = dead-or_current w t.header nobody.window nobody.ended (nobody.makers (record { page = page; slot = n }) t at)

  -- the current version of an entry's chain is that by which it was made
  one-version : (e : Entry) (n : ℕ) (t : Version) → Contains entries e → IsIn w (slots_on pages e.tid.page) e.tid.slot n
      → version_at (slots_on pages e.tid.page) n ≡ Some t → IsCurrent w t.header → e ≡ index_entry_of number t.row e.tid
  one-version e n t there i at current =
      let m = by-version e there in
      let one : m.version ≡ t = chain-one_current w (slots_on pages e.tid.page) e.tid.slot m.slot n m.version t (sound.heap e.tid.page) nobody.window m.in_chain i m.there at m.current current in
      m.is ∙ ap (λ (v : Version). index_entry_of number v.row e.tid) one

  made-entries : SoundEntries (value_in number) (Some (next_id w)) w pages entries
  made-entries = record {
    leads = λ e there. inl (lists_current.only e there).root;
    led = λ p n t i at. ⊎_elim
        (λ dead. inl dead)
        (λ current.
        let some = lists_current.each p t (record { slot = n; leads = in-leads w (slots_on pages p.page) p.slot n (sound.heap p.page) i; there = at; current = current }) in
        inr (record { entry = some.0; there = some.1; at = some.2 }))
        (dead-or p.page n t at);
    one = λ e f there among same.
        let m = by-version f among in
        let in_e = subst (λ (p : Tid). IsIn w (slots_on pages p.page) p.slot m.slot) (sym same) m.in_chain in
        let at_e = subst (λ (p : Tid). version_at (slots_on pages p.page) m.slot ≡ Some m.version) (sym same) m.there in
        one-version e m.slot m.version there in_e at_e m.current ∙ ap (index_entry_of number m.version.row) same ∙ sym m.is;
    alike = λ e n t there i at. ⊎_elim
        (λ dead. inl dead)
        (λ current.
        let is = one-version e n t there i at current in
        inr (ap (λ (f : Entry). f.value) is, ap (λ (f : Entry). f.key) is))
        (dead-or e.tid.page n t at);
  }

-- The table.

same-slots : (h h' : HeapView) (column : ℕ) → MakesIndex h h' column → slots_of h' ≡ slots_of h
same-slots h h' column m = ap (λ (g : HeapView). slots_of g) m.is

same-ids : (h h' : HeapView) (column : ℕ) → MakesIndex h h' column → h'.statuses ≡ h.statuses
same-ids h h' column m = ap (λ (g : HeapView). g.statuses) m.is

-- an index that is sound on the pages and by the ids as they were
sound-as : (h h' : HeapView) (column n : ℕ) (since : Option ℕ) (entries : Option (List Entry)) → MakesIndex h h' column → since_at h'.indexes n ≡ since → entries_at h'.indexes n ≡ entries
    → SoundEntries (value_in n) since h.statuses (slots_of h) (unwrap_or entries [])
    → SoundEntries (value_in n) (since_at h'.indexes n) h'.statuses (slots_of h') (entries_in h'.indexes n)
sound-as h h' column n since entries m same_since same_entries sound =
    subst (λ (o : Option (List Entry)). SoundEntries (value_in n) (since_at h'.indexes n) h'.statuses (slots_of h') (unwrap_or o [])) (sym same_entries)
    (subst (λ s. SoundEntries (value_in n) s h'.statuses (slots_of h') (unwrap_or entries [])) (sym same_since)
    (subst (λ pages. SoundEntries (value_in n) since h'.statuses pages (unwrap_or entries [])) (sym (same-slots h h' column m))
    (subst (λ w. SoundEntries (value_in n) since w (slots_of h) (unwrap_or entries [])) (sym (same-ids h h' column m)) sound)))

pub made-sound : (h h' : HeapView) (column : ℕ) → SoundTable h → AllHaveEnded h → MakesIndex h h' column → SoundTable h'
made-sound h h' column sound nobody m = record {
  heap = subst (λ w. SoundHeap w (slots_of h')) (sym (same-ids h h' column m)) (subst (λ pages. SoundHeap h.statuses pages) (sym (same-slots h h' column m)) sound.heap);
  indexes = λ n used. ⊎_elim
      (λ new. subst (λ i. SoundEntries (value_in i) (since_at h'.indexes i) h'.statuses (slots_of h') (entries_in h'.indexes i)) (sym new) made)
      (λ other. sound-as h h' column n (since_at h.indexes n) (entries_at h.indexes n) m (m.others_since n other) (m.others n other)
      (sound.indexes n (subst (λ (o : Option (List Entry)). IsSome o) (m.others n other) used)))
      (cases_eq n (suc column));
}
  where
    made : SoundEntries (value_in (suc column)) (since_at h'.indexes (suc column)) h'.statuses (slots_of h') (entries_in h'.indexes (suc column))
    made = sound-as h h' column (suc column) (Some (next_id h.statuses)) (Some m.entries) m m.since m.made
        (made-entries h (suc column) m.entries sound nobody m.lists)

-- what entries lead to is as it was
pub made-led : (h h' : HeapView) (column : ℕ) → SoundTable h → MakesIndex h h' column
    → (n : ℕ) → KeepsTargets (slots_of h) (slots_of h') (entries_in h.indexes n) (entries_in h'.indexes n)
made-led h h' column sound m n e there among =
    subst (λ pages. KeepsTarget (slot_in (slots_of h) e.tid) (slot_in pages e.tid)) (sym (same-slots h h' column m))
    (stays-same (slot_in (slots_of h) e.tid) ((sound.indexes n (used-by h.indexes n e there)).leads e there))

-- the next id has none in progress before it, since none is
pub made-since : (h h' : HeapView) (column : ℕ) → AllHaveEnded h → MakesIndex h h' column
    → ((n : ℕ) → IsExactSince h.statuses (since_at h.indexes n)) → (n : ℕ) → IsExactSince h'.statuses (since_at h'.indexes n)
made-since h h' column nobody m exact n = subst (λ w. IsExactSince w (since_at h'.indexes n)) (sym (same-ids h h' column m)) (⊎_elim
    (λ new. subst (λ (o : Option ℕ). IsExactSince h.statuses o) (sym (ap (since_at h'.indexes) new ∙ m.since)) next)
    (λ other. subst (λ (o : Option ℕ). IsExactSince h.statuses o) (sym (m.others_since n other)) (exact n))
    (cases_eq n (suc column)))
  where
    next : IsExactSince h.statuses (Some (next_id h.statuses))
    next = record { upto = upto-next h.statuses nobody.window; ended = λ x active. absurd (nobody.ended x active) }
