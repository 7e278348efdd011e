-- What a step leaves of each index in use.
use Rattle.std.proofs.Common.{◌≡◌, ℕ, ◌<◌, List, [], Option, Some, None, refl, sym, ap, ◌∙◌, subst, inl, arith}
use Rattle.std.specs.Prelude.{◌↔◌, Contains, IsSome, unwrap_or}
use Rattle.xid_circle.specs.declared.Tid.{Tid}
use Rattle.tuple_header.specs.declared.version.Row.{Row}
use Rattle.index_entries.specs.declared.entry.Entry.{Entry}
use Rattle.index_entries.specs.Sets.{AddsEntry}
use Rattle.tuple_header.specs.IndexValue.{value_in}
use Rattle.sound_entries.specs.Entries.{SoundHeap, SoundEntries, EntriesAreSound, StaysSound}
use Rattle.sound_entries.proofs.Going.{led-then}
use Rattle.table_indexes.specs.Indexes.{IndexesView, entries_at, entries_in, since_at, IsInUse, index_entry_of, SameEntries, AddsAny, Enters}
use Rattle.heap_write.specs.Heap.{HeapView, slots_of}
use Rattle.table_integrity.specs.Table.{SoundTable, StaysSoundTable}

-- an index that has an entry is in use
pub used-by : (indexes : IndexesView) (n : ℕ) (e : Entry) → Contains (entries_in indexes n) e → IsInUse indexes n
used-by indexes n e there = by (entries_at indexes n) there
  where
    by : (o : Option (List Entry)) → Contains (unwrap_or o []) e → IsSome o
    by None among = let below : among.0 < 0 = among.1 in absurd (omega arith)
    by (Some entries) among = refl

-- The entries are as they were.

module _ (a b : IndexesView) (same : SameEntries a b) where
  pub same-used : (n : ℕ) → IsInUse a n ↔ IsInUse b n
  same-used n = (λ used. subst (λ (o : Option (List Entry)). IsSome o) (sym (same.entries n)) used, λ used. subst (λ (o : Option (List Entry)). IsSome o) (same.entries n) used)

  pub same-in : (n : ℕ) → entries_in b n ≡ entries_in a n
  same-in n = ap (λ (o : Option (List Entry)). unwrap_or o []) (same.entries n)

-- Entries come.

abbrev pub OnlyCome : IndexesView → IndexesView → Type 0
OnlyCome a b = (n : ℕ) (e : Entry) → Contains (entries_in a n) e → Contains (entries_in b n) e

pub same-come : (a b : IndexesView) → SameEntries a b → OnlyCome a b
same-come a b same n e there = subst (λ (es : List Entry). Contains es e) (sym (same-in a b same n)) there

any-used : (a b : Option (List Entry)) (new : Entry) → AddsAny a b new → IsSome a ↔ IsSome b
any-used None b new none = (λ used. subst (λ (o : Option (List Entry)). IsSome o) (sym none) used, λ used. subst (λ (o : Option (List Entry)). IsSome o) none used)
any-used (Some entries) None new adds = absurd adds
any-used (Some entries) (Some after) new adds = (λ used. refl, λ used. refl)

any-adds : (a b : Option (List Entry)) (new : Entry) → AddsAny a b new → IsSome a → AddsEntry (unwrap_or a []) (unwrap_or b []) new
any-adds None b new none used = absurd (cc)
any-adds (Some entries) None new adds used = absurd adds
any-adds (Some entries) (Some after) new adds used = adds

any-come : (a b : Option (List Entry)) (new e : Entry) → AddsAny a b new → Contains (unwrap_or a []) e → Contains (unwrap_or b []) e
any-come None b new e none there = let below : there.0 < 0 = there.1 in absurd (omega arith)
any-come (Some entries) None new e adds there = absurd adds
any-come (Some entries) (Some after) new e adds there = (adds.members e).1 (inl there)

module _ (a b : IndexesView) (row : Row) (place : Tid) (enters : Enters a b row place) where
  pub enters-used : (n : ℕ) → IsInUse a n ↔ IsInUse b n
  enters-used n = any-used (entries_at a n) (entries_at b n) (index_entry_of n row place) (enters.adds n)

  pub enters-adds : (n : ℕ) → IsInUse a n → AddsEntry (entries_in a n) (entries_in b n) (index_entry_of n row place)
  enters-adds n used = any-adds (entries_at a n) (entries_at b n) (index_entry_of n row place) (enters.adds n) used

  pub enters-come : OnlyCome a b
  enters-come n e there = any-come (entries_at a n) (entries_at b n) (index_entry_of n row place) e (enters.adds n) there

-- A table by its pages and each of its indexes.

pub index-sound : (h : HeapView) → SoundTable h → (n : ℕ) → IsInUse h.indexes n
    → EntriesAreSound (value_in n) (since_at h.indexes n) h.statuses (slots_of h) (entries_in h.indexes n)
index-sound h s n used = record { heap = s.heap; index = s.indexes n used }

pub table-stays : (h h' : HeapView) → SoundHeap h'.statuses (slots_of h') → ((n : ℕ) → IsInUse h.indexes n ↔ IsInUse h'.indexes n)
    → ((n : ℕ) → since_at h'.indexes n ≡ since_at h.indexes n)
    → ((n : ℕ) → IsInUse h.indexes n → StaysSound (value_in n) (since_at h.indexes n) h'.statuses (slots_of h) (slots_of h') (entries_in h.indexes n) (entries_in h'.indexes n))
    → StaysSoundTable h h'
table-stays h h' heap in_use since each = record {
  sound = record {
    heap = heap;
    indexes = λ n used. subst (λ (id : Option ℕ). SoundEntries (value_in n) id h'.statuses (slots_of h') (entries_in h'.indexes n)) (sym (since n)) (each n ((in_use n).1 used)).sound.index;
  };
  in_use = in_use;
  since = since;
  led = λ n e there among. (each n (used-by h.indexes n e there)).led e there among;
}

-- where the entries are as they were
pub same-stays : (h h' : HeapView) → SameEntries h.indexes h'.indexes → SoundHeap h'.statuses (slots_of h')
    → ((n : ℕ) → IsInUse h.indexes n → StaysSound (value_in n) (since_at h.indexes n) h'.statuses (slots_of h) (slots_of h') (entries_in h.indexes n) (entries_in h.indexes n))
    → StaysSoundTable h h'
same-stays h h' same heap each = table-stays h h' heap (same-used h.indexes h'.indexes same) same.since (λ n used.
    subst (λ (es : List Entry). StaysSound (value_in n) (since_at h.indexes n) h'.statuses (slots_of h) (slots_of h') (entries_in h.indexes n) es) (sym (same-in h.indexes h'.indexes same n))
    (each n used))

-- One step after another, where entries only come.
pub stays-then : (a b c : HeapView) → SoundTable a → OnlyCome a.indexes b.indexes
    → StaysSoundTable a b → StaysSoundTable b c → StaysSoundTable a c
stays-then a b c sound more first second = record {
  sound = second.sound;
  in_use = λ n. (λ used. (second.in_use n).0 ((first.in_use n).0 used), λ used. (first.in_use n).1 ((second.in_use n).1 used));
  since = λ n. second.since n ∙ first.since n;
  led = λ n e there among.
      led-then (value_in n) (since_at a.indexes n) a.statuses (slots_of a) (slots_of b) (slots_of c) (entries_in a.indexes n) (entries_in b.indexes n) (entries_in c.indexes n)
      (sound.indexes n (used-by a.indexes n e there)) (more n) (first.led n) (second.led n) e there among;
}
