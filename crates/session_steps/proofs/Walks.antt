-- Where an index leads a cursor: to the row that comes next in its order, or to none.
use Rattle.std.proofs.Common.{◌≡◌, ◌≢◌, ℕ, ◌<◌, ℤ, Option, Some, None, refl, sym, ap, ◌∙◌, subst, inl, inr, arith}
use Rattle.std.specs.Prelude.{◌<ℤ◌, ◌≤ℤ◌, Contains}
use Rattle.std.proofs.lemmas.Bool.{cases_lt}
use Rattle.std.proofs.lemmas.Int.{ints, by_lt_z}
use Rattle.xid_circle.specs.declared.Tid.{Tid}
use Rattle.tuple_header.specs.declared.version.Row.{Row}
use Rattle.tuple_header.specs.Version.{Version}
use Rattle.visibility.specs.Visible as visibility
use Rattle.index_entries.specs.declared.entry.Entry.{Entry}
use Rattle.index_lookup.specs.Looking.{FirstFound}
use Rattle.sound_entries.specs.Entries.{EntriesAreSound}
use Rattle.sound_entries.proofs.Leads.{visible-found}
use Rattle.sound_entries.proofs.OnHeap.{found-on_heap}
use Rattle.index_lookup.specs.declared.index_scan.IndexPosition.{IndexPosition}
use Rattle.index_lookup.specs.declared.index_scan.IndexRange.{IndexRange}
use Rattle.table_indexes.specs.Indexes.{entries_in, since_at}
use Rattle.heap_write.specs.Heap.{slots_of}
use Rattle.index_lookup.specs.Walking.{LiesIn, ComesAfter, IsNextRow, NoneLeft}
use Rattle.index_lookup.specs.Walking as walking
use Rattle.table_integrity.proofs.InUse.{index-sound}
use Rattle.tuple_header.specs.IndexValue.{value_in}
use Rattle.history.specs.Cursors.{ComesBefore}
use Rattle.history.specs.World.{World}
use Rattle.refinement.specs.Heap.{in_index}
use Rattle.refinement.specs.Heap as relation
use Rattle.refinement.specs.Visible.{At}
use Rattle.refinement.specs.Cursors.{IsPastPosition, IsAhead, Comes}
use Rattle.refinement.specs.Cursors as cursors
use Rattle.session_steps.proofs.Scanning.{IsScanned}
use Rattle.sessions.specs.declared.session.Session.{Session}
use Rattle.session_steps.specs.State.{State, session_at, seen, seen_position}
use Rattle.sessions.specs.Session.{cursor_snapshot}
use Rattle.session_steps.specs.Agrees.{Agrees}
use Rattle.session_steps.proofs.AtCursor.{seen_by}
use Rattle.session_steps.proofs.Statements.{cursor-sees}
use Rattle.session_steps.proofs.Searches.{own-active}

-- Places in the order of an index.

-- an entry's, and that of a row of its value and key
after-entry : (index : ℕ) (row : Row) (e : Entry) (last : Option IndexPosition) → value_in index row ≡ e.value → row.key ≡ e.key → ComesAfter e last → IsPastPosition index (seen_position last) row
after-entry index row e None value key after = tt
after-entry index row e (Some m) value key after = elim after [
  | inl above ↦ inl (subst (λ v. m.value <ℤ v) (sym value) above)
  | inr level ↦ inr (level.0 ∙ sym value, subst (λ k. m.key < k) (sym key) level.1)
]

entry-after : (index : ℕ) (row : Row) (e : Entry) (last : Option IndexPosition) → value_in index row ≡ e.value → row.key ≡ e.key → IsPastPosition index (seen_position last) row → ComesAfter e last
entry-after index row e None value key after = tt
entry-after index row e (Some m) value key after = elim after [
  | inl above ↦ inl (subst (λ v. m.value <ℤ v) value above)
  | inr level ↦ inr (level.0 ∙ value, subst (λ k. m.key < k) key level.1)
]

pub ahead-entry : (span : IndexRange) (row : Row) (e : Entry) → value_in span.index row ≡ e.value → row.key ≡ e.key → LiesIn span e → IsAhead span.index span.low span.high (seen_position span.last) row
ahead-entry span row e value key lies = record {
  from = subst (λ v. span.low ≤ℤ v) (sym value) lies.from;
  to = subst (λ v. v ≤ℤ span.high) (sym value) lies.to;
  after = after-entry span.index row e span.last value key lies.after;
}

pub entry-ahead : (span : IndexRange) (row : Row) (e : Entry) → value_in span.index row ≡ e.value → row.key ≡ e.key → IsAhead span.index span.low span.high (seen_position span.last) row → LiesIn span e
entry-ahead span row e value key ahead = record {
  from = subst (λ v. span.low ≤ℤ v) value ahead.from;
  to = subst (λ v. v ≤ℤ span.high) value ahead.to;
  after = entry-after span.index row e span.last value key ahead.after;
}

-- the position of a row of this value and key
pub position-is : (index : ℕ) (row : Row) (m : IndexPosition) → value_in index row ≡ m.value → row.key ≡ m.key → Some (cursors.index_position_of index row) ≡ seen_position (Some m)
position-is index row m value key = by (value_in index row) m.value row.key m.key value key
  where
    position : ℤ → ℕ → relation.RowPosition
    position v k = record { value = v; key = k }

    by : (v v' : ℤ) (k k' : ℕ) → v ≡ v' → k ≡ k' → Some (position v k) ≡ Some (position v' k')
    by v v' k k' a b = rw (a, b) refl

-- of two keys that differ, one comes first
key-first : (k m : ℕ) → k ≢ m → ¬ (k < m) → m < k
key-first k m ne not-below = elim (cases_lt m k) [ inl below ↦ below | inr le ↦ elim (cases_lt k m) [ inl below ↦ absurd (not-below below) | inr le' ↦ absurd (ne (omega arith)) ] ]

same-value : (x y : ℤ) → x ≤ℤ y → y ≤ℤ x → x ≡ y
same-value x y a b = grind (arith, ints)

-- a row whose entry does not come before the position, and that has another key than the row there, comes after that row
pub comes-after : (index : ℕ) (row other : Row) (e : Entry) (m : IndexPosition) → value_in index row ≡ m.value → row.key ≡ m.key → value_in index other ≡ e.value → other.key ≡ e.key
    → other.key ≢ row.key → ¬ walking.IsBeforePosition e m → ComesBefore index row other
comes-after index row other e m value key value' key' ne isnt = by_lt_z m.value e.value
    (λ above. inl (subst (λ v. value_in index row <ℤ v) (sym value') (subst (λ v. v <ℤ e.value) (sym value) above)))
    (λ le. by_lt_z e.value m.value
    (λ below. absurd (isnt (inl below)))
    (λ le'. let same : e.value ≡ m.value = same-value e.value m.value le le' in
    inr (value ∙ (sym same ∙ sym value'), key-first other.key row.key ne (λ below. isnt (inr (same, subst (λ k. k < m.key) key' (subst (λ k. other.key < k) key below)))))))

-- What the session's cursor sees, and what the entries of an index in use lead it to.

-- what is found by a value and a key along the entries of the index
abbrev pub FindsBy : State → Session → ℕ → ℤ → ℕ → Option Row → Type 0
FindsBy st e index value key found =
    FirstFound st.heap.statuses (visibility.IsVisible st.heap.statuses (cursor_snapshot st.heap.statuses e.isolation) e.own.ids) (slots_of st.heap) (entries_in st.heap.indexes index) value key found

abbrev pub IsNextFor : State → Session → IndexRange → IndexPosition → Row → Type 0
IsNextFor st e span position row =
    IsNextRow st.heap.statuses (visibility.IsVisible st.heap.statuses (cursor_snapshot st.heap.statuses e.isolation) e.own.ids) (slots_of st.heap) (entries_in st.heap.indexes span.index) span position row

abbrev pub NoneIsLeft : State → Session → IndexRange → Type 0
NoneIsLeft st e span = NoneLeft st.heap.statuses (visibility.IsVisible st.heap.statuses (cursor_snapshot st.heap.statuses e.isolation) e.own.ids) (slots_of st.heap) (entries_in st.heap.indexes span.index) span

-- a version of the row is seen, and it has this value and key
pub record SeesRow (st : State) (e : Session) (index : ℕ) (value : ℤ) (key : ℕ) (row : Row) : Type 0 where
  pub place : Tid
  pub version : Version
  pub here : At (seen st).version place version
  pub shown : seen_by st e version
  pub same_row : version.row ≡ row
  pub of_value : value_in index row ≡ value
  pub of_key : row.key ≡ key

-- an entry leads to the version
pub record HasEntry (st : State) (index : ℕ) (row : Row) : Type 0 where
  pub entry : Entry
  pub there : Contains (entries_in st.heap.indexes index) entry
  pub value : value_in index row ≡ entry.value
  pub key : row.key ≡ entry.key

module _ (st : State) (w : World) (s : ℕ) (e : Session) (agrees : Agrees st w) (at : session_at st s ≡ Some e) (index : ℕ) (scans : IsScanned st e index) where
  sound-in : EntriesAreSound (value_in index) (since_at st.heap.indexes index) st.heap.statuses (slots_of st.heap) (entries_in st.heap.indexes index)
  sound-in = index-sound st.heap agrees.sound.table index scans.used

  row-shown : (value : ℤ) (key : ℕ) (row : Row) → FindsBy st e index value key (Some row) → SeesRow st e index value key row
  row-shown value key row finds =
      let h = found-on_heap (value_in index) (since_at st.heap.indexes index) st.heap.statuses (slots_of st.heap) (entries_in st.heap.indexes index) (cursor_snapshot st.heap.statuses e.isolation) e.own.ids sound-in (own-active st w s e agrees at) scans.unexcused value key (Some row) finds in
      record {
        place = h.0;
        version = h.1;
        here = h.2.there;
        shown = (cursor-sees st agrees.sound.window e.isolation e.own.ids h.1).0 h.2.has;
        same_row = sym h.3;
        of_value = ap (value_in index) h.3 ∙ h.2.of_value;
        of_key = ap (λ (r : Row). r.key) h.3 ∙ h.2.of_key;
      }

  none-shown : (value : ℤ) (key : ℕ) (row : Row) → FindsBy st e index value key None → SeesRow st e index value key row → ⊥
  none-shown value key row finds shows =
      found-on_heap (value_in index) (since_at st.heap.indexes index) st.heap.statuses (slots_of st.heap) (entries_in st.heap.indexes index) (cursor_snapshot st.heap.statuses e.isolation) e.own.ids sound-in (own-active st w s e agrees at) scans.unexcused value key None finds
      shows.place shows.version (record {
        there = shows.here;
        of_value = ap (value_in index) shows.same_row ∙ shows.of_value;
        of_key = ap (λ (r : Row). r.key) shows.same_row ∙ shows.of_key;
        has = (cursor-sees st agrees.sound.window e.isolation e.own.ids shows.version).1 shows.shown;
      })

  pub has-entry : (p : Tid) (v : Version) → At (seen st).version p v → seen_by st e v → HasEntry st index v.row
  has-entry p v here shown =
      let i = (visible-found (value_in index) (since_at st.heap.indexes index) st.heap.statuses (slots_of st.heap) (entries_in st.heap.indexes index) sound-in (cursor_snapshot st.heap.statuses e.isolation) e.own.ids (own-active st w s e agrees at) scans.unexcused (value_in index v.row) v.row.key p v).0
      (record { there = here; of_value = refl; of_key = refl; has = (cursor-sees st agrees.sound.window e.isolation e.own.ids v).1 shown }) in
      record { entry = i.entry; there = i.leads.there; value = sym i.of.0; key = sym i.of.1 }

module _ (st : State) (w : World) (s : ℕ) (e : Session) (agrees : Agrees st w) (at : session_at st s ≡ Some e) (span : IndexRange) (scans : IsScanned st e span.index) where
  -- a row that comes has an entry in the span, by whose value and key it is found
  come-by : (row : Row) → Comes (seen st).version (seen_by st e) (in_index span.index span.low span.high (seen_position span.last)) row
      → (h : HasEntry st span.index row) × LiesIn span h.entry × SeesRow st e span.index h.entry.value h.entry.key row
  come-by row c =
      let h = subst (HasEntry st span.index) c.same_row (has-entry st w s e agrees at span.index scans c.place c.version c.here c.shown) in (
        h,
        entry-ahead span row h.entry h.value h.key c.to_come,
        record { place = c.place; version = c.version; here = c.here; shown = c.shown; same_row = c.same_row; of_value = h.value; of_key = h.key },
      )

  -- the next row
  pub next-comes : (position : IndexPosition) (row : Row) → IsNextFor st e span position row → Comes (seen st).version (seen_by st e) (in_index span.index span.low span.high (seen_position span.last)) row
  next-comes position row next =
      let h = row-shown st w s e agrees at span.index scans position.value position.key row next.found in
      record {
        place = h.place;
        version = h.version;
        here = h.here;
        shown = h.shown;
        same_row = h.same_row;
        to_come = ahead-entry span row next.entry (h.of_value ∙ next.value) (h.of_key ∙ next.key) next.lies;
      }

  pub next-position : (position : IndexPosition) (row : Row) → IsNextFor st e span position row → Some (cursors.index_position_of span.index row) ≡ seen_position (Some position)
  next-position position row next = let h = row-shown st w s e agrees at span.index scans position.value position.key row next.found in position-is span.index row position h.of_value h.of_key

  -- all others that come are after it
  pub next-first : (position : IndexPosition) (row : Row) → IsNextFor st e span position row
      → (other : Row) → Comes (seen st).version (seen_by st e) (in_index span.index span.low span.high (seen_position span.last)) other → other.key ≢ row.key → ComesBefore span.index row other
  next-first position row next other comes ne =
      let h = row-shown st w s e agrees at span.index scans position.value position.key row next.found in
      let c = come-by other comes in
      let entry = c.0 in
      comes-after span.index row other entry.entry position h.of_value h.of_key entry.value entry.key ne
      (λ before. none-shown st w s e agrees at span.index scans entry.entry.value entry.entry.key other (next.none_before entry.entry entry.there c.1 before) c.2)

  -- none is left
  pub none-comes : NoneIsLeft st e span → (row : Row) → ¬ Comes (seen st).version (seen_by st e) (in_index span.index span.low span.high (seen_position span.last)) row
  none-comes none row comes =
      let c = come-by row comes in
      none-shown st w s e agrees at span.index scans c.0.entry.value c.0.entry.key row (none c.0.entry c.0.there c.1) c.2
