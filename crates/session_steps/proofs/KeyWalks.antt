-- A scan over keys alone is a walk in the index by key, as the relation has it, where what is noted of the pages holds.
use Rattle.std.proofs.Common.{◌≡◌, ◌≢◌, ℕ, zero, suc, ◌<◌, ℤ, List, [], ◌∷◌, ◌++◌, length, slice_get, Option, Some, None, refl, sym, ap, ◌∙◌, subst, inl, inr, arith}
use Rattle.std.proofs.lemmas.Option.{none-some}
use Rattle.std.proofs.lemmas.List.{map-append}
use Rattle.xid_circle.specs.Circle.{Precedes}
use Rattle.xid_circle.specs.declared.Tid.{Tid}
use Rattle.tuple_header.specs.Version.{Version}
use Rattle.tuple_header.specs.declared.version.Row.{Row}
use Rattle.tuple_header.specs.IndexValue.{value_in}
use Rattle.page_slots.specs.View.{PageView}
use Rattle.page_sheet.specs.declared.slot.Slot.TheVariants.{Dead}
use Rattle.page_sheet.specs.Slots.{slot_at, version_at, version_of}
use Rattle.std.specs.Option.{option_and_then}
use Rattle.commit_status.specs.declared.status.Status.TheVariants.{InProgress, Committed}
use Rattle.commit_status.specs.Window.{IsCommitted}
use Rattle.commit_status.proofs.Places.{upto-place}
use Rattle.commit_status.proofs.Giving.{finished-place}
use Rattle.snapshot.specs.Snap.{Snap, Sees}
use Rattle.snapshot.proofs.Sights.{past-seen}
use Rattle.visibility.specs.Seeing.{by_others}
use Rattle.visibility.specs.Visible.{IsVisible, ReadsIn}
use Rattle.visibility.proofs.Makers.{committed-from, state-some, visible-of}
use Rattle.visibility.proofs.Statements.{given-before}
use Rattle.freeze.specs.AllVisible.{IsSettled}
use Rattle.index_lookup.specs.Pages.{page_slots_of, slot_in, version_in}
use Rattle.index_lookup.specs.Keys.{IsNotedVisible, KeyShows}
use Rattle.index_lookup.specs.Walking as walking
use Rattle.index_lookup.specs.declared.index_scan.IndexPosition.{IndexPosition}
use Rattle.index_lookup.proofs.PageLists.{slots-there, slots-none}
use Rattle.table_indexes.specs.Indexes.{entries_in}
use Rattle.sound_entries.specs.Entries.{EntriesAreSound}
use Rattle.sound_entries.proofs.KeysOnHeap.{NotedIsSeen, shows-on_heap, on_heap-shows}
use Rattle.table_integrity.proofs.InUse.{index-sound}
use Rattle.history.specs.Cursors.{ComesBefore, keys_of}
use Rattle.history.specs.World.{World}
use Rattle.refinement.specs.Heap.{in_index}
use Rattle.refinement.specs.Cursors.{Comes, WalksOver}
use Rattle.refinement.proofs.CursorWalks.{Meets-one}
use Rattle.refinement.proofs.FollowsKeys.{comes_along, comes_by_keys}
use Rattle.table_scans.specs.declared.progress.KeyRange.{KeyRange}
use Rattle.table_scans.specs.declared.progress.CursorScan.TheVariants.{Keys}
use Rattle.table_scans.specs.Scans.{Sight}
use Rattle.table_scans.specs.Keys.{span_of, IsNextKeyIn, NoKeyIsIn, ScansKeys, keys_begin, keys_go_on}
use Rattle.sessions.specs.declared.session.Session.{Session}
use Rattle.sessions.specs.declared.session.SessionIsolation.{SessionIsolation}
use Rattle.sessions.specs.declared.session.SessionIsolation.TheVariants.{BySnapshot, ByStatement}
use Rattle.session_steps.specs.State.{State, session_at, seen, seen_position, horizon_of}
use Rattle.sessions.specs.Session.{cursor_snapshot, kept_by}
use Rattle.session_steps.specs.Agrees.{Agrees, NotesHold}
use Rattle.session_steps.specs.Takes.{session_sight}
use Rattle.session_steps.proofs.Scanning.{IsScanned}
use Rattle.session_steps.proofs.Searches.{own-active}
use Rattle.session_steps.proofs.Statements.{cursor-sees}
use Rattle.session_steps.proofs.Horizons.{upto-horizon, below-xmin}
use Rattle.session_steps.proofs.AtCursor.{seen_by, IsAtCursor, NoneToCome, SomeToCome, first-row}
use Rattle.session_steps.proofs.Walks.{SeesRow, HasEntry, has-entry, ahead-entry, entry-ahead, comes-after, position-is}

-- What is noted of the pages is so for the session's cursor.

module _ (st : State) (w : World) (s : ℕ) (e : Session) (agrees : Agrees st w) (at : session_at st s ≡ Some e) where
  -- it counts what was committed before the horizon
  past-counted : (x : ℕ) → IsCommitted st.heap.statuses x → Precedes x (horizon_of st) → Sees (cursor_snapshot st.heap.statuses e.isolation) st.heap.statuses x
  past-counted x done before = by e.isolation refl
    where
      by-kept : (snap : Snap) → kept_by e.isolation ≡ Some snap → Sees snap st.heap.statuses x
      by-kept snap kept =
          let place = finished-place st.heap.statuses x (λ active. let e : Committed ≡ InProgress = sym done ∙ active in absurd (cc)) in
          past-seen st.heap.statuses snap (horizon_of st) x agrees.sound.window ((agrees.sound.sessions s e at).snapshot snap kept).bounds (upto-horizon st w agrees)
          (upto-place st.heap.statuses x place.0 place.1) (below-xmin st w agrees s e snap at kept) before

      by : (i : SessionIsolation) → e.isolation ≡ i → Sees (cursor_snapshot st.heap.statuses i) st.heap.statuses x
      by (BySnapshot snap) is = by-kept snap (subst (λ i. kept_by i ≡ Some snap) (sym is) refl)
      by (ByStatement (Some snap)) is = by-kept snap (subst (λ i. kept_by i ≡ Some snap) (sym is) refl)
      by (ByStatement None) is = Sees.early (given-before st.heap.statuses x agrees.sound.window (state-some st.heap.statuses x Committed (committed-from st.heap.statuses x done)).0)

  -- so it sees what is settled
  settled-seen : (t : Version) → IsSettled st.heap.statuses (horizon_of st) t.header → IsVisible st.heap.statuses (cursor_snapshot st.heap.statuses e.isolation) e.own.ids t.header
  settled-seen t settled = visible-of (ReadsIn st.heap.statuses (cursor_snapshot st.heap.statuses e.isolation) e.own.ids) t.header
      (elim settled.made [ inl frozen ↦ inl frozen | inr made ↦ inr (by_others (past-counted t.header.xmin.0 made.0 made.1) (committed-from st.heap.statuses t.header.xmin.0 made.0)) ])
      (λ some. absurd (some settled.kept))

  noted-seen : NotesHold st → NotedIsSeen st.heap.statuses (cursor_snapshot st.heap.statuses e.isolation) e.own.ids st.heap.pages
  noted-seen hold = record {
    alive = λ p noted dead. by-alive p noted (slice_get st.heap.pages.pages p.page) refl dead;
    seen = λ p t noted there. by-seen p t noted (slice_get st.heap.pages.pages p.page) refl there;
  }
    where
      bare : (n : ℕ) → slot_at [] n ≡ None
      bare zero = refl
      bare (suc n) = refl

      by-alive : (p : Tid) → IsNotedVisible st.heap.pages.marks p.page → (o : Option PageView) → slice_get st.heap.pages.pages p.page ≡ o → slot_in (page_slots_of st.heap.pages) p ≢ Some Dead
      by-alive p noted None is dead = none-some Dead (sym (bare p.slot) ∙ (sym (ap (λ slots. slot_at slots p.slot) (slots-none st.heap.pages.pages p.page is)) ∙ dead))
      by-alive p noted (Some page) is dead = (hold p.page page is noted).none_dead p.slot (sym (ap (λ slots. slot_at slots p.slot) (slots-there st.heap.pages.pages p.page page is)) ∙ dead)

      by-seen : (p : Tid) (t : Version) → IsNotedVisible st.heap.pages.marks p.page → (o : Option PageView) → slice_get st.heap.pages.pages p.page ≡ o → version_in (page_slots_of st.heap.pages) p ≡ Some t
          → IsVisible st.heap.statuses (cursor_snapshot st.heap.statuses e.isolation) e.own.ids t.header
      by-seen p t noted None is there = absurd (none-some t (sym (ap (option_and_then version_of) (bare p.slot)) ∙ (sym (ap (λ slots. version_at slots p.slot) (slots-none st.heap.pages.pages p.page is)) ∙ there)))
      by-seen p t noted (Some page) is there = settled-seen t ((hold p.page page is noted).settled p.slot t (sym (ap (λ slots. version_at slots p.slot) (slots-there st.heap.pages.pages p.page page is)) ∙ there))

-- What its keys lead the session's cursor to.

-- the key shows for the session's cursor
abbrev pub ShowsFor : State → Session → ℤ → ℕ → Type 0
ShowsFor st e value key = KeyShows st.heap.statuses (IsVisible st.heap.statuses (cursor_snapshot st.heap.statuses e.isolation) e.own.ids) st.heap.pages (entries_in st.heap.indexes 0) value key

module _ (st : State) (w : World) (s : ℕ) (e : Session) (agrees : Agrees st w) (at : session_at st s ≡ Some e) where
  -- the index by key leaves nothing out
  by_key : IsScanned st e 0
  by_key = record { used = agrees.sound.by_key; unexcused = λ t none. absurd none }

  sound-by_key : EntriesAreSound (value_in 0) None st.heap.statuses (page_slots_of st.heap.pages) (entries_in st.heap.indexes 0)
  sound-by_key = index-sound st.heap agrees.sound.table 0 agrees.sound.by_key

  key-shown : NotesHold st → (value : ℤ) (key : ℕ) → ShowsFor st e value key → (row : Row) × SeesRow st e 0 value key row
  key-shown hold value key shows =
      let h = shows-on_heap (value_in 0) None st.heap.statuses st.heap.pages (entries_in st.heap.indexes 0) (cursor_snapshot st.heap.statuses e.isolation) e.own.ids sound-by_key
      (own-active st w s e agrees at) (λ t none. absurd none) value key (noted-seen st w s e agrees at hold) shows in (
        h.1.row,
        record {
          place = h.0;
          version = h.1;
          here = h.2.there;
          shown = (cursor-sees st agrees.sound.window e.isolation e.own.ids h.1).0 h.2.has;
          same_row = refl;
          of_value = h.2.of_value;
          of_key = h.2.of_key;
        },
      )

  row-shows : (value : ℤ) (key : ℕ) (row : Row) → SeesRow st e 0 value key row → ShowsFor st e value key
  row-shows value key row sees =
      on_heap-shows (value_in 0) None st.heap.statuses st.heap.pages (entries_in st.heap.indexes 0) (cursor_snapshot st.heap.statuses e.isolation) e.own.ids sound-by_key
      (own-active st w s e agrees at) (λ t none. absurd none) value key sees.place sees.version (record {
        there = sees.here;
        of_value = ap (value_in 0) sees.same_row ∙ sees.of_value;
        of_key = ap (λ (r : Row). r.key) sees.same_row ∙ sees.of_key;
        has = (cursor-sees st agrees.sound.window e.isolation e.own.ids sees.version).1 sees.shown;
      })

-- What comes in a range, as it comes along the index by key.
abbrev pub ComesOver : State → Session → KeyRange → Row → Type 0
ComesOver st e range row = Comes (seen st).version (seen_by st e) (in_index 0 range.low range.high (seen_position range.last)) row

module _ (st : State) (w : World) (s : ℕ) (e : Session) (agrees : Agrees st w) (at : session_at st s ≡ Some e) (range : KeyRange) where
  -- a row that comes has an entry in the range
  come-by : (row : Row) → ComesOver st e range row → (h : HasEntry st 0 row) × walking.LiesIn (span_of range) h.entry × SeesRow st e 0 h.entry.value h.entry.key row
  come-by row c =
      let h = subst (HasEntry st 0) c.same_row (has-entry st w s e agrees at 0 (by_key st w s e agrees at) c.place c.version c.here c.shown) in (
        h,
        entry-ahead (span_of range) row h.entry h.value h.key c.to_come,
        record { place = c.place; version = c.version; here = c.here; shown = c.shown; same_row = c.same_row; of_value = h.value; of_key = h.key },
      )

  module _ (position : IndexPosition) (next : IsNextKeyIn (session_sight st e) range position) (row : Row) (sees : SeesRow st e 0 position.value position.key row) where
    next-comes : ComesOver st e range row
    next-comes = record {
      place = sees.place;
      version = sees.version;
      here = sees.here;
      shown = sees.shown;
      same_row = sees.same_row;
      to_come = ahead-entry (span_of range) row next.entry (sees.of_value ∙ next.value) (sees.of_key ∙ next.key) next.lies;
    }

    -- all others that come are after it
    next-first : (other : Row) → ComesOver st e range other → other.key ≢ row.key → ComesBefore 0 row other
    next-first other comes ne =
        let c = come-by other comes in
        comes-after 0 row other c.0.entry position sees.of_value sees.of_key c.0.value c.0.key ne
        (λ before. next.none_before c.0.entry c.0.there c.1 before (row-shows st w s e agrees at c.0.entry.value c.0.entry.key other c.2))

  -- none is left
  none-comes : NoKeyIsIn (session_sight st e) range → (row : Row) → ¬ ComesOver st e range row
  none-comes none row comes = let c = come-by row comes in none c.0.entry c.0.there c.1 (row-shows st w s e agrees at c.0.entry.value c.0.entry.key row c.2)

-- The keys are those of some rows that a walk meets, and what is left is behind them.

pub record WalksKeys (st : State) (e : Session) (range left : KeyRange) (keys : List ℕ) : Type 0 where
  pub rows : List Row
  pub are : keys ≡ keys_of rows
  pub meets : WalksOver (seen st).version (seen_by st e) 0 range.low range.high (seen_position range.last) (seen_position left.last) rows

-- what is left has the bounds of the range
pub still-within : {t : Sight} {range left : KeyRange} {keys : List ℕ} → ScansKeys t range left keys → left ≡ record range { last = left.last }
still-within keys_begin = refl
still-within (keys_go_on before keys position scans next) = ap (λ (r : KeyRange). record r { last = Some position }) (still-within scans)

comes-within : (st : State) (e : Session) (range left : KeyRange) (row : Row) → left ≡ record range { last = left.last } → ComesOver st e left row
    → Comes (seen st).version (seen_by st e) (in_index 0 range.low range.high (seen_position left.last)) row
comes-within st e range left row same comes = subst (λ (r : KeyRange). Comes (seen st).version (seen_by st e) (in_index 0 r.low r.high (seen_position left.last)) row) same comes

pub within-comes : (st : State) (e : Session) (range left : KeyRange) (row : Row) → left ≡ record range { last = left.last }
    → Comes (seen st).version (seen_by st e) (in_index 0 range.low range.high (seen_position left.last)) row → ComesOver st e left row
within-comes st e range left row same comes = subst (λ (r : KeyRange). Comes (seen st).version (seen_by st e) (in_index 0 r.low r.high (seen_position left.last)) row) (sym same) comes

none-walks : (st : State) (e : Session) (range : KeyRange) → WalksKeys st e range range []
none-walks st e range = record {
  rows = [];
  are = refl;
  meets = record {
    theirs = λ i row is. absurd (none-some row is);
    in_order = λ i j a b is bs lt. absurd (none-some a is);
    met = λ row coming. inl coming.to_come.after;
    onward = λ row past. past;
  };
}

module _ (st : State) (e : Session) (range left : KeyRange) (keys : List ℕ) (at : IsAtCursor st e (Keys range)) (hold : NotesHold st) (same : left ≡ record range { last = left.last }) (h : WalksKeys st e range left keys) where
  one-walks : (position : IndexPosition) → IsNextKeyIn (session_sight st e) left position → WalksKeys st e range (record left { last = Some position }) (keys ++ position.key ∷ [])
  one-walks position next =
      let shown = key-shown st at.world at.number e at.agrees at.there hold position.value position.key next.shows in
      let row = shown.0 in
      record {
        rows = h.rows ++ row ∷ [];
        are = ap (λ ks. ks ++ position.key ∷ []) h.are ∙ (ap (λ (k : ℕ). keys_of h.rows ++ k ∷ []) (sym shown.1.of_key) ∙ sym (map-append (λ (r : Row). r.key) h.rows (row ∷ [])));
        meets = subst (λ to. WalksOver (seen st).version (seen_by st e) 0 range.low range.high (seen_position range.last) to (h.rows ++ row ∷ []))
            (position-is 0 row position shown.1.of_value shown.1.of_key)
            (Meets-one row (comes-within st e range left row same (next-comes st at.world at.number e at.agrees at.there left position next row shown.1))
            (λ other comes ne. next-first st at.world at.number e at.agrees at.there left position next row shown.1 other (within-comes st e range left other same comes) ne)
            h.meets);
      }

pub keys-walk : {st : State} {e : Session} {range left : KeyRange} {keys : List ℕ} → IsAtCursor st e (Keys range) → NotesHold st → ScansKeys (session_sight st e) range left keys → WalksKeys st e range left keys
keys-walk {st} {e} {range} at hold keys_begin = none-walks st e range
keys-walk {st} {e} {range} at hold (keys_go_on before keys position scans next) = one-walks st e range before keys at hold (still-within scans) (keys-walk at hold scans) position next

-- nothing comes in what is left, where no key shows in it
pub none-left : (st : State) (e : Session) (range left : KeyRange) → IsAtCursor st e (Keys range) → NoKeyIsIn (session_sight st e) left → (row : Row) → ¬ ComesOver st e left row
none-left st e range left at none row comes = none-comes st at.world at.number e at.agrees at.there left none row comes

pub no-keys : (st : State) (e : Session) (range : KeyRange) → NoKeyIsIn (session_sight st e) range → IsAtCursor st e (Keys range) → NoneToCome st e (Keys range)
no-keys st e range none at row comes = none-left st e range range at none row (comes_along comes)

some-rows : (keys : List ℕ) (rows : List Row) → keys ≡ keys_of rows → 0 < length keys → 0 < length rows
some-rows keys [] are some = absurd (let e = ap length are in omega (arith, e, some))
some-rows keys (row ∷ rows) are some = omega arith

pub some-keys : (st : State) (e : Session) (range left : KeyRange) (keys : List ℕ) → NotesHold st → ScansKeys (session_sight st e) range left keys → 0 < length keys → IsAtCursor st e (Keys range) → SomeToCome st e (Keys range)
some-keys st e range left keys hold scans some at =
    let walks = keys-walk at hold scans in
    let first = first-row walks.rows (some-rows keys walks.rows walks.are some) in
    (first.0, comes_by_keys (walks.meets.theirs 0 first.0 first.1).0)
