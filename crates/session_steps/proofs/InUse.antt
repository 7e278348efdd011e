-- The indexes in use, and which of them open sessions may scan.
use Rattle.std.proofs.Common.{◌≡◌, ◌<◌, ℕ, zero, suc, Bool, true, false, List, [], ◌∷◌, length, set, Option, Some, None, refl, sym, ap, ◌∙◌, subst, inl, inr}
use Rattle.std.proofs.lemmas.Option.{same_Some, none-some}
use Rattle.std.specs.Option.{option_map}
use Rattle.std.specs.Prelude.{◌↔◌, IsSome, is_some, unwrap_or, slice_index_or, if◌then◌else◌}
use Rattle.index_entries.specs.declared.entry.Entry.{Entry}
use Rattle.root_index.specs.View.{IndexView}
use Rattle.commit_status.specs.Window.{Window}
use Rattle.snapshot.specs.Snap.{Snap}
use Rattle.sound_entries.specs.Entries.{EntriesAreSound}
use Rattle.sound_entries.specs.Since.{MayScanSince}
use Rattle.sound_entries.proofs.Since.{same-scan}
use Rattle.table_indexes.specs.Indexes.{IndexesView, index_at, since_at, entries_at, entries_in, entries_of, IsInUse, new_entries}
use Rattle.heap_write.specs.Heap.{slots_of, key_value}
use Rattle.index_lookup.specs.declared.index_scan.IndexRange.{IndexRange}
use Rattle.table_integrity.proofs.InUse.{index-sound}
use Rattle.history.specs.World.{World, is_indexed}
use Rattle.refinement.specs.Agrees as relation
use Rattle.refinement.proofs.Runs.{KeepsScans}
use Rattle.sessions.specs.declared.session.Session.{Session}
use Rattle.sessions.specs.declared.session.SessionIsolation.{SessionIsolation}
use Rattle.table_scans.specs.declared.progress.CursorScan.{CursorScan}
use Rattle.table_scans.specs.declared.progress.CursorScan.TheVariants.{Rows}
use Rattle.table_scans.specs.declared.progress.Scan.TheVariants.{Index}
use Rattle.sessions.specs.Places.{open_at}
use Rattle.session_steps.specs.State.{State, seen, reader_of}
use Rattle.sessions.specs.Session.{kept_by, is_too_new}
use Rattle.session_steps.specs.Agrees.{Sound, Agrees, SessionScans, WrittenAgrees}
use Rattle.session_steps.proofs.OwnIdsLemmas.{open-within, open-set_cases}

-- the primary index is
pub by-key : (st : State) → Sound st → EntriesAreSound key_value None st.heap.statuses (slots_of st.heap) (entries_in st.heap.indexes 0)
by-key st sound = index-sound st.heap sound.table 0 sound.by_key

pub used-still : (indexes : IndexesView) (n : ℕ) → IsInUse indexes n ↔ IsInUse indexes n
used-still indexes n = (λ used. used, λ used. used)

pub same-used : (xs ys : IndexesView) → ys ≡ xs → (n : ℕ) → IsInUse xs n ↔ IsInUse ys n
same-used xs ys same = subst (λ zs. (n : ℕ) → IsInUse xs n ↔ IsInUse zs n) (sym same) (used-still xs)

-- a new table
none-in : (b : Bool) → unwrap_or {T = List Entry} (if b then Some [] else None) [] ≡ []
none-in true = refl
none-in false = refl

pub new-empty : (indexes : IndexesView) (indexed : List Bool) → ((n : ℕ) → entries_at indexes n ≡ new_entries indexed n) → (n : ℕ) → entries_in indexes n ≡ []
new-empty indexes indexed is zero = ap (λ (o : Option (List Entry)). unwrap_or o []) (is 0)
new-empty indexes indexed is (suc c) = ap (λ (o : Option (List Entry)). unwrap_or o []) (is (suc c)) ∙ none-in (slice_index_or indexed c false)

pub new-in_use : (indexes : IndexesView) (indexed : List Bool) → ((n : ℕ) → entries_at indexes n ≡ new_entries indexed n) → (n : ℕ) → IsInUse indexes n ↔ IsSome (new_entries indexed n)
new-in_use indexes indexed is n = (λ used. subst (λ (o : Option (List Entry)). IsSome o) (is n) used, λ used. subst (λ (o : Option (List Entry)). IsSome o) (sym (is n)) used)

-- The world's indexes.

is-named : (b : Bool) → IsSome {T = List Entry} (if b then Some [] else None) ↔ (b ≡ true)
is-named true = (λ some. refl, λ is. refl)
is-named false = (λ some. absurd (let e : IsSome {T = List Entry} None = some in cc), λ is. absurd (cc))

pub indexed-is : (columns : List Bool) (n : ℕ) → IsSome (new_entries columns n) ↔ (is_indexed columns n ≡ true)
indexed-is columns zero = (λ some. refl, λ is. refl)
indexed-is columns (suc c) = is-named (slice_index_or columns c false)

-- Marks of indexes that are too new.

-- who is open then was open before, and has the same marks
abbrev pub SameMarks : List (Option Session) → List (Option Session) → Type 0
SameMarks xs ys = (s : ℕ) (e : Session) → open_at ys s ≡ Some e → (f : Session) × (open_at xs s ≡ Some f) × (e.too_new ≡ f.too_new)

pub marks-stay : (xs : List (Option Session)) → SameMarks xs xs
marks-stay xs s e at = (e, at, refl)

pub marks-put : (xs : List (Option Session)) (s : ℕ) (e now : Session) → open_at xs s ≡ Some e → now.too_new ≡ e.too_new → SameMarks xs (set xs s (Some now))
marks-put xs s e now at same o f bt = elim (open-set_cases xs s o (Some now) f (open-within xs s e at) bt) [
  | inl here ↦ (e, subst (λ n. open_at xs n ≡ Some e) (sym here.0) at, ap (λ (g : Session). g.too_new) (sym (same_Some now f here.1)) ∙ same)
  | inr other ↦ (f, other.1, refl)
]

pub marks-close : (xs : List (Option Session)) (s : ℕ) → s < length xs → SameMarks xs (set xs s None)
marks-close xs s within o f bt = elim (open-set_cases xs s o None f within bt) [
  | inl here ↦ absurd (none-some f here.1)
  | inr other ↦ (f, other.1, refl)
]

-- by the same marks the same indexes are too new
pub same-too_new : (e now : Session) → now.too_new ≡ e.too_new → (n : ℕ) → is_too_new now n ≡ is_too_new e n
same-too_new e now same n = ap (λ (marks : List Bool). slice_index_or (false ∷ marks) n false) same

-- an engine with the same indexes in use and the same marks agrees with a world that has the same
pub agree : {st st' : State} {w w' : World} → Agrees st w → ((n : ℕ) → IsInUse st.heap.indexes n ↔ IsInUse st'.heap.indexes n) → SameMarks st.sessions st'.sessions → KeepsScans w w' → WrittenAgrees st' w'
    → relation.HeapAgrees (seen st') w' → Sound st' → Agrees st' w'
agree {st} {st'} {w} {w'} agrees same marks keeps written found sound = record {
  found = found;
  indexes = λ n. (
    λ used. ap (λ (has : ℕ → Bool). has n) keeps.had ∙ (agrees.indexes n).0 ((same n).1 used),
    λ has. (same n).0 ((agrees.indexes n).1 (sym (ap (λ (has : ℕ → Bool). has n) keeps.had) ∙ has)),
  );
  scans = λ s e at n.
      let was = marks s e at in
      let m = agrees.found.opened s (reader_of was.0) (ap (option_map reader_of) was.1) in
      keeps.scans s m.0 m.1 n ∙ (agrees.scans s was.0 was.1 n ∙ sym (same-too_new was.0 e was.2 n));
  written = written;
  sound = sound;
}

-- an index that is found is in use
pub there-used : (before st : State) (n : ℕ) (index : IndexView) → before ≡ st → index_at before.heap.indexes n ≡ Some index → IsInUse st.heap.indexes n
there-used before st n index is at = subst (λ (st : State). IsInUse st.heap.indexes n) is (ap (λ (o : Option IndexView). is_some (entries_of o)) at)

-- What an open session may scan.

-- a cursor of a session that reads so goes along an index in use, which it may scan by the snapshot that is kept
abbrev pub GoesAlong : Window → IndexesView → SessionIsolation → Option CursorScan → Type 0
GoesAlong w indexes isolation cursor = (span : IndexRange) → cursor ≡ Some (Rows (Index span))
    → IsInUse indexes span.index × ((snap : Snap) → kept_by isolation ≡ Some snap → MayScanSince w (since_at indexes span.index) snap)

-- so it is of each open session
abbrev pub AllScan : Window → IndexesView → List (Option Session) → Type 0
AllScan w indexes sessions = (s : ℕ) (e : Session) → open_at sessions s ≡ Some e → SessionScans w indexes e

pub no-cursor : (w : Window) (indexes : IndexesView) (isolation : SessionIsolation) (cursor : Option CursorScan) → cursor ≡ None → GoesAlong w indexes isolation cursor
no-cursor w indexes isolation cursor none span is = absurd (none-some (Rows (Index span)) (sym none ∙ is))

-- where the oldest id stays, and the same indexes are in use, exact from the same ids on
pub scans-still : (w v : Window) (xs ys : IndexesView) → v.first ≡ w.first → ((n : ℕ) → IsInUse xs n ↔ IsInUse ys n) → ((n : ℕ) → since_at ys n ≡ since_at xs n) → (e : Session) → SessionScans w xs e → SessionScans v ys e
scans-still w v xs ys first used since e h = record {
  by_snapshot = λ n snap reads may. by n snap (h.by_snapshot n snap reads may);
  cursor = λ span is. let c = h.cursor span is in ((used span.index).0 c.0, λ snap kept. by span.index snap (c.1 snap kept));
}
  where
    by : (n : ℕ) (snap : Snap) → MayScanSince w (since_at xs n) snap → MayScanSince v (since_at ys n) snap
    by n snap may = subst (λ (since : Option ℕ). MayScanSince v since snap) (sym (since n)) (same-scan w v first (since_at xs n) snap may)

-- a session that reads so, with the same cursor and the same marks
pub scans-as : (w : Window) (indexes : IndexesView) (e now : Session) → now.isolation ≡ e.isolation → now.cursor ≡ e.cursor → now.too_new ≡ e.too_new → SessionScans w indexes e → SessionScans w indexes now
scans-as w indexes e now reads cursor marks h = record {
  by_snapshot = λ n snap is may. h.by_snapshot n snap (sym reads ∙ is) (sym (same-too_new e now marks n) ∙ may);
  cursor = λ span is. let c = h.cursor span (sym cursor ∙ is) in (c.0, λ snap kept. c.1 snap (ap kept_by (sym reads) ∙ kept));
}

-- one session becomes another, or opens
pub scans-put : (w : Window) (indexes : IndexesView) (xs : List (Option Session)) (s : ℕ) (now : Session) → s < length xs → SessionScans w indexes now → AllScan w indexes xs → AllScan w indexes (set xs s (Some now))
scans-put w indexes xs s now within here all o f at = elim (open-set_cases xs s o (Some now) f within at) [
  | inl is ↦ subst (SessionScans w indexes) (same_Some now f is.1) here
  | inr other ↦ all o f other.1
]
