-- When an engine agrees with a world of the history.
use Rattle.std.specs.Prelude.{◌≡◌, ◌↔◌, ℕ, Bool, true, false, List, [], ◌∷◌, length, Some, IsSome, slice_get, Contains}
use Rattle.history.specs.World.{World, OpenSession}
use Rattle.snapshot.specs.Snap.{Snap}
use Rattle.snapshot.specs.Laws.{IsInWindow}
use Rattle.snapshot.specs.Own.{ArePrefixes, AreDistinct}
use Rattle.commit_status.specs.Window.{Window, IsWindow, IsCommitted, top_of}
use Rattle.forgetting.specs.Truncating.{IsWellTopped}
use Rattle.calls.specs.declared.step.Step.{Step}
use Rattle.calls.specs.declared.step.Step.TheVariants as step
use Rattle.calls.specs.declared.reply.Reply.{Reply}
use Rattle.refinement.specs.Allowed.{Allows, next}
use Rattle.refinement.specs.Agrees as relation
use Rattle.sound_entries.specs.Entries.{KeepsTargets}
use Rattle.sound_entries.specs.Since.{IsExactSince, MayScanSince}
use Rattle.table_indexes.specs.Indexes.{IndexesView, entries_in, since_at, IsInUse}
use Rattle.heap_write.specs.Heap.{slots_of}
use Rattle.index_lookup.specs.declared.index_scan.IndexRange.{IndexRange}
use Rattle.table_integrity.specs.Table.{SoundTable}
use Rattle.sessions.specs.declared.session.Session.{Session}
use Rattle.sessions.specs.declared.session.SessionIsolation.TheVariants.{BySnapshot}
use Rattle.table_scans.specs.declared.progress.Scan.TheVariants.{Index}
use Rattle.table_scans.specs.declared.progress.CursorScan.TheVariants.{Rows}
use Rattle.page_slots.specs.View.{PageView}
use Rattle.index_lookup.specs.Keys.{IsNotedVisible}
use Rattle.freeze.specs.AllVisible.{IsAllVisible}
use Rattle.session_steps.specs.State.{State, session_at, seen, horizon_of}
use Rattle.sessions.specs.Session.{IsByStatement, kept_by, is_too_new}
use Rattle.calls.specs.declared.step.TheConstants.{MOST_SESSIONS}

-- what the ids of an open session keep
pub record SessionKeeps (w : Window) (e : Session) : Type 0 where
  -- the ids that the snapshot names which it keeps are in the window, or the next one, and each that this lists is between xmin and xmax
  pub snapshot : (snap : Snap) → kept_by e.isolation ≡ Some snap → IsInWindow w snap
  -- by statement it keeps one only while its cursor is open
  pub for_cursor : IsByStatement e.isolation → IsSome (kept_by e.isolation) → IsSome e.cursor
  -- its first id is the topmost parent of each
  pub topmost : (x : ℕ) → Contains e.own.ids x → slice_get e.own.ids 0 ≡ Some (top_of w x)
  -- what it had at each savepoint is a prefix of what it had at the next
  pub prefixes : ArePrefixes e.own.ids e.own.saved
  pub distinct : AreDistinct e.own.ids

-- which indexes an open session may scan
pub record SessionScans (w : Window) (indexes : IndexesView) (e : Session) : Type 0 where
  -- by the snapshot of its beginning it may scan each that is not too new for it
  pub by_snapshot : (n : ℕ) (snap : Snap) → e.isolation ≡ BySnapshot snap → is_too_new e n ≡ false → MayScanSince w (since_at indexes n) snap
  -- its cursor goes along one in use, which it may scan by the snapshot that it keeps
  pub cursor : (span : IndexRange) → e.cursor ≡ Some (Rows (Index span)) → IsInUse indexes span.index
      × ((snap : Snap) → kept_by e.isolation ≡ Some snap → MayScanSince w (since_at indexes span.index) snap)

-- what the ids and the pages of an engine keep
pub record Sound (st : State) : Type 0 where
  pub count : length st.sessions ≡ MOST_SESSIONS
  -- no more pages may be in use, and no id is given further from the first, than the settings say
  pub max_pages : st.heap.max_pages ≡ st.settings.max_pages
  pub stop_age : st.heap.statuses.stop_age ≡ st.settings.stop_age
  -- the window is shorter than half the circle
  pub window : IsWindow st.heap.statuses
  pub sessions : (s : ℕ) (e : Session) → session_at st s ≡ Some e → SessionKeeps st.heap.statuses e
  -- what is committed, its topmost parent is not in progress, and is itself or was given before it
  pub tops : (x : ℕ) → IsCommitted st.heap.statuses x → IsWellTopped st.heap.statuses x
  -- the primary index is in use
  pub by_key : IsInUse st.heap.indexes 0
  -- each always was exact; or it is from an id on that is remembered, or the next, and no id in progress was given before that
  pub since : (n : ℕ) → IsExactSince st.heap.statuses (since_at st.heap.indexes n)
  pub scans : (s : ℕ) (e : Session) → session_at st s ≡ Some e → SessionScans st.heap.statuses st.heap.indexes e
  -- sound entries, on sound pages
  pub table : SoundTable st.heap

-- the list names an id
abbrev pub names_id : List ℕ → Bool
names_id [] = false
names_id (x ∷ ids) = true

-- each of the lists does, or none, as is told
abbrev pub NameIds : Bool → List (List ℕ) → Type 0
NameIds told [] = Unit {0}
NameIds told (ids ∷ more) = (names_id ids ≡ told) × NameIds told more

-- an open session has an id exactly where it has written, and would have one after a return to any of its savepoints
abbrev pub WrittenAgrees : State → World → Type 0
WrittenAgrees st w = (s : ℕ) (e : Session) (m : OpenSession) → session_at st s ≡ Some e → w.session s ≡ Some m → NameIds m.has_written (e.own.ids ∷ e.own.saved)

pub record Agrees (st : State) (w : World) : Type 0 where
  -- each session reads its view, a new one would read what is committed; same sessions; exact traces
  pub found : relation.HeapAgrees (seen st) w
  -- the indexes in use are those that there are
  pub indexes : (n : ℕ) → IsInUse st.heap.indexes n ↔ (w.has_index n ≡ true)
  -- and the same are too new for an open session
  pub scans : (s : ℕ) (e : Session) → session_at st s ≡ Some e → (n : ℕ) → w.too_new s n ≡ is_too_new e n
  -- who has written has an id, and nobody else
  pub written : WrittenAgrees st w
  pub sound : Sound st

-- what an entry of any index leads to before and after is the same version, a redirect to a later one of its row, or dead
abbrev pub KeepsAllTargets : State → State → Type 0
KeepsAllTargets old new = (n : ℕ) → KeepsTargets (slots_of old.heap) (slots_of new.heap) (entries_in old.heap.indexes n) (entries_in new.heap.indexes n)

-- Whatever world the engine agreed with, the history allows the reply, and the engine agrees with the next world. No index
-- entry leads to a slot that was given to another row.
abbrev pub Follows : State → Step → Reply → State → Type 0
Follows old step reply new = (w : World) → Agrees old w → Allows w step reply × Agrees new (next w step reply) × KeepsAllTargets old new

-- each page that is noted as all-visible is so
abbrev pub NotesHold : State → Type 0
NotesHold st = (n : ℕ) (page : PageView) → slice_get st.heap.pages.pages n ≡ Some page → IsNotedVisible st.heap.pages.marks n
    → IsAllVisible st.heap.statuses (horizon_of st) page.slots

-- So it is, for a cursor that may hand out keys alone, where what is noted of the pages holds; for every other step, whatever is noted.
abbrev pub FollowsByNotes : State → Step → Reply → State → Type 0
FollowsByNotes old (step.Next s n) reply new = NotesHold old → Follows old (step.Next s n) reply new
FollowsByNotes old step reply new = Follows old step reply new
