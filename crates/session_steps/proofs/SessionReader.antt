-- What is so of a reader of a session is so of the session.
use Rattle.std.proofs.Common.{◌≡◌, ℕ, Option, pos, subst}
use Rattle.xid_circle.specs.declared.Tid.{Tid}
use Rattle.xid_circle.specs.declared.Xid.{Xid}
use Rattle.tuple_header.specs.declared.version.Row.{Row}
use Rattle.commit_status.specs.Window.{Window}
use Rattle.snapshot.specs.Snap.{Snap}
use Rattle.snapshot.specs.Own.{Own}
use Rattle.visibility.specs.declared.reader.Reader.{Reader}
use Rattle.visibility.specs.Reading.{IsSeenBy, IsNewerCommitFor, IsOtherWriterFor}
use Rattle.visibility.specs.Visible.{IsVisible, IsNewerCommitIn, IsOtherWriterIn}
use Rattle.index_lookup.specs.ByPlace.{FoundOrSeen, IsSeenUndeleted, IsVersionOf}
use Rattle.index_lookup.specs.Looking.{FirstPlace, IsIdOf}
use Rattle.table_indexes.specs.Indexes.{entries_in}
use Rattle.heap_write.specs.Heap.{HeapView, slots_of}
use Rattle.table_scans.specs.Scans.{Sight, sight_of}
use Rattle.sessions.specs.declared.session.Session.{Session}
use Rattle.session_steps.specs.State.{State}
use Rattle.sessions.specs.Session.{statement_snapshot, cursor_snapshot}
use Rattle.session_steps.specs.Takes.{ReadsBy, session_sight}
use Rattle.session_steps.specs.Tests.{FindsPlace, SeesUndeleted}
use Rattle.session_steps.proofs.Searches.{Misses, Holds, RowOf}

pub as-session : (st : State) (e : Session) (by : Snap) (r : Reader) (P : Window → Snap → Own → Type 0) → ReadsBy st e by r → P r.statuses.now r.snapshot.now r.own.now → P st.heap.statuses by e.own
as-session st e by r P reads is = subst (λ (w : Window). P w by e.own) reads.statuses
    (subst (λ (s : Snap). P r.statuses.now s e.own) reads.snapshot (subst (λ (own : Own). P r.statuses.now r.snapshot.now own) reads.own is))

-- the engine as its parts are seen, and as a whole
module _ (parts st : State) (e : Session) (by : Snap) (r : Reader) (same : parts ≡ st) (reads : ReadsBy st e by r) where
  pub read-as : (P : HeapView → Window → Snap → Own → Type 0) → P parts.heap r.statuses.now r.snapshot.now r.own.now → P st.heap st.heap.statuses by e.own
  read-as P is = as-session st e by r (P st.heap) reads (subst (λ (v : State). P v.heap r.statuses.now r.snapshot.now r.own.now) same is)

-- by which snapshot a statement of the session reads, and its cursor
abbrev pub by_statement : State → Session → Snap
by_statement st e = statement_snapshot st.heap.statuses e.isolation

abbrev pub by_cursor : State → Session → Snap
by_cursor st e = cursor_snapshot st.heap.statuses e.isolation

-- a statement's reader
module _ (parts st : State) (e : Session) (r : Reader) (same : parts ≡ st) (reads : ReadsBy st e (by_statement st e) r) where
  pub row-read : (key : ℕ) (row : Option Row) → FoundOrSeen r.statuses.now (IsSeenBy r) (slots_of parts.heap) (entries_in parts.heap.indexes 0) (pos key) key row → RowOf st e key row
  row-read key row = read-as parts st e (by_statement st e) r same reads (λ h w s own. FoundOrSeen w (IsVisible w s own.ids) (slots_of h) (entries_in h.indexes 0) (pos key) key row)

  pub undeleted-read : (key : ℕ) (place : Tid) → IsVersionOf (IsSeenUndeleted (IsSeenBy r)) (slots_of parts.heap) key place → SeesUndeleted st.heap e key place
  undeleted-read key place = read-as parts st e (by_statement st e) r same reads (λ h w s own. IsVersionOf (IsSeenUndeleted (IsVisible w s own.ids)) (slots_of h) key place)

  pub place-read : (key : ℕ) (place : Option Tid) → FirstPlace r.statuses.now (IsSeenBy r) (slots_of parts.heap) (entries_in parts.heap.indexes 0) (pos key) key place → FindsPlace st.heap e key place
  place-read key place = read-as parts st e (by_statement st e) r same reads (λ h w s own. FirstPlace w (IsVisible w s own.ids) (slots_of h) (entries_in h.indexes 0) (pos key) key place)

  pub late-read : (key : ℕ) (id : Option Xid) → IsIdOf r.statuses.now (IsNewerCommitFor r) (slots_of parts.heap) (entries_in parts.heap.indexes 0) (pos key) key id → Misses st.heap e key id
  late-read key id = read-as parts st e (by_statement st e) r same reads (λ h w s own. IsIdOf w (IsNewerCommitIn w s) (slots_of h) (entries_in h.indexes 0) (pos key) key id)

  pub held-read : (key : ℕ) (id : Option Xid) → IsIdOf r.statuses.now (IsOtherWriterFor r) (slots_of parts.heap) (entries_in parts.heap.indexes 0) (pos key) key id → Holds st.heap e key id
  held-read key id = read-as parts st e (by_statement st e) r same reads (λ h w s own. IsIdOf w (IsOtherWriterIn w own.ids) (slots_of h) (entries_in h.indexes 0) (pos key) key id)

-- what is so of the sight of the cursor's reader is so of the session's
pub sight-read : (parts st : State) (e : Session) (r : Reader) (same : parts ≡ st) → ReadsBy st e (by_cursor st e) r → (P : Sight → Type 0) → P (sight_of parts.heap r) → P (session_sight st e)
sight-read parts st e r same reads P = read-as parts st e (by_cursor st e) r same reads (λ h w s own. P (record { heap = h; statuses = w; sees = IsVisible w s own.ids }))
