-- The tests of a write, in their order. What they look for is found through the index by key.
use Rattle.table_indexes.specs.Indexes.{entries_in}
use Rattle.std.specs.Prelude.{◌≡◌, ◌⊎◌, ◌<◌, ◌≤◌, ℕ, pos, Option, Some, None, false, Contains}
use Rattle.xid_circle.specs.declared.Tid.{Tid}
use Rattle.visibility.specs.Visible.{IsVisible, IsOtherWriterIn, IsNewerCommitIn}
use Rattle.index_lookup.specs.ByPlace.{IsSeenUndeleted, IsVersionOf}
use Rattle.index_lookup.specs.Looking.{FirstPlace, SomeOf}
use Rattle.heap_write.specs.Heap.{HeapView, slots_of}
use Rattle.calls.specs.declared.reply.Refusal.{Refusal}
use Rattle.calls.specs.declared.reply.Refusal.TheVariants as refusal
use Rattle.sessions.specs.declared.session.Session.{Session}
use Rattle.session_steps.specs.State.{State, session_at}
use Rattle.sessions.specs.Session.{statement_snapshot}
use Rattle.calls.specs.Writes.{WriteStep, inserts, key_of}
use Rattle.calls.specs.declared.step.TheConstants.{MOST_SESSIONS}

-- what bars a session from a beginning, by snapshot or by statement
abbrev pub BarsBegin : State → ℕ → Refusal → Type 0
BarsBegin st s refusal.NoSuchSession = MOST_SESSIONS ≤ s
BarsBegin st s refusal.AlreadyOpen = (e : Session) × (session_at st s ≡ Some e)
BarsBegin st s refusal = ⊥

-- the session is open, has not failed and has no cursor: it may do anything but a step of a cursor
abbrev pub MayAct : State → ℕ → Session → Type 0
MayAct st s e = (s < MOST_SESSIONS) × (session_at st s ≡ Some e) × (e.failed ≡ false) × (e.cursor ≡ None)

-- the place of the version of the key that a statement of the session reads, if it reads one
abbrev pub FindsPlace : HeapView → Session → ℕ → Option Tid → Type 0
FindsPlace h e key found = FirstPlace h.statuses (IsVisible h.statuses (statement_snapshot h.statuses e.isolation) e.own.ids) (slots_of h) (entries_in h.indexes 0) (pos key) key found

-- a commit that such a statement does not see wrote the key, by this id
abbrev pub IsLateBy : HeapView → Session → ℕ → ℕ → Type 0
IsLateBy h e key x = SomeOf h.statuses (IsNewerCommitIn h.statuses (statement_snapshot h.statuses e.isolation) x) (slots_of h) (entries_in h.indexes 0) (pos key) key

-- another session has written it, under this id
abbrev pub IsHeldUnder : HeapView → Session → ℕ → ℕ → Type 0
IsHeldUnder h e key x = SomeOf h.statuses (IsOtherWriterIn h.statuses e.own.ids x) (slots_of h) (entries_in h.indexes 0) (pos key) key

-- nothing keeps the session from writing the key: no later commit, and no other session
pub record IsUncontested (st : State) (e : Session) (key : ℕ) : Type 0 where
  pub timely : (x : ℕ) → ¬ IsLateBy st.heap e key x
  pub unheld : (x : ℕ) → ¬ IsHeldUnder st.heap e key x

-- or a later commit does
pub record IsLateKey (st : State) (e : Session) (key : ℕ) : Type 0 where
  pub id : ℕ
  pub late : IsLateBy st.heap e key id

-- or this other session
pub record IsHeld (st : State) (e : Session) (key o : ℕ) : Type 0 where
  pub timely : (x : ℕ) → ¬ IsLateBy st.heap e key x
  pub id : ℕ
  pub held : IsHeldUnder st.heap e key id
  pub other : Session
  pub at : session_at st o ≡ Some other
  pub owns : Contains other.own.ids id

abbrev pub ConflictsWrite : State → Session → ℕ → Refusal → Type 0
ConflictsWrite st e key refusal.Conflict = IsLateKey st e key
ConflictsWrite st e key (refusal.Busy o) = IsHeld st e key o
ConflictsWrite st e key refusal = ⊥

-- the session may insert a row of the key: it reads none, and nothing keeps it from writing the key
abbrev pub MayInsertKey : State → Session → ℕ → Type 0
MayInsertKey st e key = FindsPlace st.heap e key None × IsUncontested st e key

-- a version of the key is at this place that such a statement sees and that nobody has deleted
abbrev pub SeesUndeleted : HeapView → Session → ℕ → Tid → Type 0
SeesUndeleted h e key p = IsVersionOf (IsSeenUndeleted (IsVisible h.statuses (statement_snapshot h.statuses e.isolation) e.own.ids)) (slots_of h) key p

-- The session may change the version of the key at this place. Either it reads that by the index, and nothing keeps it from writing the
-- key; or it sees that there, undeleted. Where the state agrees with a history, nothing keeps it from writing the key then either
-- (`UndeletedIsUncontested` of refinement)
abbrev pub MayChangeKey : State → Session → ℕ → Tid → Type 0
MayChangeKey st e key p = (FindsPlace st.heap e key (Some p) × IsUncontested st e key) ⊎ SeesUndeleted st.heap e key p

-- nothing keeps the session from the write. An update or a deletion is of the version at this place; an insert is of none
abbrev pub MayTry : State → Session → WriteStep → (place : Tid) → Type 0
MayTry st e (inserts row) place = MayInsertKey st e row.key
MayTry st e write place = MayChangeKey st e (key_of write) place

-- what keeps it from inserting a row of the key
abbrev pub RefusesInsertOfKey : State → Session → ℕ → Refusal → Type 0
RefusesInsertOfKey st e key refusal.AlreadyThere = (p : Tid) × FindsPlace st.heap e key (Some p)
RefusesInsertOfKey st e key refusal = FindsPlace st.heap e key None × ConflictsWrite st e key refusal

-- what keeps it from changing the row of the key
abbrev pub RefusesChangeOfKey : State → Session → ℕ → Refusal → Type 0
RefusesChangeOfKey st e key refusal.NotThere = FindsPlace st.heap e key None
RefusesChangeOfKey st e key refusal = (p : Tid) × FindsPlace st.heap e key (Some p) × ConflictsWrite st e key refusal
