-- An engine as its callers see it, and what its readers see of it.
use Rattle.std.specs.Prelude.{ℕ, Bool, true, false, List, Option, Some, None, slice_get, slice_set}
use Rattle.std.specs.Option.{option_map, option_flatten}
use Rattle.snapshot.specs.Snap.{Sees, earliest}
use Rattle.commit_status.specs.Window.{Window, next_id}
use Rattle.visibility.specs.Visible.{state_of}
use Rattle.page_sheet.specs.declared.slot.Slot.{Slot}
use Rattle.space_maps.specs.declared.mark.Mark.{Mark}
use Rattle.space_maps.specs.declared.mark.Mark.TheVariants.{Nothing, AllVisible, AllFrozen}
use Rattle.root_index.specs.View.{IndexView}
use Rattle.table_indexes.specs.Indexes as indexes
use Rattle.index_lookup.specs.Pages.{version_in}
use Rattle.heap_write.specs.Heap.{HeapView, slots_of}
use Rattle.calls.specs.declared.settings.Settings.{Settings}
use Rattle.calls.specs.declared.step.Step.{Step}
use Rattle.calls.specs.declared.step.Step.TheVariants as step
use Rattle.calls.specs.declared.reply.Refusal.{Refusal}
use Rattle.calls.specs.declared.reply.Refusal.TheVariants as refusal
use Rattle.calls.specs.Bars.{SessionLooks}
use Rattle.refinement.specs.Heap as relation
use Rattle.sessions.specs.declared.session.Session.{Session}
use Rattle.sessions.specs.declared.session.SessionIsolation.{SessionIsolation}
use Rattle.sessions.specs.declared.session.SessionIsolation.TheVariants.{BySnapshot, ByStatement}
use Rattle.index_lookup.specs.declared.index_scan.IndexPosition.{IndexPosition}
use Rattle.table_scans.specs.declared.progress.CursorScan.{CursorScan}
use Rattle.table_scans.specs.declared.progress.CursorScan.TheVariants.{Rows, Keys}
use Rattle.table_scans.specs.declared.progress.Scan.TheVariants.{Index, Heap}
use Rattle.sessions.specs.Session.{held_back}

pub record State : Type 0 where
  pub settings : Settings
  pub heap : HeapView
  pub sessions : List (Option Session)

abbrev pub session_at : State → ℕ → Option Session
session_at st s = option_flatten (slice_get st.sessions s)

-- the sessions, as far as what bars one from a step looks at them
abbrev pub engine_sessions : State → SessionLooks Session CursorScan
engine_sessions st = record { session = session_at st; failed = λ e. e.failed; cursor = λ e. e.cursor }

-- the index of this number, if there is one
abbrev pub engine_index : State → ℕ → Option IndexView
engine_index st number = indexes.index_at st.heap.indexes number

-- the bits of a mark of the visibility map: all-visible, and all-frozen too
abbrev pub bits_of : Mark → ℕ
bits_of Nothing = 0
bits_of AllVisible = 1
bits_of AllFrozen = 2

abbrev pub isolation_seen : SessionIsolation → relation.SeenIsolation
isolation_seen (BySnapshot snap) = relation.seen_by_snapshot snap
isolation_seen (ByStatement kept) = relation.seen_by_statement kept

-- how far the cursor has got, as the relation has it
abbrev pub seen_position : Option IndexPosition → Option relation.RowPosition
seen_position last = option_map (λ (m : IndexPosition). record { value = m.value; key = m.key }) last

abbrev pub position_of : Option CursorScan → Option relation.Position
position_of None = None
position_of (Some (Rows (Index span))) = Some (relation.in_index span.index span.low span.high (seen_position span.last))
position_of (Some (Rows (Heap from))) = Some (relation.in_heap from)
position_of (Some (Keys range)) = Some (relation.in_keys range.low range.high (seen_position range.last))

abbrev pub reader_of : Session → relation.SeenSession
reader_of e = record { isolation = isolation_seen e.isolation; own = e.own.ids; saved = e.own.saved; failed = e.failed; cursor = position_of e.cursor }

-- what readers see of these slots, ids and sessions
abbrev pub seen_in : List (List Slot) → Window → List (Option Session) → relation.Heap
seen_in slots statuses sessions = record {
  version = version_in slots;
  status = state_of statuses;
  sees = λ snapshot x. Sees snapshot statuses x;
  session = λ s. option_map reader_of (option_flatten (slice_get sessions s));
}

-- the engine as its readers see it
abbrev pub seen : State → relation.Heap
seen st = seen_in (slots_of st.heap) st.heap.statuses st.sessions

-- The horizon: the earliest of all that open sessions hold back, and the next id. No snapshot that is kept, nor one that is taken
-- later, misses what committed before it. (The manual's "Routine Vacuuming"; GetOldestNonRemovableTransactionId.)
abbrev pub horizon_of : State → ℕ
horizon_of st = earliest (next_id st.heap.statuses) (held_back st.sessions)

-- another session, or none, in this place
abbrev pub put_session : State → ℕ → Option Session → State
put_session st s e = record st { sessions = slice_set st.sessions s e }

abbrev pub with_cursor : Option CursorScan → Session → Session
with_cursor cursor e = record e { cursor = cursor }

-- the session has failed, if it is open
abbrev pub with_failed : State → ℕ → State
with_failed st s = put_session st s (option_map (λ (e : Session). record e { failed = true }) (session_at st s))

-- the engine after the refusal of a write: a conflict makes the session fail
abbrev pub refused_state : State → ℕ → Refusal → State
refused_state st s refusal.Conflict = with_failed st s
refused_state st s refusal = st

-- whether a step is answered above the sessions: each of a vacuum's, which is kept there; and the making of an index, which none
-- may run beside
abbrev pub is_answered_above : Step → Bool
is_answered_above (step.VacuumBegin mode) = true
is_answered_above step.VacuumStep = true
is_answered_above step.VacuumCancel = true
is_answered_above (step.CreateIndex c) = true
is_answered_above step = false
