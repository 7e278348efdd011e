-- A session takes a page, to read its rows later.
use Rattle.std.specs.Prelude.{◌≡◌, ℕ, ◌<◌, ◌≤◌, false, List, length, Option, Some, slice_get}
use Rattle.std.specs.List.{flat_map}
use Rattle.xid_circle.specs.Numbers.{SessionNo, PageNo}
use Rattle.tuple_header.specs.declared.version.Row.{Row}
use Rattle.visibility.specs.Visible.{IsVisible}
use Rattle.table_scans.specs.Tickets.{TicketView, ticket_rows}
use Rattle.table_scans.specs.Scans.{Sight, start_of}
use Rattle.table_scans.specs.Takes.{TakesAll}
use Rattle.calls.specs.declared.step.TheConstants.{MOST_SESSIONS}
use Rattle.calls.specs.declared.reply.Refusal.{Refusal}
use Rattle.calls.specs.declared.reply.Refusal.TheVariants as refusal
use Rattle.calls.specs.Bars.{BarsReady}
use Rattle.history.specs.World.{World, OpenSession, view}
use Rattle.history.specs.Cursors.{AreOf}
use Rattle.sessions.specs.declared.session.Session.{Session}
use Rattle.session_steps.specs.State.{State, session_at, engine_sessions}
use Rattle.sessions.specs.Session.{statement_snapshot}
use Rattle.session_steps.specs.Agrees.{Agrees}

-- what a statement of the session sees of the table
abbrev pub statement_sight : State → Session → Sight
statement_sight st e = record { heap = st.heap; statuses = st.heap.statuses; sees = IsVisible st.heap.statuses (statement_snapshot st.heap.statuses e.isolation) e.own.ids }

-- the session, which has not failed, sees these rows on the page of this number: all that a statement of it sees there, slot by slot
pub record SeesOnPage (st : State) (s : SessionNo) (number : PageNo) (rows : List Row) : Type 0 where
  pub session : Session
  pub there : session_at st s ≡ Some session
  pub sound : session.failed ≡ false
  pub in_use : number < length st.heap.pages.pages
  pub all : TakesAll (statement_sight st session) (start_of number) rows

-- the session takes the page of this number: the ticket has the page as it is, and the rows that the session sees there
pub record TakesTicket (st : State) (s : SessionNo) (number : PageNo) (ticket : TicketView) : Type 0 where
  pub page : slice_get st.heap.pages.pages number ≡ Some ticket.page
  pub sees : SeesOnPage st s number (ticket_rows ticket)

-- the session is open, and has not failed
abbrev pub IsReadyAt : State → SessionNo → Type 0
IsReadyAt st s = (e : Session) × (s < MOST_SESSIONS) × (session_at st s ≡ Some e) × (e.failed ≡ false)

-- why it does not: the session is not ready for a step; or there is no such page; or memory was refused
abbrev pub RefusesTicket : State → SessionNo → PageNo → Refusal → Type 0
RefusesTicket st s number refusal.NoSuchPage = IsReadyAt st s × (length st.heap.pages.pages ≤ number)
RefusesTicket st s number refusal.NoMemory = IsReadyAt st s × (number < length st.heap.pages.pages)
RefusesTicket st s number reason = BarsReady (engine_sessions st) s reason

-- why a page's rows are not read: as above, but memory is refused only where the session sees a row there
abbrev pub RefusesRows : State → SessionNo → PageNo → Refusal → Type 0
RefusesRows st s number refusal.NoMemory = (rows : List Row) × SeesOnPage st s number rows × (0 < length rows)
RefusesRows st s number reason = RefusesTicket st s number reason

-- the rows are the session's view's, whatever world the engine agrees with
abbrev pub AreViewed : State → SessionNo → List Row → Type 0
AreViewed st s rows = (w : World) → Agrees st w → (m : OpenSession) × (w.session s ≡ Some m) × AreOf (view w.history m) rows

-- and they are all that there are
pub record AreAllOf (row : ℕ → Option Row) (rows : List Row) : Type 0 where
  pub of : AreOf row rows
  pub all : (key : ℕ) (r : Row) → row key ≡ Some r → (i : ℕ) × (slice_get rows i ≡ Some r)

-- the session takes a ticket of each page, all at one state
pub record TakesAllPages (st : State) (s : SessionNo) (tickets : List TicketView) : Type 0 where
  pub count : length tickets ≡ length st.heap.pages.pages
  pub each : (number : PageNo) (ticket : TicketView) → slice_get tickets number ≡ Some ticket → TakesTicket st s number ticket

-- They hold the session's whole view, and each row of it once.
abbrev pub TicketsHoldTheView : Type 0
TicketsHoldTheView = (st : State) (w : World) → Agrees st w → (s : ℕ) (m : OpenSession) → w.session s ≡ Some m → (tickets : List TicketView) → TakesAllPages st s tickets
    → AreAllOf (view w.history m) (flat_map ticket_rows tickets)
