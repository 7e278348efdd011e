-- What a picture of the table shows: for each thing that is there a shape, in a fixed order, and nothing else.
use Rattle.std.specs.Prelude.{◌≡◌, ◌↔◌, ◌<◌, ◌≤◌, ℕ, zero, suc, ◌+◌, ◌-◌, ◌==◌, not, true, List, [], ◌∷◌, ◌++◌, length, map, take, filter, Option, Some, None, slice_get, MatchOption}
use Rattle.xid_circle.specs.Numbers.{Id, SessionNo, PageNo, IndexNo, SlotNo, Count}
use Rattle.xid_circle.specs.Circle.{given}
use Rattle.xid_circle.specs.declared.Xid.{Xid}
use Rattle.xid_circle.specs.declared.Tid.{Tid}
use Rattle.tuple_header.specs.Version.{Version}
use Rattle.commit_status.specs.Window.{Window, turns, next_id, status_of}
use Rattle.visibility.specs.Visible.{IsVisible}
use Rattle.reasons.specs.Reasons.{IsVerdictIn}
use Rattle.page_sheet.specs.Slots.{version_at, redirect_at, room_of}
use Rattle.page_slots.specs.View.{PageView}
use Rattle.page_sheet.specs.declared.slot.Slot.{Slot}
use Rattle.space_maps.specs.View.{mark_on}
use Rattle.hot_chain.specs.Chain.{has_aborted, next_in_chain}
use Rattle.sound_page.specs.Dead.{IsDeadAt}
use Rattle.slot_fates.specs.Fates.{IsFate}
use Rattle.index_entries.specs.declared.entry.Entry.{Entry}
use Rattle.index_lookup.specs.Pages.{slots_on}
use Rattle.table_indexes.specs.Indexes.{entries_in}
use Rattle.heap_write.specs.Heap.{slots_of}
use Rattle.calls.specs.declared.step.TheConstants.{MOST_SESSIONS}
use Rattle.sessions.specs.declared.session.Session.{Session}
use Rattle.sessions.specs.Session.{statement_snapshot, reads_by_snapshot}
use Rattle.session_steps.specs.State.{State, session_at, horizon_of, bits_of}
use Rattle.session_looks.specs.declared.holder.Hold.{Hold}
use Rattle.session_looks.specs.Holders.{IsHolder, HasId}
use Rattle.session_core.specs.State.{WaitingView, wait_at}
use Rattle.shape_list.specs.declared.shape.TheConstants.{BODY_START}
use Rattle.shapes.specs.declared.fault.TheConstants.{MOST_IDS, MOST_PAGES}
use Rattle.shape_list.specs.declared.shape.Shape.{Shape}
use Rattle.shape_list.specs.declared.shape.Shape.TheVariants as shape
use Rattle.shape_list.specs.declared.shape.IdShape.{IdShape}
use Rattle.shape_list.specs.declared.shape.HorizonShape.{HorizonShape}
use Rattle.shape_list.specs.declared.shape.SessionShape.{SessionShape}
use Rattle.shape_list.specs.declared.shape.PageShape.{PageShape}
use Rattle.shape_list.specs.declared.shape.VersionShape.{VersionShape}
use Rattle.shape_list.specs.declared.shape.SlotShape.{SlotShape}
use Rattle.shape_list.specs.declared.shape.LinkKind.{LinkKind}
use Rattle.shape_list.specs.declared.shape.LinkKind.TheVariants as link
use Rattle.shape_list.specs.declared.shape.DotShape.{DotShape}
use Rattle.shapes.specs.declared.fault.PictureFault.{PictureFault}
use Rattle.shapes.specs.declared.fault.PictureFault.TheVariants as fault

-- Lists of shapes.

-- one shape, of a thing of which this is so
abbrev pub IsOne : {A : Type 0} → (A → Type 0) → (A → Shape) → List Shape → Type 0
IsOne {A = A} Is of shapes = (a : A) × Is a × (shapes ≡ of a ∷ [])

-- some shapes, and others behind them
pub record AreInTurn (AreFirst AreRest : List Shape → Type 0) (shapes : List Shape) : Type 0 where
  pub first : List Shape
  pub rest : List Shape
  pub are_first : AreFirst first
  pub are_rest : AreRest rest
  pub all : shapes ≡ first ++ rest

-- so many pieces, one behind another, the one of each number as this says of it
abbrev pub ArePieces : (ℕ → List Shape → Type 0) → Count → List Shape → Type 0
ArePieces IsPiece zero shapes = shapes ≡ []
ArePieces IsPiece (suc n) shapes = AreInTurn (ArePieces IsPiece n) (IsPiece n) shapes

-- such shapes were added behind those that were there
pub record Adds (AreShapes : List Shape → Type 0) (old new : List Shape) : Type 0 where
  pub added : List Shape
  pub are : AreShapes added
  pub behind : new ≡ old ++ added

-- The ids.

-- how many ids are remembered
abbrev pub remembered : Window → Count
remembered w = turns w.first (next_id w)

-- how many of the oldest are left out: all but the last forty
abbrev pub left_out : Window → Count
left_out w = remembered w - MOST_IDS

-- what became of an id, and the open session whose own it is
pub record IsIdShape (st : State) (x : Id) (id : IdShape) : Type 0 where
  pub is : id.id.0 ≡ x
  pub status : id.status ≡ status_of st.heap.statuses x
  pub owner : MatchOption id.owner ((s : ℕ) → ¬ HasId st x s) (HasId st x)

abbrev pub IsIdPiece : State → Id → List Shape → Type 0
IsIdPiece st x shapes = IsOne (IsIdShape st x) shape.Id shapes

-- the last of the ids that are remembered, in the order of giving
abbrev pub AreIds : State → List Shape → Type 0
AreIds st shapes =
    ArePieces (λ i. IsIdPiece st (given st.heap.statuses.first (left_out st.heap.statuses + i))) (remembered st.heap.statuses - left_out st.heap.statuses) shapes

-- the session that holds the horizon back, if one does
abbrev pub IsHolderShown : State → Option SessionNo → Type 0
IsHolderShown st None = IsHolder st None
IsHolderShown st (Some s) = (by : Hold) × IsHolder st (Some (record { session = s; by = by }))

pub record IsHorizonShape (st : State) (horizon : HorizonShape) : Type 0 where
  pub is : horizon.horizon.0 ≡ horizon_of st
  pub holder : IsHolderShown st horizon.holder

abbrev pub IsNextShape : State → Xid → Type 0
IsNextShape st next = next.0 ≡ next_id st.heap.statuses

-- The sessions.

pub record IsSessionShape (e : WaitingView) (s : SessionNo) (open_session : Session) (session : SessionShape) : Type 0 where
  pub is : session.session ≡ s
  pub by_statement : session.by_statement ≡ not (reads_by_snapshot open_session.isolation)
  pub failed : session.failed ≡ open_session.failed
  pub next : session.next.0 ≡ (statement_snapshot e.engine.core.heap.statuses open_session.isolation).xmax
  pub waits_for : session.waits_for ≡ wait_at e s

-- a session is shown if it is open
abbrev pub IsSessionPiece : WaitingView → SessionNo → Option Session → List Shape → Type 0
IsSessionPiece e s None shapes = shapes ≡ []
IsSessionPiece e s (Some open_session) shapes = IsOne (IsSessionShape e s open_session) shape.Session shapes

abbrev pub AreSessions : WaitingView → List Shape → Type 0
AreSessions e shapes = ArePieces (λ s. IsSessionPiece e s (session_at e.engine.core s)) MOST_SESSIONS shapes

-- Dots.

-- the verdict of a statement of the session, begun now; and the dot is filled exactly where it sees the version
pub record IsDotShape (st : State) (place : Tid) (s : SessionNo) (open_session : Session) (t : Version) (dot : DotShape) : Type 0 where
  pub place_is : dot.place ≡ place
  pub session : dot.session ≡ s
  pub verdict : IsVerdictIn st.heap.statuses (statement_snapshot st.heap.statuses open_session.isolation) open_session.own.ids t.header dot.verdict
  pub filled : IsVisible st.heap.statuses (statement_snapshot st.heap.statuses open_session.isolation) open_session.own.ids t.header ↔ (dot.filled ≡ true)

-- a session has a dot beside a version if it is open
abbrev pub IsDotPiece : State → Tid → Version → SessionNo → Option Session → List Shape → Type 0
IsDotPiece st place t s None shapes = shapes ≡ []
IsDotPiece st place t s (Some open_session) shapes = IsOne (IsDotShape st place s open_session t) shape.Dot shapes

-- dots are beside versions alone
abbrev pub AreDots : State → Tid → Option Version → List Shape → Type 0
AreDots st place None shapes = shapes ≡ []
AreDots st place (Some t) shapes = ArePieces (λ s. IsDotPiece st place t s (session_at st s)) MOST_SESSIONS shapes

-- Slots.

-- the slots of a page, and the version at a place
abbrev pub slots_at : State → PageNo → List Slot
slots_at st p = slots_on (slots_of st.heap) p

abbrev pub version_of_place : State → Tid → Option Version
version_of_place st place = version_at (slots_at st place.page) place.slot

pub record IsVersionShape (t : Version) (version : VersionShape) : Type 0 where
  pub header : version.header ≡ t.header
  pub key : version.key ≡ t.row.key
  pub cols : version.cols ≡ t.row.cols
  pub body_start : version.body_start.items ≡ take BODY_START t.row.body.items
  pub body_bytes : version.body_bytes ≡ length t.row.body.items

abbrev pub AreVersionShapes : Option Version → Option VersionShape → Type 0
AreVersionShapes None None = Unit {0}
AreVersionShapes (Some t) (Some version) = IsVersionShape t version
AreVersionShapes t version = ⊥

-- what stands in the slot, its fate, and whether it holds a version that is dead at the horizon
pub record IsSlotShape (st : State) (place : Tid) (slot : SlotShape) : Type 0 where
  pub place_is : slot.place ≡ place
  pub fate : IsFate st.heap.statuses (horizon_of st) (slots_at st place.page) place.slot slot.fate
  pub dead : IsDeadAt st.heap.statuses (horizon_of st) (slots_at st place.page) place.slot ↔ (slot.dead ≡ true)
  pub version : AreVersionShapes (version_of_place st place) slot.version

abbrev pub IsBox : State → Tid → List Shape → Type 0
IsBox st place shapes = IsOne (IsSlotShape st place) shape.Slot shapes

-- an arrow to a slot, if there is one to lead to
abbrev pub links_to : LinkKind → Tid → Option SlotNo → List Shape
links_to kind place None = []
links_to kind place (Some to) = shape.Link (record { kind = kind; place = place; to = to }) ∷ []

-- where the chain goes on from a slot, and where a redirect leads
abbrev pub chain_links : State → Tid → List Shape
chain_links st place = links_to link.Chain place (next_in_chain (has_aborted st.heap.statuses) (slots_at st place.page) place.slot)

abbrev pub redirect_links : State → Tid → List Shape
redirect_links st place = links_to link.Redirect place (redirect_at (slots_at st place.page) place.slot)

-- a slot's box, the arrows from it, and the dots beside it
abbrev pub IsSlotPiece : State → Tid → List Shape → Type 0
IsSlotPiece st place shapes =
    AreInTurn (IsBox st place) (AreInTurn (λ links. links ≡ chain_links st place)
    (AreInTurn (λ links. links ≡ redirect_links st place) (AreDots st place (version_of_place st place)))) shapes

-- the place of the slot behind so many
abbrev pub place_behind : PageNo → Count → Tid
place_behind p n = record { page = p; slot = n + 1 }

abbrev pub AreSlots : State → PageNo → List Shape → Type 0
AreSlots st p shapes = ArePieces (λ i. IsSlotPiece st (place_behind p i)) (length (slots_at st p)) shapes

-- Pages.

pub record IsPageShape (st : State) (p : PageNo) (view : PageView) (page : PageShape) : Type 0 where
  pub is : page.page ≡ p
  pub change : page.change ≡ view.change
  pub bits : page.bits ≡ bits_of (mark_on st.heap.pages.marks p)
  pub room : page.room ≡ room_of view.slots
  pub slots : page.slots ≡ length view.slots

-- what is told of a page in use as a whole
abbrev pub IsPageHead : State → PageNo → List Shape → Type 0
IsPageHead st p shapes = (view : PageView) × (slice_get st.heap.pages.pages p ≡ Some view) × IsOne (IsPageShape st p view) shape.Page shapes

-- an arrow from each of these entries of an index that leads to the page, in their order
abbrev pub entry_shapes_of : PageNo → IndexNo → List Entry → List Shape
entry_shapes_of p i entries = map (λ (e : Entry). shape.Entry (record { index = i; entry = e })) (filter (λ (e : Entry). e.tid.page == p) entries)

abbrev pub entry_shapes : State → PageNo → IndexNo → List Shape
entry_shapes st p i = entry_shapes_of p i (entries_in st.heap.indexes i)

-- from those of each of the five indexes that there may be
abbrev pub AreEntries : State → PageNo → List Shape → Type 0
AreEntries st p shapes = ArePieces (λ i entries. entries ≡ entry_shapes st p i) 5 shapes

-- a page, its slots, and the entries that lead there
abbrev pub IsPagePiece : State → PageNo → List Shape → Type 0
IsPagePiece st p shapes = AreInTurn (IsPageHead st p) (AreInTurn (AreSlots st p) (AreEntries st p)) shapes

-- the page at a place of the list of numbers
abbrev pub IsAskedPage : State → List PageNo → ℕ → List Shape → Type 0
IsAskedPage st numbers i shapes = (p : PageNo) × (slice_get numbers i ≡ Some p) × IsPagePiece st p shapes

abbrev pub ArePages : State → List PageNo → List Shape → Type 0
ArePages st numbers shapes = ArePieces (IsAskedPage st numbers) (length numbers) shapes

-- The picture: the ids, the horizon and the next id, the sessions, and the pages that were asked for.

abbrev pub AreHead : WaitingView → List Shape → Type 0
AreHead e shapes =
    AreInTurn (λ ids. ids ≡ shape.Ids (left_out e.engine.core.heap.statuses) ∷ []) (AreInTurn (AreIds e.engine.core)
    (AreInTurn (IsOne (IsHorizonShape e.engine.core) shape.Horizon) (AreInTurn (IsOne (IsNextShape e.engine.core) shape.Next) (AreSessions e)))) shapes

abbrev pub IsPicture : WaitingView → List PageNo → List Shape → Type 0
IsPicture e numbers shapes = AreInTurn (AreHead e) (ArePages e.engine.core numbers) shapes

-- Why there is none.

abbrev pub IsNotInUse : State → PageNo → Type 0
IsNotInUse st p = slice_get st.heap.pages.pages p ≡ None

abbrev pub AreAllInUse : State → List PageNo → Type 0
AreAllInUse st numbers = (i p : ℕ) → slice_get numbers i ≡ Some p → ¬ IsNotInUse st p

-- this page was asked for at a place, and it is the first that is not in use
pub record IsFirstNotInUse (st : State) (numbers : List PageNo) (p : PageNo) : Type 0 where
  pub at : ℕ
  pub asked : slice_get numbers at ≡ Some p
  pub unused : IsNotInUse st p
  pub first : (i q : ℕ) → i < at → slice_get numbers i ≡ Some q → ¬ IsNotInUse st q

-- no more pages were asked for than are shown, and all are in use
abbrev pub CanBeShown : State → List PageNo → Type 0
CanBeShown st numbers = (length numbers ≤ MOST_PAGES) × AreAllInUse st numbers

-- more pages were asked for than are shown, or one that is not in use; else memory was refused, as no definition can say
abbrev pub IsPictureFault : State → List PageNo → PictureFault → Type 0
IsPictureFault st numbers fault.TooManyPages = MOST_PAGES < length numbers
IsPictureFault st numbers (fault.NoSuchPage p) = (length numbers ≤ MOST_PAGES) × IsFirstNotInUse st numbers p
IsPictureFault st numbers fault.NoMemory = CanBeShown st numbers

-- whether what was asked for can be shown, but for memory
abbrev pub IsAskFault : State → List PageNo → Option PictureFault → Type 0
IsAskFault st numbers None = CanBeShown st numbers
IsAskFault st numbers (Some fault.NoMemory) = ⊥
IsAskFault st numbers (Some f) = IsPictureFault st numbers f
