-- A scan of the heap is a walk, as the relation has it.
use Rattle.std.proofs.Common.{◌≡◌, ℕ, zero, suc, ◌+◌, ◌<◌, ◌≤◌, List, [], ◌∷◌, length, map, Some, sym, ap, ◌∙◌, inl, inr, arith}
use Rattle.std.specs.Prelude.{◌↔◌}
use Rattle.std.proofs.lemmas.Bool.{cases_lt}
use Rattle.std.proofs.lemmas.Option.{none-some}
use Rattle.xid_circle.specs.declared.Tid.{Tid}
use Rattle.tuple_header.specs.declared.version.Row.{Row}
use Rattle.tuple_header.specs.declared.version.Header.{Header}
use Rattle.tuple_header.specs.Version.{Version}
use Rattle.page_sheet.specs.Slots.{version_at}
use Rattle.page_slots.specs.View.{PageView}
use Rattle.page_sheet.proofs.SlotLemmas.{version_at-none}
use Rattle.commit_status.specs.Window.{IsWindow}
use Rattle.index_lookup.specs.Pages.{slots_on}
use Rattle.heap_write.specs.Heap.{slots_of}
use Rattle.refinement.specs.Cursors.{IsFrom, Stands, Gathers}
use Rattle.refinement.proofs.CursorWalks.{Gathers-none, Gathers-pass, Gathers-pass_slot, Gathers-one, Gathers-after}
use Rattle.table_scans.specs.declared.progress.CursorScan.TheVariants.{Rows}
use Rattle.table_scans.specs.declared.progress.Scan.TheVariants.{Heap}
use Rattle.table_scans.specs.Scans.{Sight, SeesRow, SeesNone, start_of, NoneToPageEnd, ScansHeap, heap_begins, heap_passes, heap_finds, heap_turns}
use Rattle.table_scans.specs.Takes.{IsAtEnd, TakesPage, TakesPart}
use Rattle.sessions.specs.declared.session.Session.{Session}
use Rattle.session_steps.specs.State.{State, seen}
use Rattle.session_steps.specs.Takes.{session_sight}
use Rattle.session_steps.proofs.Statements.{cursor-sees}
use Rattle.session_steps.proofs.AtCursor.{seen_by, NoneToCome, SomeToCome, first-row}

-- a walk from the one place up to the other meets these rows, which the session sees
abbrev pub WalksHeap : State → Session → Tid → Tid → List Row → Type 0
WalksHeap st e from to rows = Gathers (seen st).version (seen_by st e) from to rows

-- Where versions are.

-- on a page in use
pub page-within : (pages : List PageView) (page slot : ℕ) (v : Version) → version_at (slots_on (map (λ (p : PageView). p.slots) pages) page) slot ≡ Some v → page < length pages
page-within [] page slot v is = absurd (version_at-none slot v is)
page-within (p ∷ ps) zero slot v is = omega arith
page-within (p ∷ ps) (suc n) slot v is = let within = page-within ps n slot v is in omega arith

-- what is at a place or behind it is on its page or a later one
pub page-from : (p q : Tid) → IsFrom p q → p.page ≤ q.page
page-from p q (inl lt) = omega arith
page-from p q (inr (same, le)) = omega arith

page-onward : (p q : Tid) → IsFrom (start_of (p.page + 1)) q → IsFrom p q
page-onward p q (inl later) = inl (let lt : p.page + 1 < q.page = later in omega arith)
page-onward p q (inr (same, le)) = inl (let is : p.page + 1 ≡ q.page = same in omega arith)

later-page : (p q : Tid) → p.page < q.page → IsFrom (start_of (p.page + 1)) q
later-page p q lt = elim (cases_lt (p.page + 1) q.page) [ inl further ↦ inl further | inr near ↦ inr (omega arith, omega arith) ]

-- whoever sees these versions by their headers
module _ (st : State) (sees : Header → Type 0) (those : Version → Type 0) (same : (v : Version) → sees v.header ↔ those v) where
  abbrev sight : Sight
  sight = record { heap = st.heap; statuses = st.heap.statuses; sees = sees }

  abbrev StandsOn : Tid → Row → Type 0
  StandsOn p row = Stands (seen st).version those p row

  row-stands : (p : Tid) (row : Row) → SeesRow sight p row → StandsOn p row
  row-stands p row is = record { version = is.version; here = is.there; shown = (same is.version).0 is.shown; same_row = sym is.is_row }

  none-stands : (p : Tid) → SeesNone sight p → (row : Row) → ¬ StandsOn p row
  none-stands p none row stands = none stands.version stands.here ((same stands.version).1 stands.shown)

  -- a walk goes on to the next page where nothing is seen up to the end of this one
  walk-turns : (from p : Tid) (rows : List Row) → NoneToPageEnd sight p → Gathers (seen st).version those from p rows → Gathers (seen st).version those from (start_of (p.page + 1)) rows
  walk-turns from p rows none walks = Gathers-pass (page-onward p) (λ q row past stands. elim past [
    | inl later ↦ later-page p q later
    | inr here ↦ absurd (none q.slot here.1 stands.version (ap (λ (m : ℕ). version_at (slots_on (slots_of st.heap) m) q.slot) here.0 ∙ stands.here) ((same stands.version).1 stands.shown))
  ]) walks

  pub scans-gather-by : {from to : Tid} {rows : List Row} → ScansHeap sight from to rows → Gathers (seen st).version those from to rows
  scans-gather-by {from} heap_begins = Gathers-none from
  scans-gather-by {from} (heap_passes p rows scans none) = Gathers-pass_slot (none-stands p none) (scans-gather-by scans)
  scans-gather-by {from} (heap_finds p rows row scans shows) = Gathers-one row (row-stands p row shows) (scans-gather-by scans)
  scans-gather-by {from} (heap_turns p rows scans none) = walk-turns from p rows none (scans-gather-by scans)

-- the session's cursor does
pub scans-gather : (st : State) (e : Session) → IsWindow st.heap.statuses → {from to : Tid} {rows : List Row} → ScansHeap (session_sight st e) from to rows → WalksHeap st e from to rows
scans-gather st e window scans = scans-gather-by st (session_sight st e).sees (seen_by st e) (cursor-sees st window e.isolation e.own.ids) scans

-- What is taken is met on a walk.

module _ (st : State) (e : Session) (window : IsWindow st.heap.statuses) (from : Tid) where
  pub page-walk : (page : ℕ) (rows : List Row) → TakesPage (session_sight st e) from page rows → WalksHeap st e from (start_of (page + 1)) rows
  page-walk page rows takes = Gathers-after (scans-gather st e window takes.comes.scans) (scans-gather st e window takes.scans)

  pub part-walk : (most : ℕ) (rows : List Row) (to : Tid) → TakesPart (session_sight st e) from most rows to → WalksHeap st e from to rows
  part-walk most rows to takes = Gathers-after (scans-gather st e window takes.comes.scans) (scans-gather st e window takes.scans)

  -- no page in use is left
  pub none-on : IsAtEnd (session_sight st e) (Heap from) → NoneToCome st e (Rows (Heap from))
  none-on (to, scans, all) row comes =
      let within = page-within st.heap.pages.pages comes.place.page comes.place.slot comes.version comes.here in
      elim ((scans-gather st e window scans).met comes.place row comes.to_come (record { version = comes.version; here = comes.here; shown = comes.shown; same_row = comes.same_row })) [
        | inl behind ↦ absurd (let le = page-from to comes.place behind in omega arith)
        | inr some ↦ none-some row some.1
      ]

  -- some row comes
  pub some-on : (to : Tid) (rows : List Row) → ScansHeap (session_sight st e) from to rows → 0 < length rows → SomeToCome st e (Rows (Heap from))
  some-on to rows scans some =
      let first = first-row rows some in
      let met = (scans-gather st e window scans).theirs 0 first.0 first.1 in
      let stands = met.3 in
      (first.0, record { place = met.0; version = stands.version; here = stands.here; shown = stands.shown; same_row = stands.same_row; to_come = met.1 })
