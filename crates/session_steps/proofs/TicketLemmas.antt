-- What tickets hold, of the view of the session that took them.
use Rattle.std.proofs.Common.{◌≡◌, ℕ, suc, ◌+◌, ◌<◌, false, List, [], ◌∷◌, ◌++◌, length, slice_get, Option, Some, None, refl, sym, ap, ◌∙◌, subst, append-nil, append_assoc, inl, inr, arith}
use Rattle.std.specs.List.{flat_map}
use Rattle.std.specs.Option.{option_map}
use Rattle.std.proofs.lemmas.Bool.{cases_lt}
use Rattle.std.proofs.lemmas.Option.{same_Some, none-some, slice_get_within}
use Rattle.xid_circle.specs.declared.Tid.{Tid}
use Rattle.tuple_header.specs.declared.version.Row.{Row}
use Rattle.tuple_header.specs.Version.{Version}
use Rattle.page_slots.specs.View.{PageView}
use Rattle.visibility.specs.Visible.{IsVisible}
use Rattle.visibility.specs.declared.reader.Reader.{Reader}
use Rattle.table_scans.specs.Tickets.{TicketView, ticket_rows}
use Rattle.table_scans.specs.Seen.{AreSeenOn}
use Rattle.history.specs.World.{World, OpenSession, view}
use Rattle.history.specs.Cursors.{AreOf}
use Rattle.refinement.specs.Agrees.{Shows}
use Rattle.refinement.specs.Cursors.{IsFrom, Gathers}
use Rattle.refinement.proofs.CursorWalks.{from_itself, from_first}
use Rattle.refinement.proofs.Follows.{reads_rows}
use Rattle.table_scans.specs.Scans.{Sight, start_of, ScansHeap, heap_begins, heap_passes, heap_finds, heap_turns}
use Rattle.table_scans.specs.Takes.{TakesAll}
use Rattle.sessions.specs.declared.session.Session.{Session}
use Rattle.session_steps.specs.State.{State, session_at, seen, reader_of}
use Rattle.session_steps.specs.Agrees.{Agrees}
use Rattle.session_steps.specs.Takes.{ReadsBy}
use Rattle.session_steps.specs.Tickets.{statement_sight, SeesOnPage, TakesTicket, AreViewed, AreAllOf, TakesAllPages, TicketsHoldTheView}
use Rattle.session_steps.proofs.Owns.{reader-is}
use Rattle.session_steps.proofs.Searches.{statement_seen}
use Rattle.session_steps.proofs.SessionReader.{as-session, by_statement}
use Rattle.session_steps.proofs.Statements.{statement-sees}
use Rattle.session_steps.proofs.HeapWalks.{page-within, page-from, scans-gather-by}

-- Rows that are met on a walk are those that the versions seen show.
module _ (store : Tid → Option Version) (those : Version → Type 0) (row : ℕ → Option Row) (shows : Shows store those row)
    (from to : Tid) (rows : List Row) (walk : Gathers store those from to rows) where
  theirs-met : (i : ℕ) (r : Row) → slice_get rows i ≡ Some r → row r.key ≡ Some r
  theirs-met i r at =
      let met = walk.theirs i r at in
      let stands = met.3 in
      subst (λ (r : Row). row r.key ≡ Some r) stands.same_row (shows.sound met.0 stands.version stands.here stands.shown)

  not-again : (i j : ℕ) (a b : Row) → slice_get rows i ≡ Some a → slice_get rows j ≡ Some b → a.key ≡ b.key → ¬ (i < j)
  not-again i j a b at bt same lt =
      let met = walk.in_order i j a b at bt lt in
      let here = met.3 in
      let there = met.4 in
      let keys : here.version.row.key ≡ there.version.row.key = ap (λ (r : Row). r.key) here.same_row ∙ same ∙ sym (ap (λ (r : Row). r.key) there.same_row) in
      let is : met.0 ≡ met.1 = shows.one met.0 met.1 here.version there.version here.here there.here here.shown there.shown keys in
      met.2 (subst (λ (p : Tid). IsFrom met.1 p) (sym is) (from_itself met.1))

  pub are-of : AreOf row rows
  are-of = record {
    theirs = theirs-met;
    once = λ i j a b at bt same. elim (cases_lt i j) [
      | inl lt ↦ absurd (not-again i j a b at bt same lt)
      | inr le ↦ elim (cases_lt j i) [ inl lt ↦ absurd (not-again j i b a bt at (sym same) lt) | inr ge ↦ omega (arith, le, ge) ]
    ];
  }

  -- and all of them, where the walk goes over all places
  pub are-all : ((p : Tid) → IsFrom from p) → ((p : Tid) (v : Version) → store p ≡ Some v → ¬ IsFrom to p) → AreAllOf row rows
  are-all first last = record {
    of = are-of;
    all = λ key r is.
        let some = shows.there key r is in
        let same : some.1.row ≡ r = same_Some some.1.row r (sym (shows.sound some.0 some.1 some.2 some.4) ∙ ap row some.3 ∙ is) in
        elim (walk.met some.0 r (first some.0) (record { version = some.1; here = some.2; shown = some.4; same_row = same })) [
          | inl behind ↦ absurd (last some.0 some.1 some.2 behind)
          | inr found ↦ found
        ];
  }

-- Scans from page to page.

scans-on : {t : Sight} {a b c : Tid} {rows more : List Row} → ScansHeap t a b rows → ScansHeap t b c more → ScansHeap t a c (rows ++ more)
scans-on {t} {a} {b} {rows = rows} h heap_begins = subst (λ (all : List Row). ScansHeap t a b all) (sym (append-nil rows)) h
scans-on {rows = rows} h (heap_passes p more scans none) = heap_passes p (rows ++ more) (scans-on h scans) none
scans-on {t} {a} {rows = rows} h (heap_finds p more row scans shows) =
    subst (λ (all : List Row). ScansHeap t a (record { page = p.page; slot = p.slot + 1 }) all) (append_assoc rows more (row ∷ []))
    (heap_finds p (rows ++ more) row (scans-on h scans) shows)
scans-on {rows = rows} h (heap_turns p more scans none) = heap_turns p (rows ++ more) (scans-on h scans) none

-- each ticket has what is met on its page, and all together what is met on all
scans-all : (t : Sight) (first : ℕ) (tickets : List TicketView)
    → ((i : ℕ) (ticket : TicketView) → slice_get tickets i ≡ Some ticket → ScansHeap t (start_of (first + i)) (start_of (first + i + 1)) (ticket_rows ticket))
    → ScansHeap t (start_of first) (start_of (first + length tickets)) (flat_map ticket_rows tickets)
scans-all t first [] each = let end : first ≡ first + 0 = omega arith in subst (λ (n : ℕ). ScansHeap t (start_of first) (start_of n) []) end heap_begins
scans-all t first (ticket ∷ tickets) each =
    let here : first + 0 ≡ first = omega arith in
    let end : first + 1 + length tickets ≡ first + suc (length tickets) = omega arith in
    scans-on (subst (λ (n : ℕ). ScansHeap t (start_of n) (start_of (n + 1)) (ticket_rows ticket)) here (each 0 ticket refl))
    (subst (λ (n : ℕ). ScansHeap t (start_of (first + 1)) (start_of n) (flat_map ticket_rows tickets)) end
    (scans-all t (first + 1) tickets (λ i later at.
    let next : first + suc i ≡ first + 1 + i = omega arith in
    subst (λ (n : ℕ). ScansHeap t (start_of n) (start_of (n + 1)) (ticket_rows later)) next (each (suc i) later at))))

-- What an open session took.
module _ (st : State) (w : World) (s : ℕ) (e : Session) (agrees : Agrees st w) (at : session_at st s ≡ Some e) where
  abbrev opened : (m : OpenSession) × (w.session s ≡ Some m)
  opened = let open_ = agrees.found.opened s (reader_of e) (reader-is st s e at) in (open_.0, open_.1)

  shown : Shows (seen st).version (statement_seen st e) (view w.history opened.0)
  shown = reads_rows (seen st) w s (reader_of e) (reader-is st s e at) agrees.found

  gathered : {from to : Tid} {rows : List Row} → ScansHeap (statement_sight st e) from to rows → Gathers (seen st).version (statement_seen st e) from to rows
  gathered scans = scans-gather-by st (statement_sight st e).sees (statement_seen st e) (statement-sees st agrees.sound.window e.isolation e.own.ids) scans

  on-page : (number : ℕ) (rows : List Row) → TakesAll (statement_sight st e) (start_of number) rows → AreOf (view w.history opened.0) rows
  on-page number rows takes =
      are-of (seen st).version (statement_seen st e) (view w.history opened.0) shown (start_of number) (start_of (number + 1)) rows (gathered takes.scans)

  -- no version stands behind the last page
  none-behind-all : (p : Tid) (v : Version) → (seen st).version p ≡ Some v → ¬ IsFrom (start_of (length st.heap.pages.pages)) p
  none-behind-all p v here behind =
      let within = page-within st.heap.pages.pages p.page p.slot v here in
      let past = page-from (start_of (length st.heap.pages.pages)) p behind in
      absurd (omega (arith, within, past))

  each-scan : (tickets : List TicketView) → TakesAllPages st s tickets → (i : ℕ) (ticket : TicketView) → slice_get tickets i ≡ Some ticket
      → ScansHeap (statement_sight st e) (start_of (0 + i)) (start_of (0 + i + 1)) (ticket_rows ticket)
  each-scan tickets takes i ticket is =
      let took = (takes.each i ticket is).sees in
      let same : took.session ≡ e = same_Some took.session e (sym took.there ∙ at) in
      let number : i ≡ 0 + i = omega arith in
      subst (λ (n : ℕ). ScansHeap (statement_sight st e) (start_of n) (start_of (n + 1)) (ticket_rows ticket)) number
      (subst (λ (e : Session). ScansHeap (statement_sight st e) (start_of i) (start_of (i + 1)) (ticket_rows ticket)) same took.all.scans)

  on-all : (tickets : List TicketView) → TakesAllPages st s tickets → AreAllOf (view w.history opened.0) (flat_map ticket_rows tickets)
  on-all tickets takes =
      let count = takes.count in
      let end : 0 + length tickets ≡ length st.heap.pages.pages = omega (arith, count) in
      are-all (seen st).version (statement_seen st e) (view w.history opened.0) shown (start_of 0) (start_of (length st.heap.pages.pages)) (flat_map ticket_rows tickets)
      (gathered (subst (λ (n : ℕ). ScansHeap (statement_sight st e) (start_of 0) (start_of n) (flat_map ticket_rows tickets)) end (scans-all (statement_sight st e) 0 tickets (each-scan tickets takes))))
      from_first none-behind-all

-- Who reads as the session does sees what it sees.
pub sees-on : (st : State) (s number : ℕ) (e : Session) (r : Reader) (page : PageView) (rows : List Row) → session_at st s ≡ Some e → e.failed ≡ false → ReadsBy st e (by_statement st e) r
    → slice_get st.heap.pages.pages number ≡ Some page → AreSeenOn page r rows → SeesOnPage st s number rows
sees-on st s number e r page rows at sound reads on seen = record {
  session = e;
  there = at;
  sound = sound;
  in_use = slice_get_within st.heap.pages.pages number page on;
  all = as-session st e (by_statement st e) r (λ w snap own. TakesAll (record { heap = st.heap; statuses = w; sees = IsVisible w snap own.ids }) (start_of number) rows) reads (seen st.heap number on);
}

-- A ticket is taken.

-- of who reads as the session does
module _ (st : State) (s number : ℕ) (e : Session) (r : Reader) (page : PageView) (ticket : TicketView) where
  took-at : session_at st s ≡ Some e → e.failed ≡ false → ReadsBy st e (by_statement st e) r → slice_get st.heap.pages.pages number ≡ Some page → ticket.page ≡ page
      → AreSeenOn page r (ticket_rows ticket) → TakesTicket st s number ticket
  took-at at sound reads on is seen = record { page = on ∙ ap Some (sym is); sees = sees-on st s number e r page (ticket_rows ticket) at sound reads on seen }

  -- the page was shared before, which changed nothing
  pub took : (now : State) → now ≡ st → session_at now s ≡ Some e → e.failed ≡ false → ReadsBy now e (by_statement now e) r → slice_get st.heap.pages.pages number ≡ Some page
      → ticket.page ≡ page → AreSeenOn page r (ticket_rows ticket) → TakesTicket st s number ticket
  took now same at sound reads on is seen =
      took-at (subst (λ (v : State). session_at v s ≡ Some e) same at) sound (subst (λ (v : State). ReadsBy v e (by_statement v e) r) same reads) on is seen

-- the rows are the view's
pub rows-viewed : (st : State) (s number : ℕ) (rows : List Row) → SeesOnPage st s number rows → AreViewed st s rows
rows-viewed st s number rows sees w agrees =
    let m = opened st w s sees.session agrees sees.there in
    (m.0, m.1, on-page st w s sees.session agrees sees.there number rows sees.all)

-- who is open in the world is open
open-there : (st : State) (w : World) (s : ℕ) (m : OpenSession) → Agrees st w → w.session s ≡ Some m → (e : Session) × (session_at st s ≡ Some e)
open-there st w s m agrees is = by (session_at st s) refl
  where
    by : (o : Option Session) → session_at st s ≡ o → (e : Session) × (session_at st s ≡ Some e)
    by None none = absurd (none-some m (sym (agrees.found.idle s (ap (option_map reader_of) none)) ∙ is))
    by (Some e) at = (e, at)

pub tickets-hold-the-view : TicketsHoldTheView
tickets-hold-the-view st w agrees s m is tickets takes =
    let e = open-there st w s m agrees is in
    let mine = opened st w s e.0 agrees e.1 in
    let same : mine.0 ≡ m = same_Some mine.0 m (sym mine.1 ∙ is) in
    subst (λ (m : OpenSession). AreAllOf (view w.history m) (flat_map ticket_rows tickets)) same (on-all st w s e.0 agrees e.1 tickets takes)
