-- How many rows or keys a reply has.
use Rattle.std.proofs.Common.{◌≤◌, ℕ, min, max, List, length, arith}
use Rattle.tuple_header.specs.declared.version.Row.{Row}
use Rattle.tuple_header.specs.declared.version.TheConstants.{MOST_SLOTS}
use Rattle.calls.specs.declared.step.Step.{Step}
use Rattle.calls.specs.declared.step.Step.TheVariants as step
use Rattle.calls.specs.declared.reply.Reply.{Reply}
use Rattle.calls.specs.declared.reply.Reply.TheVariants as reply
use Rattle.table_indexes.specs.Indexes.{IndexesView, entries_in}
use Rattle.table_scans.specs.declared.progress.Scan.{Scan}
use Rattle.table_scans.specs.declared.progress.Scan.TheVariants.{Index, Heap}
use Rattle.table_scans.specs.Scans.{Sight}
use Rattle.table_scans.specs.Takes.{Takes}
use Rattle.session_steps.specs.Takes.{session_sight}
use Rattle.session_core.specs.State.{WaitingView}
use Rattle.shared_heap.specs.Replies.{ListFits, HasRoomFor}
use Rattle.shared_heap.proofs.Scanned.{few-scanned, few-keys_scanned}

-- no index has more entries than this
abbrev pub HasNoMore : IndexesView → ℕ → Type 0
HasNoMore indexes most = (i : ℕ) → length (entries_in indexes i) ≤ most

few : (t : Sight) (scan : Scan) (n most : ℕ) (rows : List Row) (after : Scan) → HasNoMore t.heap.indexes most → Takes t scan n rows after
    → length rows ≤ max (min (max n 1) most) MOST_SLOTS
few t (Index range) n most rows after no_more takes =
    let asked = takes.2.at_most in
    let scanned = few-scanned t range takes.0 rows takes.2.scans in
    let all = no_more range.index in omega arith
few t (Heap from) n most rows after no_more takes = let few = takes.2.few in omega arith

pub room-next : (old : WaitingView) (s n most room : ℕ) → HasNoMore old.engine.core.heap.indexes most → max (min (max n 1) most) MOST_SLOTS ≤ room
    → HasRoomFor old (step.Next s n) room
room-next old s n most room no_more enough w new (reply.Rows rows) agrees follows exact =
    let hands = exact.0.core in
    let fit = few (session_sight old.engine.core hands.session) hands.before n most rows.items hands.after no_more hands.takes in omega arith
room-next old s n most room no_more enough w new (reply.Keys keys) agrees follows exact =
    let hands = exact.0.core in
    let asked = hands.takes.at_most in
    let scanned = few-keys_scanned (session_sight old.engine.core hands.session) hands.before hands.after keys.items hands.takes.scans in
    let all = no_more 0 in omega arith
room-next old s n most room no_more enough w new _ agrees follows exact = tt

pub room-page : (old : WaitingView) (s p room : ℕ) → MOST_SLOTS ≤ room → HasRoomFor old (step.TakePage s p) room
room-page old s p room enough w new (reply.Rows rows) agrees follows exact =
    let few = exact.0.core.0.all.few in omega (arith, few, enough)
room-page old s p room enough w new (reply.Keys keys) agrees follows exact = absurd exact.0.core
room-page old s p room enough w new _ agrees follows exact = tt

fits-more : (reply : Reply) (n m : ℕ) → n ≤ m → ListFits reply n → ListFits reply m
fits-more (reply.Rows rows) n m more fits = omega arith
fits-more (reply.Keys keys) n m more fits = omega arith
fits-more _ n m more fits = tt

-- more room is room too
pub room-more : (old : WaitingView) (step : Step) (n m : ℕ) → n ≤ m → HasRoomFor old step n → HasRoomFor old step m
room-more old step n m more room w new reply agrees follows exact = fits-more reply n m more (room w new reply agrees follows exact)
