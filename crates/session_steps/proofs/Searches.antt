-- What a search of the pages finds, as readers see it.
use Rattle.visibility.proofs.Makers.{active-to}
use Rattle.session_steps.proofs.InUse.{by-key}
use Rattle.table_indexes.specs.Indexes.{entries_in}
use Rattle.std.proofs.Common.{◌≡◌, ℕ, Option, Some, None, refl, ap, inl, inr}
use Rattle.std.specs.Prelude.{pos, Contains, Result, Ok, Err, MatchOption, MatchResult}
use Rattle.tuple_header.specs.declared.version.Row.{Row}
use Rattle.tuple_header.specs.Version.{Version}
use Rattle.xid_circle.specs.declared.Tid.{Tid}
use Rattle.xid_circle.specs.declared.Xid.{Xid}
use Rattle.commit_status.specs.Window.{place}
use Rattle.commit_status.specs.Window as window
use Rattle.visibility.specs.Visible as visibility
use Rattle.index_lookup.specs.Pages.{version_in}
use Rattle.index_lookup.specs.ByPlace.{FoundOrSeen}
use Rattle.sound_entries.proofs.OnHeap.{found-on_heap, place-on_heap, newer_commit-on_heap, other_writer-on_heap}
use Rattle.heap_write.specs.Heap.{HeapView, slots_of, key_value}
use Rattle.history.specs.World.{World}
use Rattle.refinement.specs.Visible.{ReaderSees}
use Rattle.refinement.specs.Finds.{FindsOfKey, IsLateFor, IsHeldBy, BeginsWrite, Free}
use Rattle.calls.specs.declared.reply.Refusal.{Refusal}
use Rattle.calls.specs.declared.reply.Refusal.TheVariants as refusal
use Rattle.sessions.specs.declared.session.Session.{Session}
use Rattle.visibility.specs.Visible.{state_of}
use Rattle.session_steps.specs.State.{State, session_at, seen, position_of, reader_of}
use Rattle.sessions.specs.Session.{statement_snapshot}
use Rattle.session_steps.specs.Agrees.{Agrees}
use Rattle.session_steps.specs.Tests.{MayAct, FindsPlace, IsLateBy, IsHeldUnder, IsUncontested, ConflictsWrite, MayInsertKey, RefusesInsertOfKey}
use Rattle.session_steps.proofs.Owns.{reader-is}
use Rattle.session_steps.proofs.Statements.{statement_sight, statement-sees, statement-misses}

-- the answers of a search for an id

abbrev pub Misses : HeapView → Session → ℕ → Option Xid → Type 0
Misses h e key answer = MatchOption answer ((x : ℕ) → ¬ IsLateBy h e key x) (λ x. IsLateBy h e key x.0)

abbrev pub Holds : HeapView → Session → ℕ → Option Xid → Type 0
Holds h e key answer = MatchOption answer ((x : ℕ) → ¬ IsHeldUnder h e key x) (λ x. IsHeldUnder h e key x.0)

-- What the searches find. Where the entries are sound, it is what stands on the heap.

pub own-active : (st : State) (w : World) (s : ℕ) (e : Session) → Agrees st w → session_at st s ≡ Some e → (x : ℕ) → Contains e.own.ids x → window.IsActive st.heap.statuses x
own-active st w s e agrees at x mine = active-to st.heap.statuses x ((agrees.found.opened s (reader_of e) (reader-is st s e at)).2.own_active x mine)

-- what a statement of the session sees
abbrev pub statement_seen : State → Session → Version → Type 0
statement_seen st e = ReaderSees (state_of st.heap.statuses) (statement_sight st e.isolation) e.own.ids

-- the session reads the row of the key by this version
pub record IsTarget (st : State) (e : Session) (key : ℕ) (p : Tid) (t : Version) : Type 0 where
  pub there : version_in (slots_of st.heap) p ≡ Some t
  pub of_key : t.row.key ≡ key
  pub seen : statement_seen st e t

abbrev pub FoundIn : State → Session → ℕ → Option Tid → Type 0
FoundIn st e key None = FindsOfKey (seen st).version (statement_seen st e) key None
FoundIn st e key (Some p) = (t : Version) × IsTarget st e key p t

pub place-to : (st : State) (w : World) (s : ℕ) (e : Session) (key : ℕ) (found : Option Tid) → Agrees st w → session_at st s ≡ Some e → FindsPlace st.heap e key found → FoundIn st e key found
place-to st w s e key None agrees at finds = λ p v there seen is.
    place-on_heap key_value None st.heap.statuses (slots_of st.heap) (entries_in st.heap.indexes 0) (statement_snapshot st.heap.statuses e.isolation) e.own.ids (by-key st agrees.sound) (own-active st w s e agrees at) (λ t none. absurd none) (pos key) key None finds p v
    (record { there = there; of_value = ap (λ n. pos n) is; of_key = is; has = (statement-sees st agrees.sound.window e.isolation e.own.ids v).1 seen })
place-to st w s e key (Some p) agrees at finds =
    let h = place-on_heap key_value None st.heap.statuses (slots_of st.heap) (entries_in st.heap.indexes 0) (statement_snapshot st.heap.statuses e.isolation) e.own.ids (by-key st agrees.sound) (own-active st w s e agrees at) (λ t none. absurd none) (pos key) key (Some p) finds in
    (h.0, record { there = h.1.there; of_key = h.1.of_key; seen = (statement-sees st agrees.sound.window e.isolation e.own.ids h.0).0 h.1.has })

-- the row of a version of the key that the session sees, or what the index leads it to
abbrev pub RowOf : State → Session → ℕ → Option Row → Type 0
RowOf st e k found = FoundOrSeen st.heap.statuses (visibility.IsVisible st.heap.statuses (statement_snapshot st.heap.statuses e.isolation) e.own.ids) (slots_of st.heap) (entries_in st.heap.indexes 0) (pos k) k found

pub row-to : (st : State) (w : World) (s : ℕ) (e : Session) (key : ℕ) (found : Option Row) → Agrees st w → session_at st s ≡ Some e
    → RowOf st e key found
    → FindsOfKey (seen st).version (statement_seen st e) key found
row-to st w s e key None agrees at finds = λ p v there seen is.
    found-on_heap key_value None st.heap.statuses (slots_of st.heap) (entries_in st.heap.indexes 0) (statement_snapshot st.heap.statuses e.isolation) e.own.ids (by-key st agrees.sound) (own-active st w s e agrees at) (λ t none. absurd none) (pos key) key None finds p v
    (record { there = there; of_value = ap (λ n. pos n) is; of_key = is; has = (statement-sees st agrees.sound.window e.isolation e.own.ids v).1 seen })
row-to st w s e key (Some row) agrees at finds = elim finds [
  | inl by_place ↦ (by_place.place, by_place.version, by_place.there, by_place.of_key, ((statement-sees st agrees.sound.window e.isolation e.own.ids by_place.version).0 by_place.is_seen, by_place.is_row))
  | inr first ↦ (
      let h = found-on_heap key_value None st.heap.statuses (slots_of st.heap) (entries_in st.heap.indexes 0) (statement_snapshot st.heap.statuses e.isolation) e.own.ids (by-key st agrees.sound) (own-active st w s e agrees at) (λ t none. absurd none) (pos key) key (Some row) first in
      (h.0, h.1, h.2.there, h.2.of_key, ((statement-sees st agrees.sound.window e.isolation e.own.ids h.1).0 h.2.has, h.3)))
]

pub late-to : (st : State) (w : World) (e : Session) (key x : ℕ) → Agrees st w → IsLateBy st.heap e key x → IsLateFor (seen st) (reader_of e) key
late-to st w e key x agrees late =
    let h = (newer_commit-on_heap key_value st.heap.statuses (slots_of st.heap) (entries_in st.heap.indexes 0) (statement_snapshot st.heap.statuses e.isolation) x (by-key st agrees.sound) (pos key) key).0 late in
    (h.0, h.1, h.2.there, h.2.of_key, (statement-misses st agrees.sound.window e.isolation h.1).0 (x, h.2.has))

pub not-late : (st : State) (w : World) (e : Session) (key : ℕ) → Agrees st w → ((x : ℕ) → ¬ IsLateBy st.heap e key x) → ¬ IsLateFor (seen st) (reader_of e) key
not-late st w e key agrees timely some =
    let missed = (statement-misses st agrees.sound.window e.isolation some.1).1 some.4 in
    let x = missed.0 in
    timely x ((newer_commit-on_heap key_value st.heap.statuses (slots_of st.heap) (entries_in st.heap.indexes 0) (statement_snapshot st.heap.statuses e.isolation) x (by-key st agrees.sound) (pos key) key).1 (
      some.0,
      some.1,
      record {
        there = some.2;
        of_value = ap (λ n. pos n) some.3;
        of_key = some.3;
        has = missed.1;
      },
    ))

-- what holds a key is in progress
pub held-active : (h : HeapView) (e : Session) (key x : ℕ) → IsHeldUnder h e key x → window.IsActive h.statuses x
held-active h e key x held = active-to h.statuses x held.at.some.has.active

pub held-to : (st : State) (w : World) (e : Session) (key x : ℕ) → Agrees st w → IsHeldUnder st.heap e key x → IsHeldBy (seen st) (reader_of e) key x
held-to st w e key x agrees held =
    let h = (other_writer-on_heap key_value st.heap.statuses (slots_of st.heap) (entries_in st.heap.indexes 0) e.own.ids x (by-key st agrees.sound) (pos key) key).0 held in
    (h.0, h.1, h.2.there, h.2.of_key, h.2.has)

held-from : (st : State) (w : World) (e : Session) (key x : ℕ) → Agrees st w → IsHeldBy (seen st) (reader_of e) key x → IsHeldUnder st.heap e key x
held-from st w e key x agrees some =
    (other_writer-on_heap key_value st.heap.statuses (slots_of st.heap) (entries_in st.heap.indexes 0) e.own.ids x (by-key st agrees.sound) (pos key) key).1 (
      some.0,
      some.1,
      record {
        there = some.2;
        of_value = ap (λ n. pos n) some.3;
        of_key = some.3;
        has = some.4;
      },
    )

-- Tests that are passed, or not.

pub begins-none : (st : State) (w : World) (s : ℕ) (e : Session) (key : ℕ) → Agrees st w → MayAct st s e → FindsPlace st.heap e key None → BeginsWrite (seen st) s (reader_of e) key None
begins-none st w s e key agrees acts finds = record { at = reader-is st s e acts.1; sound = acts.2; bare = ap position_of acts.3; finds = place-to st w s e key None agrees acts.1 finds }

pub begins-some : (st : State) (s : ℕ) (e : Session) (key : ℕ) (p : Tid) (t : Version) → MayAct st s e → IsTarget st e key p t → BeginsWrite (seen st) s (reader_of e) key (Some t.row)
begins-some st s e key p t acts target = record { at = reader-is st s e acts.1; sound = acts.2; bare = ap position_of acts.3; finds = (p, t, target.there, target.of_key, (target.seen, refl)) }

pub free-with : (st : State) (w : World) (s : ℕ) (e : Session) (key : ℕ) (found : Option Row) → Agrees st w → BeginsWrite (seen st) s (reader_of e) key found → IsUncontested st e key → Free (seen st) s (reader_of e) key found
free-with st w s e key found agrees begins free =
    record { begins = begins; timely = not-late st w e key agrees free.timely; unheld = λ x held. free.unheld x (held-from st w e key x agrees held) }

-- what delays a session, delays it of what it reads

delayed-insert : (st : State) (e : Session) (key : ℕ) (r : Refusal) → FindsPlace st.heap e key None → ConflictsWrite st e key r → RefusesInsertOfKey st e key r
delayed-insert st e key refusal.AlreadyThere finds delays = absurd delays
delayed-insert st e key _ finds delays = (finds, delays)

-- What a session may do that reads no row of the key.

pub may-insert : {A : Type 0} (st : State) (e : Session) (key : ℕ) (r : Result A Refusal) → FindsPlace st.heap e key None → MatchResult r (λ _. IsUncontested st e key) (λ refusal. ConflictsWrite st e key refusal)
    → MatchResult r (λ _. MayInsertKey st e key) (λ refusal. RefusesInsertOfKey st e key refusal)
may-insert st e key (Ok u) finds free = (finds, free)
may-insert st e key (Err refusal) finds delays = delayed-insert st e key refusal finds delays
