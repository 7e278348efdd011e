-- What is answered to a look, and that it is what the engine holds.
use Rattle.std.specs.Prelude.{◌≡◌, ℕ, ◌+◌, ◌<◌, ◌⊎◌, List, [], ◌++◌, length, map, slice_get, Option, Some, None, IsSome, MatchOption}
use Rattle.std.specs.Option.{option_map}
use Rattle.std.specs.List.{AllByRecursion}
use Rattle.std.specs.List.Sorted.{IsPermutation, IsNonDecreasingBy}
use Rattle.xid_circle.specs.Circle.{distance_of}
use Rattle.xid_circle.specs.Numbers.{Key, PageNo, SessionNo, SlotNo}
use Rattle.xid_circle.specs.declared.Tid.{Tid}
use Rattle.snapshot.specs.Snap.{Snap}
use Rattle.commit_status.specs.Window.{Window, IsActive}
use Rattle.reasons.specs.declared.reason.Touch.{Touch}
use Rattle.slot_fates.specs.Fates.{IsFate}
use Rattle.slot_fates.specs.declared.fate.SlotFate.{SlotFate}
use Rattle.slot_fates.specs.declared.fate.SlotFate.TheVariants as slot
use Rattle.slot_fates.specs.declared.fate.VersionFate.TheVariants as fate
use Rattle.prune.specs.declared.action.PrunePlan.{PrunePlan}
use Rattle.index_lookup.specs.Pages.{slots_on}
use Rattle.heap_write.specs.Heap.{slots_of}
use Rattle.calls.specs.Bars.{BarsOpen}
use Rattle.calls.specs.declared.reply.Refusal.{Refusal}
use Rattle.calls.specs.declared.reply.Refusal.TheVariants as refusal
use Rattle.calls.specs.declared.reply.Reply.TheVariants as reply
use Rattle.session_steps.specs.State.{State, session_at, engine_sessions, horizon_of}
use Rattle.sessions.specs.Session.{kept_by}
use Rattle.sessions.specs.declared.session.Session.{Session}
use Rattle.session_looks.specs.Holders.{IsHolder, HasId}
use Rattle.session_looks.specs.Explaining.{IsNextEntry, IsExplained, IsPlanNow}
use Rattle.session_looks.specs.declared.holder.HorizonHolder.{HorizonHolder}
use Rattle.session_core.specs.State.{WaitingView, wait_at}
use Rattle.script_text.specs.Answers.{reply_text}
use Rattle.view_text.specs.declared.look.Look.{Look}
use Rattle.view_text.specs.declared.look.Look.TheVariants.{Explain, Session as SessionLook, Horizon, Fate, Plan, Vacuum}
use Rattle.view_text.specs.declared.versions.VersionLook.{VersionLook}
use Rattle.view_text.specs.declared.versions.EntryLook.{EntryLook}
use Rattle.view_text.specs.declared.cleaning.FateLook.{FateLook}
use Rattle.view_text.specs.Answers.{explanation_text, session_text, horizon_text, fate_text, plan_text, vacuum_text}

-- the session that has an id, if one has; each id in progress is a session's
pub record IsOwnerTold (st : State) (x : ℕ) (owner : Option SessionNo) : Type 0 where
  pub has : MatchOption owner ((s : ℕ) → ¬ HasId st x s) (HasId st x)
  pub running : IsActive st.heap.statuses x → IsSome owner

-- of the id that made or deleted a version, if one did
abbrev pub IsTouchOwner : State → Option Touch → Option SessionNo → Type 0
IsTouchOwner st None owner = owner ≡ None
IsTouchOwner st (Some touch) owner = IsOwnerTold st touch.id.0 owner

pub record AreOwners (st : State) (v : VersionLook) : Type 0 where
  pub maker : IsTouchOwner st v.shown.verdict.maker v.maker_session
  pub deleter : IsTouchOwner st v.shown.verdict.deleter v.deleter_session

-- these are the versions of the chain to which an entry leads, each at its place: a statement of the session, begun now, sees each as
-- it is told
pub record AreVersions (st : State) (e : Session) (place : Tid) (versions : List VersionLook) : Type 0 where
  pub shown : (n : ℕ) → IsExplained st e place n (option_map (λ (v : VersionLook). v.shown) (slice_get versions n))
  pub owners : AllByRecursion (AreOwners st) versions

-- what stands on a page in a slot now, if the page is in use
abbrev pub IsSlotFate : State → PageNo → SlotNo → Option SlotFate → Type 0
IsSlotFate st p n fate = MatchOption fate (slice_get st.heap.pages.pages p ≡ None)
    (IsFate st.heap.statuses (horizon_of st) (slots_on (slots_of st.heap) p) n)

pub record IsEntryLook (st : State) (e : Session) (look : EntryLook) : Type 0 where
  pub leads : IsSlotFate st look.place.page look.place.slot look.leads
  pub versions : AreVersions st e look.place look.versions.items

-- the entries of a key lead to these places, in the order of the index by key
pub record AreEntryPlaces (st : State) (key : Key) (places : List Tid) : Type 0 where
  pub first : IsNextEntry st key None (slice_get places 0)
  pub next : (n : ℕ) (place : Tid) → slice_get places n ≡ Some place → IsNextEntry st key (Some place) (slice_get places (n + 1))

-- these are the entries of a key, in their order, each with the versions of its chain
pub record IsExplanation (st : State) (e : Session) (key : Key) (entries : List EntryLook) : Type 0 where
  pub places : AreEntryPlaces st key (map (λ (look : EntryLook). look.place) entries)
  pub each : AllByRecursion (IsEntryLook st e) entries

-- the ids that a snapshot lists, in the order of the circle from its xmin on
abbrev pub AreListed : Option Snap → List ℕ → Type 0
AreListed None listed = listed ≡ []
AreListed (Some snap) listed = IsPermutation snap.listed listed × IsNonDecreasingBy (distance_of snap.xmin) listed

-- the session that has a version's deleter, if the version stays and somebody deleted it
abbrev pub IsFateOwner : State → SlotFate → Option SessionNo → Type 0
IsFateOwner st (slot.Version (fate.Kept (Some deleter))) owner = IsOwnerTold st deleter.id.0 owner
IsFateOwner st other owner = owner ≡ None

pub record IsFateLook (st : State) (p : PageNo) (n : SlotNo) (look : FateLook) : Type 0 where
  pub fate : IsSlotFate st p n (Some look.fate)
  pub owner : IsFateOwner st look.fate look.owner
  pub horizon : look.horizon.0 ≡ horizon_of st
  pub holder : IsHolder st look.holder

-- why a session is not looked at
abbrev pub RefusesSessionLook : State → SessionNo → (text : List ℕ) → Type 0
RefusesSessionLook st s text = (r : Refusal) × BarsOpen (engine_sessions st) s r × (text ≡ reply_text (reply.Refused r))

-- why a page is not
abbrev pub RefusesPageLook : State → PageNo → (text : List ℕ) → Type 0
RefusesPageLook st p text = (slice_get st.heap.pages.pages p ≡ None) × (text ≡ reply_text (reply.Refused refusal.NoSuchPage))

-- What is answered: the text of what the engine holds, or of a refusal. Sessions that have failed are looked at too.
abbrev pub Answers : WaitingView → Look → (text : List ℕ) → Type 0
Answers st (Explain s key) text = RefusesSessionLook st.engine.core s text
    ⊎ ((e : Session) × (entries : List EntryLook) × (session_at st.engine.core s ≡ Some e) × IsExplanation st.engine.core e key entries
    × (text ≡ explanation_text s key entries))
Answers st (SessionLook s) text = RefusesSessionLook st.engine.core s text
    ⊎ ((e : Session) × (listed : List ℕ) × (session_at st.engine.core s ≡ Some e) × AreListed (kept_by e.isolation) listed
    × (text ≡ session_text s e listed (wait_at st s)))
Answers st Horizon text = (holder : Option HorizonHolder) × IsHolder st.engine.core holder × (text ≡ horizon_text (horizon_of st.engine.core) holder)
Answers st (Fate p n) text = RefusesPageLook st.engine.core p text
    ⊎ ((look : FateLook) × IsFateLook st.engine.core p n look × (text ≡ fate_text p n look))
Answers st (Plan p) text = RefusesPageLook st.engine.core p text
    ⊎ ((plan : PrunePlan) × IsPlanNow st.engine.core p plan × (text ≡ plan_text p plan))
Answers st Vacuum text = text ≡ vacuum_text st.engine.vacuum
