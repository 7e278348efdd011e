-- Looks, as C asks them: they leave what the handle has as it was.
use Rattle.std.specs.Prelude.{◌≡◌, ◌⊎◌, ℕ, ◌<◌, ◌≤◌, List, length, Option, Some, None, Result, Ok, Err, slice_get, MatchOption, MatchResult}
use Rattle.std.specs.Option.{option_map}
use Rattle.xid_circle.specs.Numbers.{Id, SessionNo, PageNo, SlotNo, Key, Count}
use Rattle.calls.specs.declared.reply.Refusal.{Refusal}
use Rattle.calls.specs.declared.reply.Refusal.TheVariants as refusal
use Rattle.calls.specs.Bars.{BarsOpen}
use Rattle.prune.specs.declared.action.PrunePlan.{PrunePlan}
use Rattle.session_steps.specs.State.{State, engine_sessions}
use Rattle.session_looks.specs.Explaining.{IsPlanNow}
use Rattle.session_core.specs.State.{WaitingView}
use Rattle.c_views.specs.declared.entry.SandpiperPlace.{SandpiperPlace}
use Rattle.c_views.specs.declared.reason.SandpiperShown.{SandpiperShown}
use Rattle.c_views.specs.declared.session.SandpiperSession.{SandpiperSession}
use Rattle.c_views.specs.declared.horizon.SandpiperHorizon.{SandpiperHorizon}
use Rattle.c_views.specs.declared.fate.SandpiperFate.{SandpiperFate}
use Rattle.c_views.specs.declared.plan.SandpiperAction.{SandpiperAction}
use Rattle.c_views.specs.declared.vacuum.SandpiperVacuum.{SandpiperVacuum}
use Rattle.c_views.specs.declared.id.SandpiperId.{SandpiperId}
use Rattle.c_views.specs.Entries.{tid_of, IsEntryAfter}
use Rattle.c_views.specs.Reasons.{IsShownTo}
use Rattle.c_views.specs.Sessions.{IsSessionShown, IsOwnId, AreIdsAt, IsListedId}
use Rattle.c_views.specs.Horizon.{IsHorizonShown}
use Rattle.c_views.specs.Fates.{IsFateShown}
use Rattle.c_views.specs.Actions.{with_actions}
use Rattle.c_views.specs.Vacuums.{shown_vacuum}
use Rattle.c_views.specs.Ids.{IsIdShown}
use Rattle.c_handles.specs.declared.database.Sandpiper.{Sandpiper}
use Rattle.c_handles.specs.declared.held.Held.{Held}
use Rattle.c_handles.specs.declared.status.CallStatus.{CallStatus}
use Rattle.c_handles.specs.declared.status.CallStatus.TheVariants as status
use Rattle.c_handles.specs.CallStatus.{number_of_status}
use Rattle.sandpiper_c.specs.Calls.{held_by}
use Rattle.sandpiper_c.specs.Tickets.{core_of}

-- C's place has what was found, if anything was, and is else as it was; the status says which
abbrev pub Tells : {A : Type 0} → Option A → (otherwise : CallStatus) → (old : A) → (code : ℕ) → (new : A) → Type 0
Tells None otherwise old code new = (code ≡ number_of_status otherwise) × (new ≡ old)
Tells (Some found) otherwise old code new = (code ≡ number_of_status status.Found) × (new ≡ found)

-- the same of a look that asks for an open session
abbrev pub TellsOrRefuses : {A : Type 0} → Result (Option A) Refusal → (old : A) → (code : ℕ) → (new : A) → Type 0
TellsOrRefuses (Ok found) old code new = Tells found status.NoRow old code new
TellsOrRefuses (Err reason) old code new = Tells None (status.Refused reason) old code new

-- the session is not open, for this reason
abbrev pub IsNotOpen : State → SessionNo → Refusal → Type 0
IsNotOpen st s reason = BarsOpen (engine_sessions st) s reason

abbrev pub NextEntryBy : Option Held → Key → SandpiperPlace → (code : ℕ) → SandpiperPlace → Type 0
NextEntryBy None key after code new = Tells None status.NoEngine after code new
NextEntryBy (Some held) key after code new = (answer : Option SandpiperPlace) × IsEntryAfter (core_of held) key after answer × Tells answer status.NoRow after code new

-- where the key's next entry leads, or there is none
abbrev pub NextEntryOf : Sandpiper → Key → SandpiperPlace → (code : ℕ) → SandpiperPlace → Type 0
NextEntryOf table key after code new = NextEntryBy (held_by table) key after code new

-- the version at this place of the chain, and why the session sees it, or does not
pub record Explains (st : State) (s : SessionNo) (entry : SandpiperPlace) (n : Count) (old : SandpiperShown) (code : ℕ) (new : SandpiperShown) : Type 0 where
  pub answer : Result (Option SandpiperShown) Refusal
  pub is_answer : MatchResult answer (IsShownTo st s (tid_of entry) n) (IsNotOpen st s)
  pub told : TellsOrRefuses answer old code new

abbrev pub ExplainsBy : Option Held → SessionNo → SandpiperPlace → Count → SandpiperShown → (code : ℕ) → SandpiperShown → Type 0
ExplainsBy None s entry n old code new = Tells None status.NoEngine old code new
ExplainsBy (Some held) s entry n old code new = Explains (core_of held) s entry n old code new

abbrev pub ExplainsOf : Sandpiper → SessionNo → SandpiperPlace → Count → SandpiperShown → (code : ℕ) → SandpiperShown → Type 0
ExplainsOf table s entry n old code new = ExplainsBy (held_by table) s entry n old code new

-- what an open session is like is found wherever the session is open
abbrev pub TellsSession : Result SandpiperSession Refusal → SandpiperSession → (code : ℕ) → SandpiperSession → Type 0
TellsSession (Ok shown) old code new = Tells (Some shown) status.NoRow old code new
TellsSession (Err reason) old code new = Tells None (status.Refused reason) old code new

-- what the session is like, and for whom it waits
pub record ShowsSession (engine : WaitingView) (s : SessionNo) (old : SandpiperSession) (code : ℕ) (new : SandpiperSession) : Type 0 where
  pub answer : Result SandpiperSession Refusal
  pub is_answer : MatchResult answer (IsSessionShown engine s) (IsNotOpen engine.engine.core s)
  pub told : TellsSession answer old code new

abbrev pub ShowsSessionBy : Option Held → SessionNo → SandpiperSession → (code : ℕ) → SandpiperSession → Type 0
ShowsSessionBy None s old code new = Tells None status.NoEngine old code new
ShowsSessionBy (Some held) s old code new = ShowsSession held.engine s old code new

abbrev pub ShowsSessionOf : Sandpiper → SessionNo → SandpiperSession → (code : ℕ) → SandpiperSession → Type 0
ShowsSessionOf table s old code new = ShowsSessionBy (held_by table) s old code new

-- an id of an open session: one of its own, or one that its snapshot lists; or how many of its own it had at a savepoint
pub record ShowsId (st : State) (s : SessionNo) (is_id : Option ℕ → Type 0) (old code new : ℕ) : Type 0 where
  pub answer : Result (Option ℕ) Refusal
  pub is_answer : MatchResult answer is_id (IsNotOpen st s)
  pub told : TellsOrRefuses answer old code new

abbrev pub OwnIdBy : Option Held → SessionNo → Count → (old code new : ℕ) → Type 0
OwnIdBy None s n old code new = Tells None status.NoEngine old code new
OwnIdBy (Some held) s n old code new = ShowsId (core_of held) s (IsOwnId (core_of held) s n) old code new

abbrev pub OwnIdOf : Sandpiper → SessionNo → Count → (old code new : ℕ) → Type 0
OwnIdOf table s n old code new = OwnIdBy (held_by table) s n old code new

abbrev pub IdsAtBy : Option Held → SessionNo → Count → (old code new : ℕ) → Type 0
IdsAtBy None s savepoint old code new = Tells None status.NoEngine old code new
IdsAtBy (Some held) s savepoint old code new = ShowsId (core_of held) s (AreIdsAt (core_of held) s savepoint) old code new

abbrev pub IdsAtOf : Sandpiper → SessionNo → Count → (old code new : ℕ) → Type 0
IdsAtOf table s savepoint old code new = IdsAtBy (held_by table) s savepoint old code new

abbrev pub ListedIdBy : Option Held → SessionNo → Count → (old code new : ℕ) → Type 0
ListedIdBy None s n old code new = Tells None status.NoEngine old code new
ListedIdBy (Some held) s n old code new = ShowsId (core_of held) s (IsListedId (core_of held) s n) old code new

abbrev pub ListedIdOf : Sandpiper → SessionNo → Count → (old code new : ℕ) → Type 0
ListedIdOf table s n old code new = ListedIdBy (held_by table) s n old code new

abbrev pub ShowsHorizonBy : Option Held → SandpiperHorizon → (code : ℕ) → SandpiperHorizon → Type 0
ShowsHorizonBy None old code new = Tells None status.NoEngine old code new
ShowsHorizonBy (Some held) old code new = (code ≡ number_of_status status.Found) × IsHorizonShown (core_of held) new

-- the horizon, and who holds it back
abbrev pub ShowsHorizonOf : Sandpiper → SandpiperHorizon → (code : ℕ) → SandpiperHorizon → Type 0
ShowsHorizonOf table old code new = ShowsHorizonBy (held_by table) old code new

-- what pruning would do to the slot, or the page is not in use
pub record ShowsFate (st : State) (page : PageNo) (slot : SlotNo) (old : SandpiperFate) (code : ℕ) (new : SandpiperFate) : Type 0 where
  pub answer : Option SandpiperFate
  pub is_answer : MatchOption answer (slice_get st.heap.pages.pages page ≡ None) (IsFateShown st page slot)
  pub told : Tells answer (status.Refused refusal.NoSuchPage) old code new

abbrev pub FateBy : Option Held → PageNo → SlotNo → SandpiperFate → (code : ℕ) → SandpiperFate → Type 0
FateBy None page slot old code new = Tells None status.NoEngine old code new
FateBy (Some held) page slot old code new = ShowsFate (core_of held) page slot old code new

abbrev pub FateOf : Sandpiper → PageNo → SlotNo → SandpiperFate → (code : ℕ) → SandpiperFate → Type 0
FateOf table page slot old code new = FateBy (held_by table) page slot old code new

-- the vacuum that is running, or there is none
abbrev pub VacuumBy : Option Held → SandpiperVacuum → (code : ℕ) → SandpiperVacuum → Type 0
VacuumBy None old code new = Tells None status.NoEngine old code new
VacuumBy (Some held) old code new = Tells (option_map shown_vacuum held.engine.engine.vacuum) (status.Refused refusal.NoVacuum) old code new

abbrev pub VacuumOf : Sandpiper → SandpiperVacuum → (code : ℕ) → SandpiperVacuum → Type 0
VacuumOf table old code new = VacuumBy (held_by table) old code new

abbrev pub IdBy : Option Held → Id → SandpiperId → (code : ℕ) → SandpiperId → Type 0
IdBy None x old code new = Tells None status.NoEngine old code new
IdBy (Some held) x old code new = (code ≡ number_of_status status.Found) × IsIdShown (core_of held) x new

-- what became of the id, and whose it is
abbrev pub IdOf : Sandpiper → Id → SandpiperId → (code : ℕ) → SandpiperId → Type 0
IdOf table x old code new = IdBy (held_by table) x old code new

-- C's places have what the plan does, where they are enough, and are else as they were; its change number and how much it names are told
abbrev pub TellsPlan : PrunePlan → List SandpiperAction → (code : ℕ) → List SandpiperAction → (count change : ℕ) → Type 0
TellsPlan plan places code after count change = (count ≡ length plan.actions.items) × (change ≡ plan.change) × (
    ((length places < count) × (code ≡ number_of_status status.NoPlace) × (after ≡ places))
    ⊎ ((count ≤ length places) × (code ≡ number_of_status status.Found) × (after ≡ with_actions plan.actions.items places)))

-- no plan is told
abbrev pub TellsNoPlan : (otherwise : CallStatus) → List SandpiperAction → (code : ℕ) → List SandpiperAction → (count change : ℕ) → Type 0
TellsNoPlan otherwise places code after count change = (code ≡ number_of_status otherwise) × (after ≡ places) × (count ≡ 0) × (change ≡ 0)

-- the plan, if there is one; a page that is not in use has none
abbrev pub TellsPlanIfFound : Option PrunePlan → List SandpiperAction → (code : ℕ) → List SandpiperAction → (count change : ℕ) → Type 0
TellsPlanIfFound None places code after count change = TellsNoPlan (status.Refused refusal.NoSuchPage) places code after count change
TellsPlanIfFound (Some plan) places code after count change = TellsPlan plan places code after count change

-- the plan that a pruning of the page would follow now
pub record ShowsPlan (st : State) (page : PageNo) (places : List SandpiperAction) (code : ℕ) (after : List SandpiperAction) (count change : ℕ) : Type 0 where
  pub answer : Option PrunePlan
  pub is_answer : MatchOption answer (slice_get st.heap.pages.pages page ≡ None) (IsPlanNow st page)
  pub told : TellsPlanIfFound answer places code after count change

abbrev pub PlanBy : Option Held → PageNo → List SandpiperAction → (code : ℕ) → List SandpiperAction → (count change : ℕ) → Type 0
PlanBy None page places code after count change = TellsNoPlan status.NoEngine places code after count change
PlanBy (Some held) page places code after count change = ShowsPlan (core_of held) page places code after count change

abbrev pub PlanOf : Sandpiper → PageNo → List SandpiperAction → (code : ℕ) → List SandpiperAction → (count change : ℕ) → Type 0
PlanOf table page places code after count change = PlanBy (held_by table) page places code after count change
