-- What is written for a look, the last line feed left out.
use Rattle.std.specs.Prelude.{ℕ, Bool, true, false, if◌then◌else◌, List, [], ◌∷◌, ◌++◌, codes, length, Option, Some, None}
use Rattle.std.specs.List.{flat_map}
use Rattle.std.specs.Fmt.{decimal}
use Rattle.xid_circle.specs.Numbers.{Id, Key, PageNo, SessionNo, SlotNo}
use Rattle.xid_circle.specs.declared.Xid.{Xid}
use Rattle.commit_status.specs.declared.status.Status.{Status}
use Rattle.commit_status.specs.declared.status.Status.TheVariants as status
use Rattle.snapshot.specs.Snap.{Snap}
use Rattle.reasons.specs.declared.sighting.XidStanding.{XidStanding}
use Rattle.reasons.specs.declared.sighting.XidStanding.TheVariants as standing
use Rattle.reasons.specs.declared.sighting.Sighting.{Sighting}
use Rattle.reasons.specs.declared.sighting.Sighting.TheVariants as sighting
use Rattle.reasons.specs.declared.reason.Reason.{Reason}
use Rattle.reasons.specs.declared.reason.Reason.TheVariants as reason
use Rattle.reasons.specs.declared.reason.Touch.{Touch}
use Rattle.reasons.specs.Sightings.{sighting_counts}
use Rattle.reasons.specs.Reasons.{verdict_shows}
use Rattle.slot_fates.specs.declared.fate.SlotFate.{SlotFate}
use Rattle.slot_fates.specs.declared.fate.SlotFate.TheVariants as slot
use Rattle.slot_fates.specs.declared.fate.DeletedBy.{DeletedBy}
use Rattle.slot_fates.specs.declared.fate.VersionFate.{VersionFate}
use Rattle.slot_fates.specs.declared.fate.VersionFate.TheVariants as fate
use Rattle.prune.specs.declared.action.PrunePlan.{PrunePlan}
use Rattle.table_scans.specs.declared.progress.CursorScan.{CursorScan}
use Rattle.table_scans.specs.declared.progress.CursorScan.TheVariants as cursor
use Rattle.table_scans.specs.declared.progress.Scan.TheVariants as scan
use Rattle.vacuum_passes.specs.View.{VacuumView}
use Rattle.vacuum_passes.specs.declared.vacuum.Phase.{Phase}
use Rattle.vacuum_passes.specs.declared.vacuum.Phase.TheVariants as phase
use Rattle.sessions.specs.declared.session.Session.{Session}
use Rattle.sessions.specs.declared.session.SessionIsolation.{SessionIsolation}
use Rattle.sessions.specs.declared.session.SessionIsolation.TheVariants as isolation
use Rattle.sessions.specs.Session.{kept_by}
use Rattle.session_looks.specs.declared.holder.Hold.{Hold}
use Rattle.session_looks.specs.declared.holder.Hold.TheVariants as hold
use Rattle.session_looks.specs.declared.holder.HorizonHolder.{HorizonHolder}
use Rattle.script_text.specs.Grammar.{spaced, actions_text, mode_text}
use Rattle.script_text.specs.Answers.{labelled}
use Rattle.view_text.specs.declared.versions.VersionLook.{VersionLook}
use Rattle.view_text.specs.declared.versions.EntryLook.{EntryLook}
use Rattle.view_text.specs.declared.cleaning.FateLook.{FateLook}

-- Why a session sees a version.

abbrev pub standing_text : XidStanding → List ℕ
standing_text (standing.Before x) = labelled (codes "before") x.0
standing_text (standing.NotBefore x) = labelled (codes "not before") x.0
standing_text standing.Listed = codes "listed"
standing_text standing.Unlisted = codes "unlisted"

abbrev pub sighting_text : Sighting → List ℕ
sighting_text (sighting.ByItself standing) = standing_text standing
sighting_text (sighting.ByParent top standing) = labelled (codes "parent") top.0 ++ spaced (standing_text standing)

abbrev pub seen_text : Bool → List ℕ
seen_text true = codes "seen"
seen_text false = codes "unseen"

-- in progress, and the session that has the id
abbrev pub running_text : Option SessionNo → List ℕ
running_text None = codes "running"
running_text (Some s) = labelled (codes "running") s

abbrev pub reason_text : (owner : Option SessionNo) → Reason → List ℕ
reason_text owner reason.Own = codes "own"
reason_text owner reason.Forgotten = codes "forgotten"
reason_text owner reason.Running = running_text owner
reason_text owner reason.Aborted = codes "aborted"
reason_text owner (reason.Committed sight) = seen_text (sighting_counts sight) ++ spaced (sighting_text sight)

-- the id that made or deleted a version and its reason, or a word where there is none
abbrev pub touch_text : (none : List ℕ) → (owner : Option SessionNo) → Option Touch → List ℕ
touch_text none owner None = none
touch_text none owner (Some touch) = decimal touch.id.0 ++ spaced (reason_text owner touch.reason)

abbrev pub verdict_text : Bool → List ℕ
verdict_text true = codes "seen"
verdict_text false = codes "hidden"

-- a version's line
abbrev pub version_text : PageNo → VersionLook → List ℕ
version_text p v = labelled (codes "version") p ++ (spaced (decimal v.shown.slot) ++ (spaced (verdict_text (verdict_shows v.shown.verdict))
    ++ (codes " maker " ++ (touch_text (codes "frozen") v.maker_session v.shown.verdict.maker
    ++ (codes " deleter " ++ touch_text (codes "none") v.deleter_session v.shown.verdict.deleter)))))

abbrev pub version_lines : PageNo → List VersionLook → List ℕ
version_lines p versions = flat_map (λ (v : VersionLook). 10 ∷ version_text p v) versions

-- what an entry leads to
abbrev pub leads_text : Option SlotFate → List ℕ
leads_text None = codes "nowhere"
leads_text (Some slot.NoSlot) = codes "nowhere"
leads_text (Some slot.Unused) = codes "unused"
leads_text (Some slot.Dead) = codes "dead"
leads_text (Some (slot.Redirect target)) = labelled (codes "redirect") target
leads_text (Some (slot.Version f)) = codes "root"

-- an entry's line, and those of the versions of the chain to which it leads
abbrev pub explained_text : EntryLook → List ℕ
explained_text e = labelled (codes "entry") e.place.page ++ (spaced (decimal e.place.slot) ++ (spaced (leads_text e.leads) ++ version_lines e.place.page e.versions.items))

abbrev pub explained_lines : List EntryLook → List ℕ
explained_lines entries = flat_map (λ (e : EntryLook). 10 ∷ explained_text e) entries

abbrev pub explanation_text : SessionNo → Key → List EntryLook → List ℕ
explanation_text s key entries = labelled (codes "explain") s ++ (spaced (decimal key) ++ (labelled (codes " entries") (length entries) ++ explained_lines entries))

-- What a session holds.

abbrev pub numbers_text : List ℕ → List ℕ
numbers_text numbers = flat_map (λ n. spaced (decimal n)) numbers

abbrev pub kind_text : SessionIsolation → List ℕ
kind_text (isolation.BySnapshot snap) = codes " snapshot"
kind_text (isolation.ByStatement kept) = codes " statement"

abbrev pub state_text : Bool → List ℕ
state_text true = codes " failed"
state_text false = codes " ready"

abbrev pub overflowed_text : Bool → List ℕ
overflowed_text true = codes " overflowed"
overflowed_text false = []

-- the snapshot that it keeps, with the ids that are listed in this order
abbrev pub snapshot_text : Option Snap → (listed : List ℕ) → List ℕ
snapshot_text None listed = codes "snapshot none"
snapshot_text (Some snap) listed = labelled (codes "snapshot") snap.xmin ++ (spaced (decimal snap.xmax) ++ (overflowed_text snap.overflowed
    ++ (labelled (codes " listed") (length listed) ++ numbers_text listed)))

abbrev pub cursor_text : Option CursorScan → List ℕ
cursor_text None = codes "cursor none"
cursor_text (Some (cursor.Rows (scan.Index span))) = codes "cursor index"
cursor_text (Some (cursor.Rows (scan.Heap from))) = codes "cursor heap"
cursor_text (Some (cursor.Keys range)) = codes "cursor keys"

abbrev pub waits_text : Option SessionNo → List ℕ
waits_text None = codes "waits none"
waits_text (Some other) = labelled (codes "waits") other

-- a session's own line
abbrev pub session_head : SessionNo → Session → List ℕ
session_head s e = labelled (codes "session") s ++ (kind_text e.isolation ++ (state_text e.failed ++ labelled (codes " savepoints") (length e.own.saved)))

-- its ids in the order of giving, its cursor, and for whom it waits, each on a line
abbrev pub session_rest : Session → (waits : Option SessionNo) → List ℕ
session_rest e waits = 10 ∷ (codes "ids" ++ (numbers_text e.own.ids ++ (10 ∷ (cursor_text e.cursor ++ (10 ∷ waits_text waits)))))

-- five lines: its own, that of its snapshot, and these
abbrev pub session_text : SessionNo → Session → (listed : List ℕ) → (waits : Option SessionNo) → List ℕ
session_text s e listed waits = session_head s e ++ (10 ∷ (snapshot_text (kept_by e.isolation) listed ++ session_rest e waits))

-- What holds cleaning back.

-- the session that holds the horizon back, by its snapshot or by its first id; or else the horizon is the next id
abbrev pub hold_text : Hold → List ℕ
hold_text hold.BySnapshot = codes "snapshot"
hold_text hold.ById = codes "id"

abbrev pub holder_text : Option HorizonHolder → List ℕ
holder_text None = codes "next"
holder_text (Some holder) = labelled (hold_text holder.by) holder.session

-- the horizon and its holder
abbrev pub horizon_text : Id → Option HorizonHolder → List ℕ
horizon_text x holder = labelled (codes "horizon") x ++ spaced (holder_text holder)

-- why what was deleted is kept: by what became of its deleter
abbrev pub kept_text : FateLook → Status → List ℕ
kept_text look status.Aborted = codes "aborted"
kept_text look status.InProgress = running_text look.owner
kept_text look status.Committed = horizon_text look.horizon.0 look.holder

abbrev pub deleter_text : FateLook → DeletedBy → List ℕ
deleter_text look deleter = labelled (codes "kept deleter") deleter.id.0 ++ spaced (kept_text look deleter.status)

abbrev pub version_fate_text : FateLook → VersionFate → List ℕ
version_fate_text look (fate.RolledBack x) = labelled (codes "dead aborted") x.0
version_fate_text look (fate.Deleted x) = labelled (codes "dead deleted") x.0 ++ labelled (codes " before") look.horizon.0
version_fate_text look (fate.GoesWith later) = labelled (codes "goes with") later
version_fate_text look (fate.Kept None) = codes "kept undeleted"
version_fate_text look (fate.Kept (Some deleter)) = deleter_text look deleter

abbrev pub slot_fate_text : FateLook → SlotFate → List ℕ
slot_fate_text look slot.NoSlot = codes "none"
slot_fate_text look slot.Unused = codes "unused"
slot_fate_text look slot.Dead = codes "dead"
slot_fate_text look (slot.Redirect target) = labelled (codes "redirect") target
slot_fate_text look (slot.Version f) = version_fate_text look f

abbrev pub fate_text : PageNo → SlotNo → FateLook → List ℕ
fate_text p n look = labelled (codes "fate") p ++ (spaced (decimal n) ++ spaced (slot_fate_text look look.fate))

-- a plan, as the line `apply` takes it
abbrev pub plan_text : PageNo → PrunePlan → List ℕ
plan_text p plan = labelled (codes "plan") p ++ (spaced (decimal plan.change) ++ actions_text plan.actions.items)

-- the work of a vacuum's next step
abbrev pub phase_text : Phase → List ℕ
phase_text phase.Heap = codes " heap"
phase_text (phase.Index i from) = codes " index"
phase_text phase.Free = codes " free"

abbrev pub vacuum_text : Option VacuumView → List ℕ
vacuum_text None = codes "vacuum none"
vacuum_text (Some v) = codes "vacuum" ++ (spaced (mode_text v.mode) ++ (phase_text v.phase ++ (labelled (codes " next") v.next
    ++ (labelled (codes " collected") (length v.store) ++ (labelled (codes " horizon") v.horizon ++ labelled (codes " cutoff") v.cutoff)))))
