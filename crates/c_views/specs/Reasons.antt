-- Why a session sees a version, or does not, as C reads it.
use Rattle.std.specs.Prelude.{◌≡◌, ℕ, Option, Some, None}
use Rattle.std.specs.Option.{option_map}
use Rattle.xid_circle.specs.Numbers.{Id, SessionNo, Count}
use Rattle.xid_circle.specs.declared.Tid.{Tid}
use Rattle.reasons.specs.declared.sighting.XidStanding.{XidStanding}
use Rattle.reasons.specs.declared.sighting.XidStanding.TheVariants.{Before, NotBefore, Listed, Unlisted}
use Rattle.reasons.specs.declared.sighting.Sighting.{Sighting}
use Rattle.reasons.specs.declared.sighting.Sighting.TheVariants.{ByItself, ByParent}
use Rattle.reasons.specs.declared.reason.Reason.{Reason}
use Rattle.reasons.specs.declared.reason.Reason.TheVariants.{Own, Forgotten, Running, Aborted, Committed}
use Rattle.reasons.specs.declared.reason.Touch.{Touch}
use Rattle.reasons.specs.Reasons.{verdict_shows}
use Rattle.explanations.specs.declared.versions.ShownVersion.{ShownVersion}
use Rattle.sessions.specs.declared.session.Session.{Session}
use Rattle.session_steps.specs.State.{State, session_at}
use Rattle.session_looks.specs.Explaining.{IsExplained}
use Rattle.c_views.specs.declared.reason.SandpiperReason.{SandpiperReason}
use Rattle.c_views.specs.declared.reason.SandpiperShown.{SandpiperShown}

-- the number of an id's own standing to the snapshot
abbrev pub number_of_standing : XidStanding → ℕ
number_of_standing (Before limit) = 5
number_of_standing (NotBefore limit) = 6
number_of_standing Listed = 7
number_of_standing Unlisted = 8

-- and of its topmost parent's
abbrev pub number_of_parent : XidStanding → ℕ
number_of_parent (Before limit) = 9
number_of_parent (NotBefore limit) = 10
number_of_parent Listed = 11
number_of_parent Unlisted = 12

-- the snapshot's xmin or xmax, if the standing is told beside one
abbrev pub limit_of : XidStanding → ℕ
limit_of (Before limit) = limit.0
limit_of (NotBefore limit) = limit.0
limit_of Listed = 0
limit_of Unlisted = 0

abbrev pub shown_sighting : Id → Sighting → SandpiperReason
shown_sighting x (ByItself standing) = record { id = x; reason = number_of_standing standing; limit = limit_of standing; parent = 0 }
shown_sighting x (ByParent top standing) = record { id = x; reason = number_of_parent standing; limit = limit_of standing; parent = top.0 }

abbrev pub shown_reason : Id → Reason → SandpiperReason
shown_reason x Own = record { id = x; reason = 1; limit = 0; parent = 0 }
shown_reason x Forgotten = record { id = x; reason = 2; limit = 0; parent = 0 }
shown_reason x Running = record { id = x; reason = 3; limit = 0; parent = 0 }
shown_reason x Aborted = record { id = x; reason = 4; limit = 0; parent = 0 }
shown_reason x (Committed sighting) = shown_sighting x sighting

-- who made a version or took it away; zeros where nobody did
abbrev pub shown_touch : Option Touch → SandpiperReason
shown_touch None = record { id = 0; reason = 0; limit = 0; parent = 0 }
shown_touch (Some touch) = shown_reason touch.id.0 touch.reason

abbrev pub shown_in : ShownVersion → SandpiperShown
shown_in v = record { slot = v.slot; is_seen = verdict_shows v.verdict; maker = shown_touch v.verdict.maker; deleter = shown_touch v.verdict.deleter }

-- what the engine's look shows an open session at this place of the chain to which an entry leads
pub record IsShownTo (st : State) (s : SessionNo) (place : Tid) (n : Count) (answer : Option SandpiperShown) : Type 0 where
  pub session : Session
  pub there : session_at st s ≡ Some session
  pub version : Option ShownVersion
  pub explained : IsExplained st session place n version
  pub shown : answer ≡ option_map shown_in version
