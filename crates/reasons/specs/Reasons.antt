-- Why a reader counts what an id did, or does not, and so why it sees a version. Each case says what holds, and that none before
-- it does; so exactly one does (`ReasonIsOne`).
use Rattle.std.specs.Prelude.{◌≡◌, ℕ, Bool, true, false, not, ◌&&◌, List, Option, Some, None, Contains}
use Rattle.tuple_header.specs.declared.version.Header.{Header}
use Rattle.commit_status.specs.Window.{Window}
use Rattle.snapshot.specs.Snap.{Snap}
use Rattle.visibility.specs.Seeing.{HasCommitted, HasAborted, IsRunning, inserter, deleter}
use Rattle.visibility.specs.Visible.{state_of}
use Rattle.visibility.specs.declared.reader.Reader.{Reader}
use Rattle.reasons.specs.Sightings.{IsSighting, sighting_counts}
use Rattle.reasons.specs.declared.reason.Reason.{Reason}
use Rattle.reasons.specs.declared.reason.Reason.TheVariants.{Own, Forgotten, Running, Aborted, Committed}
use Rattle.reasons.specs.declared.reason.Touch.{Touch}
use Rattle.reasons.specs.declared.reason.Verdict.{Verdict}

-- of any other id what became of it counts, and of a committed one the sighting
abbrev pub IsReasonOf : Window → Snap → ℕ → Reason → Type 0
IsReasonOf w s x Own = ⊥
IsReasonOf w s x Forgotten = state_of w x ≡ None
IsReasonOf w s x Running = IsRunning (state_of w) x
IsReasonOf w s x Aborted = HasAborted (state_of w) x
IsReasonOf w s x (Committed sight) = HasCommitted (state_of w) x × IsSighting s w x sight

abbrev pub IsReasonIn : Window → Snap → List ℕ → ℕ → Reason → Type 0
IsReasonIn w s own x Own = Contains own x
IsReasonIn w s own x reason = (¬ Contains own x) × IsReasonOf w s x reason

-- the reader counts what the id did
abbrev pub counts : Reason → Bool
counts Own = true
counts Forgotten = false
counts Running = false
counts Aborted = false
counts (Committed sight) = sighting_counts sight

-- of the id that made or deleted a version, if one did, the id and its reason
abbrev pub IsTouchIn : Window → Snap → List ℕ → Option ℕ → Option Touch → Type 0
IsTouchIn w s own None None = Unit {0}
IsTouchIn w s own (Some x) (Some touch) = (touch.id.0 ≡ x) × IsReasonIn w s own x touch.reason
IsTouchIn w s own x touch = ⊥

-- the maker's, unless the version is frozen, and the deleter's, if there is one
pub record IsVerdictIn (w : Window) (s : Snap) (own : List ℕ) (h : Header) (verdict : Verdict) : Type 0 where
  pub maker : IsTouchIn w s own (inserter h) verdict.maker
  pub deleter : IsTouchIn w s own (deleter h) verdict.deleter

-- what was done counts, if somebody did it; else this
abbrev pub counts_or : Bool → Option Touch → Bool
counts_or otherwise None = otherwise
counts_or otherwise (Some touch) = counts touch.reason

-- the version shows: its making counts, and no deletion does
abbrev pub verdict_shows : Verdict → Bool
verdict_shows verdict = counts_or true verdict.maker && not (counts_or false verdict.deleter)

abbrev pub IsReasonFor : Reader → ℕ → Reason → Type 0
IsReasonFor r x reason = IsReasonIn r.statuses.now r.snapshot.now r.own.now.ids x reason

abbrev pub IsMakerFor : Reader → Header → Option Touch → Type 0
IsMakerFor r h touch = IsTouchIn r.statuses.now r.snapshot.now r.own.now.ids (inserter h) touch

abbrev pub IsDeleterFor : Reader → Header → Option Touch → Type 0
IsDeleterFor r h touch = IsTouchIn r.statuses.now r.snapshot.now r.own.now.ids (deleter h) touch

abbrev pub IsVerdictFor : Reader → Header → Verdict → Type 0
IsVerdictFor r h verdict = IsVerdictIn r.statuses.now r.snapshot.now r.own.now.ids h verdict
