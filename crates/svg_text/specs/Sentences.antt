-- The reasons of a verdict as sentences.
use Rattle.std.specs.Prelude.{ℕ, Bool, if◌then◌else◌, List, ◌++◌, codes, Option, Some, None}
use Rattle.std.specs.Fmt.{decimal}
use Rattle.reasons.specs.declared.sighting.XidStanding.{XidStanding}
use Rattle.reasons.specs.declared.sighting.XidStanding.TheVariants.{Before, NotBefore, Listed, Unlisted}
use Rattle.reasons.specs.declared.sighting.Sighting.{Sighting}
use Rattle.reasons.specs.declared.sighting.Sighting.TheVariants.{ByItself, ByParent}
use Rattle.reasons.specs.declared.reason.Reason.{Reason}
use Rattle.reasons.specs.declared.reason.Reason.TheVariants.{Own, Forgotten, Running, Aborted, Committed}
use Rattle.reasons.specs.declared.reason.Touch.{Touch}
use Rattle.reasons.specs.declared.reason.Verdict.{Verdict}

-- words, and a number right behind them
unfoldable pub numbered : List ℕ → ℕ → List ℕ
numbered words n = words ++ decimal n

abbrev pub before_sentence : ℕ → List ℕ
before_sentence x = numbered (codes "before ") x ++ codes ", and all before that had ended when the snapshot was taken"

abbrev pub not_before_sentence : ℕ → List ℕ
not_before_sentence x = numbered (codes "not before ") x ++ codes ", the next id when the snapshot was taken"

abbrev pub standing_sentence : XidStanding → List ℕ
standing_sentence (Before limit) = before_sentence limit.0
standing_sentence (NotBefore limit) = not_before_sentence limit.0
standing_sentence Listed = codes "listed as in progress when the snapshot was taken"
standing_sentence Unlisted = codes "not listed as in progress when the snapshot was taken"

abbrev pub parent_sentence : (top : ℕ) → XidStanding → List ℕ
parent_sentence top standing = numbered (codes ": its topmost parent ") top ++ (codes " is " ++ standing_sentence standing)

abbrev pub sighting_sentence : Sighting → List ℕ
sighting_sentence (ByItself standing) = codes ": it is " ++ standing_sentence standing
sighting_sentence (ByParent top standing) = parent_sentence top.0 standing

-- why what an id did counts, or does not
abbrev pub reason_sentence : Reason → List ℕ
reason_sentence Own = codes ", an id of its own"
reason_sentence Forgotten = codes ", which is not remembered"
reason_sentence Running = codes ", which is in progress"
reason_sentence Aborted = codes ", which was rolled back"
reason_sentence (Committed sight) = codes ", which has committed" ++ sighting_sentence sight

abbrev pub touch_sentence : Touch → List ℕ
touch_sentence touch = numbered (codes "by ") touch.id.0 ++ reason_sentence touch.reason

abbrev pub maker_sentence : Option Touch → List ℕ
maker_sentence None = codes " It is frozen."
maker_sentence (Some touch) = codes " Made " ++ (touch_sentence touch ++ codes ".")

abbrev pub deleter_sentence : Option Touch → List ℕ
deleter_sentence None = codes " Nobody deleted it."
deleter_sentence (Some touch) = codes " Deleted " ++ (touch_sentence touch ++ codes ".")

abbrev pub sees_sentence : Bool → List ℕ
sees_sentence seen = if seen then codes " sees it." else codes " does not see it."

-- whether a session sees a version, and why
abbrev pub verdict_sentence : (session : ℕ) → (seen : Bool) → Verdict → List ℕ
verdict_sentence session seen verdict = numbered (codes "Session ") session ++ (sees_sentence seen ++ (maker_sentence verdict.maker ++ deleter_sentence verdict.deleter))
