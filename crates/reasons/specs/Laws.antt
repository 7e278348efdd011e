-- The laws of reasons: there is exactly one, and it decides.
use Rattle.std.specs.Prelude.{◌≡◌, ◌↔◌, ℕ, true, List}
use Rattle.tuple_header.specs.declared.version.Header.{Header}
use Rattle.commit_status.specs.Window.{Window}
use Rattle.snapshot.specs.Snap.{Snap}
use Rattle.visibility.specs.Visible.{ReadsIn, IsVisible}
use Rattle.reasons.specs.declared.reason.Reason.{Reason}
use Rattle.reasons.specs.declared.reason.Verdict.{Verdict}
use Rattle.reasons.specs.Reasons.{IsReasonIn, IsVerdictIn, counts, verdict_shows}

-- an id has a reason for each reader, and a version a verdict
abbrev pub EachHasAReason : Type 0
EachHasAReason = (w : Window) (s : Snap) (own : List ℕ) → ((x : ℕ) → (reason : Reason) × IsReasonIn w s own x reason)
    × ((h : Header) → (verdict : Verdict) × IsVerdictIn w s own h verdict)

-- and no two
abbrev pub ReasonIsOne : Type 0
ReasonIsOne = (w : Window) (s : Snap) (own : List ℕ) (x : ℕ) (a b : Reason) → IsReasonIn w s own x a → IsReasonIn w s own x b → a ≡ b

abbrev pub VerdictIsOne : Type 0
VerdictIsOne = (w : Window) (s : Snap) (own : List ℕ) (h : Header) (a b : Verdict) → IsVerdictIn w s own h a → IsVerdictIn w s own h b → a ≡ b

-- the reader counts what an id did exactly where its reason counts
abbrev pub ReasonsDecide : Type 0
ReasonsDecide = (w : Window) (s : Snap) (own : List ℕ) (x : ℕ) (reason : Reason) → IsReasonIn w s own x reason → ReadsIn w s own x ↔ (counts reason ≡ true)

-- and sees a version exactly where its verdict verdict_shows it
abbrev pub VerdictsDecide : Type 0
VerdictsDecide = (w : Window) (s : Snap) (own : List ℕ) (h : Header) (verdict : Verdict) → IsVerdictIn w s own h verdict → IsVisible w s own h ↔ (verdict_shows verdict ≡ true)
