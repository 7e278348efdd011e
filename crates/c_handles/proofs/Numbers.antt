-- A status is read back from its number, so no two have one.
use Rattle.std.proofs.Common.{◌≡◌, ℕ, ◌+◌, ◌-◌, List, [], ◌∷◌, Bool, false, refl, sym, ap, ◌∙◌, arith}
use Rattle.std.proofs.lemmas.Bool.Decides.{nat_tests}
use Rattle.std.specs.Prelude.{◌==◌, if◌then◌else◌, nat_lt, nat_le, find, unwrap_or, true}
use Rattle.calls.specs.declared.reply.Refusal.TheVariants as refusal
use Rattle.c_handles.specs.declared.status.CallStatus.{CallStatus}
use Rattle.c_handles.specs.declared.status.CallStatus.TheVariants as status
use Rattle.c_handles.specs.CallStatus.{number_of_status, NumbersDiffer, RefusalsAreHigh}

-- all statuses but Busy, in the order of their numbers
abbrev listed : List CallStatus
listed = status.Done ∷ status.Found ∷ status.NoRow ∷ status.Committed ∷ status.RolledBack ∷ status.Rows ∷ status.End
    ∷ status.Worked ∷ status.Ended
    ∷ status.Refused refusal.NotOpen ∷ status.Refused refusal.AlreadyOpen ∷ status.Refused refusal.Failed
    ∷ status.Refused refusal.AlreadyThere ∷ status.Refused refusal.NotThere ∷ status.Refused refusal.Conflict
    ∷ status.Refused refusal.CursorOpen ∷ status.Refused refusal.NoCursor ∷ status.Refused refusal.TooDeep
    ∷ status.Refused refusal.NoSavepoint ∷ status.Refused refusal.TooLarge ∷ status.Refused refusal.NoRoom
    ∷ status.Refused refusal.NeedsFreeze ∷ status.Refused refusal.BadBounds ∷ status.Refused refusal.NoMemory
    ∷ status.Refused refusal.NoSuchPage ∷ status.Refused refusal.NoSuchIndex ∷ status.Refused refusal.NoSuchSession
    ∷ status.Refused refusal.VacuumRunning ∷ status.Refused refusal.NoVacuum ∷ status.Refused refusal.IndexTooNew
    ∷ status.Refused refusal.IndexBusy ∷ status.Refused refusal.Deadlock ∷ status.Refused refusal.Stale
    ∷ status.NoEngine ∷ status.HasEngine ∷ status.NoPlace ∷ status.NoTicket ∷ status.HasTicket ∷ status.TooManyPages ∷ status.BadMaxPages ∷ status.BadStopAge
    ∷ status.BadFreezeMinAge ∷ status.BadFirstXid ∷ status.BadDeadLimit ∷ []

-- the status that has the number
abbrev status_at : ℕ → CallStatus
status_at n = if nat_lt n 256 then unwrap_or (find (λ s. number_of_status s == n) listed) status.Done else status.Refused (refusal.Busy (n - 256))

high : (b : Bool) (x : CallStatus) (n session : ℕ) → b ≡ false → n ≡ session
    → (if b then x else status.Refused (refusal.Busy n)) ≡ status.Refused (refusal.Busy session)
high b x n session is same = rw (is, same) refl

read_back : (s : CallStatus) → status_at (number_of_status s) ≡ s
read_back (status.Refused (refusal.Busy session)) =
    let is_high : nat_lt (256 + session) 256 ≡ false = grind (arith, nat_tests) in
    let same : 256 + session - 256 ≡ session = omega arith in
    high (nat_lt (256 + session) 256) _ (256 + session - 256) session is_high same
read_back s = refl

pub numbers-differ : NumbersDiffer
numbers-differ a b same = sym (read_back a) ∙ ap status_at same ∙ read_back b

above : (session : ℕ) → nat_le 16 (256 + session) ≡ true
above session = grind (arith, nat_tests)

pub refusals-are-high : RefusalsAreHigh
refusals-are-high (status.Refused (refusal.Busy session)) = sym (above session)
refusals-are-high s = refl
