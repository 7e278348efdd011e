-- Which places open sessions have.
use Rattle.std.proofs.Common.{◌≡◌, ◌≢◌, ◌<◌, ℕ, zero, suc, List, length, replicate, Option, None, refl, ap, inl, inr}
use Rattle.std.specs.Option.{option_flatten}
use Rattle.std.proofs.lemmas.Bool.{cases_lt}
use Rattle.std.proofs.lemmas.Option.{slice_get_past}
use Rattle.sessions.specs.declared.session.Session.{Session}
use Rattle.sessions.specs.Places.{open_at}

-- nobody has a session after all are made idle
pub none-open : (n s : ℕ) → open_at (replicate n None) s ≡ None
none-open zero s = refl
none-open (suc n) zero = refl
none-open (suc n) (suc s) = none-open n s

-- an open session has one of the places
pub place-within : (xs : List (Option Session)) (s : ℕ) → open_at xs s ≢ None → s < length xs
place-within xs s some = elim (cases_lt s (length xs)) [ inl lt ↦ lt | inr past ↦ absurd (some (ap option_flatten (slice_get_past xs s past))) ]
