-- For the crates above: following a partial function, as a chain of versions or a chain of waits.
use Rattle.std.specs.Prelude.{◌≡◌, ℕ, zero, suc, Option, Some}

-- from a one comes to b in so many turns
abbrev pub ReachesIn : (next : ℕ → Option ℕ) → (turns a b : ℕ) → Type 0
ReachesIn next zero a b = a ≡ b
ReachesIn next (suc turns) a b = (c : ℕ) × (next a ≡ Some c) × ReachesIn next turns c b
