use Rattle.std.proofs.Common.{◌≡◌, ◌-◌, drop}
use Rattle.sessions.specs.Session.{open_bits}
use Rattle.sessions.proofs.sessions.Sessions.open_bits.Given as goal

-- the bits of the last sessions, as many as were passed
abbrev pub invariant-loop-passed : goal.invariant-loop-passed
invariant-loop-passed l = l.bits ≡ open_bits (drop (64 - l.passed) l.self)
