use Rattle.std.proofs.Common.{◌≡◌, replicate, None, ap, ◌∙◌, arith}
use Rattle.sessions.proofs.Idle.{idle-new}
use Rattle.sessions.proofs.sessions.Sessions.new.Goals as goal

pub invariant_of-result : goal.invariant_of-result
invariant_of-result c = record { within = omega arith; idle = idle-new c.loop.counter c.loop.places.items c.loop.invariant }

pub returns : goal.returns
returns c = let all : c.loop.counter ≡ 64 = omega arith in c.loop.invariant ∙ ap (λ n. replicate n None) all
