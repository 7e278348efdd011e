use Rattle.std.proofs.Common.{◌≡◌, ◌+◌, ◌-◌, ℕ, Some, drop, arith, sym, ap, ◌∙◌, subst}
use Rattle.std.proofs.lemmas.List.{drop_all}
use Rattle.sessions.specs.Session.{open_bits}
use Rattle.sessions.proofs.Counting.{bits-fit, passed-open, passed-idle}
use Rattle.sessions.proofs.sessions.Sessions.open_bits.Goals as goal
use Rattle.sessions.proofs.sessions.Sessions.open_bits.Goals.{in-Some, in-None}

pub loop-passed-init : goal.loop-passed-init
loop-passed-init c =
    let count = c.requires in
    sym (ap open_bits (drop_all 64 c.args.self.now (omega arith)))

pub overflow_mul-bits : goal.overflow_mul-bits
overflow_mul-bits c =
    let lt = bits-fit c.args.self.now c.loop-passed.passed c.loop-passed.bits c.requires c.loop-passed-test.true c.loop-passed.invariant in
    omega arith

pub overflow_add-bits : goal.overflow_add-bits
overflow_add-bits c =
    let lt = bits-fit c.args.self.now c.loop-passed.passed c.loop-passed.bits c.requires c.loop-passed-test.true c.loop-passed.invariant in
    omega arith

pub overflow_mul-bits-in-None : goal.overflow_mul-bits-in-None
overflow_mul-bits-in-None c =
    let lt = bits-fit c.args.self.now c.loop-passed.passed c.loop-passed.bits c.requires c.loop-passed-test.true c.loop-passed.invariant in
    omega arith

pub loop-passed-preserved : goal.loop-passed-preserved
loop-passed-preserved c =
    let xs = c.args.self.now in
    let at = c.place.ensures in
    let P : ℕ → Type 0 = λ b. b ≡ open_bits (drop (64 - (c.loop-passed.passed + 1)) xs) in
    elim c.match-place.branch [
      | in-Some w ↦ subst P (sym w.bits-is) (passed-open xs c.loop-passed.passed c.loop-passed.bits w.in-Some.field-0 c.loop-passed-test.true c.loop-passed.invariant (at ∙ ap Some w.in-Some.is))
      | in-None w ↦ subst P (sym w.bits-is) (passed-idle xs c.loop-passed.passed c.loop-passed.bits c.loop-passed-test.true c.loop-passed.invariant (at ∙ ap Some w.in-None.is))
    ]

pub returns : goal.returns
returns c = let all : c.loop-passed.passed ≡ 64 = omega (arith, c.loop-passed-test.false, c.loop-passed.auto.passed-end) in
    c.loop-passed.invariant ∙ ap (λ n. open_bits (drop (64 - n) c.args.self.now)) all
