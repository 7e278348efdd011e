use Rattle.std.proofs.Common.{arith}
use Rattle.sessions.proofs.Counting.{cannot-give, last-given}
use Rattle.session_core.proofs.counts.ids_left.Goals as goal

pub halves-init : goal.halves-init
halves-init c = record {
  can = λ i lt. absurd (omega (arith, lt));
  cannot = cannot-give c.args.statuses.now c.fact_window.ensures;
  apart = omega arith;
  bound = omega arith;
}

pub overflow_add-can : goal.overflow_add-can
overflow_add-can c = omega (arith, c.halves.invariant.apart, c.halves.invariant.bound)

pub overflow_add-middle : goal.overflow_add-middle
overflow_add-middle c = omega (arith, c.halves.invariant.apart, c.halves.invariant.bound)

pub halves-preserved-then-can_give : goal.halves-preserved-then-can_give
halves-preserved-then-can_give c = record {
  can = c.can_give.ensures.0 c.if-can_give.true;
  cannot = c.halves.invariant.cannot;
  apart = omega (arith, c.halves-test.true);
  bound = c.halves.invariant.bound;
}

pub halves-preserved : goal.halves-preserved
halves-preserved c = record {
  can = c.halves.invariant.can;
  cannot = λ gives. let yes = c.can_give.ensures.1 gives in let no = c.if-can_give.false in cc;
  apart = omega (arith, c.halves-test.true);
  bound = omega (arith, c.halves-test.true, c.halves.invariant.bound);
}

pub returns : goal.returns
returns c n = last-given c.args.statuses.now c.halves.can c.halves.cannot n c.halves.invariant.can c.halves.invariant.cannot (omega (arith, c.halves-test.false))
