use Rattle.std.proofs.Common.{◌<◌, ◌+◌, ◌%◌, ◌^◌, arith, subst}
use Rattle.std.specs.List.{All}
use Rattle.std.proofs.lemmas.List.{take_all}
use Rattle.std.proofs.lemmas.List.Elements.{All-more}
use Rattle.entry_columns.specs.declared.short_tid.ShortTid.{ShortTid}
use Rattle.entry_columns.proofs.GapLemmas.{AreAhead, ahead_more}
use Rattle.entry_columns.proofs.columns.least_ahead.Goals as goal

pub loop-place-preserved : goal.loop-place-preserved
loop-place-preserved c =
    let none : ShortTid = record { number = 0 } in
    let so_far = (c.loop-place.ahead + 2147483648) % 4294967296 in
    let now = (c.signed_min-ahead.result + 2147483648) % 4294967296 in
    record {
      numbers = All-more (λ (p : ShortTid). p.number < 2 ^ 32) c.args.places.now c.loop-place.place none c.loop-place-test.true c.loop-place.invariant.numbers
          (omega (arith, c.number-number.ensures, c.number-number.type_inv));
      ahead = ahead_more c.args.from so_far now c.args.places.now c.loop-place.place none c.loop-place-test.true c.loop-place.invariant.ahead c.signed_min-ahead.ensures.least
          (λ from. omega (arith, from, c.signed_min-ahead.ensures.least_too, c.number-number.ensures, c.number-number.type_inv, c.ranges.from.fits));
    }

pub returns-clause-numbers : goal.returns-clause-numbers
returns-clause-numbers c = subst (All (λ (p : ShortTid). p.number < 2 ^ 32)) (take_all c.loop-place.place c.args.places.now (omega (arith, c.loop-place-test.false))) c.loop-place.invariant.numbers

pub returns-clause-ahead : goal.returns-clause-ahead
returns-clause-ahead c =
    let ahead = (c.loop-place.ahead + 2147483648) % 4294967296 in
    subst (AreAhead c.args.from ahead) (take_all c.loop-place.place c.args.places.now (omega (arith, c.loop-place-test.false))) c.loop-place.invariant.ahead
