use Rattle.std.proofs.Common.{sym, arith}
use Rattle.entry_columns.proofs.GapLemmas.{to_greatest}
use Rattle.entry_columns.proofs.columns.greatest_number.Goals as goal

pub returns-in-Some : goal.returns-in-Some
returns-in-Some c = λ p small there.
    let greatest = to_greatest c.args.dead.now c.in-Some.last.now p c.requires (sym c.in-Some.ensures.value) there in
    omega (arith, small, greatest, c.number_of.ensures.value)
