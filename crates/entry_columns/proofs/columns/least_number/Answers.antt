use Rattle.std.proofs.Common.{sym, arith}
use Rattle.entry_columns.proofs.GapLemmas.{from_least}
use Rattle.entry_columns.proofs.columns.least_number.Goals as goal

pub returns-in-Some : goal.returns-in-Some
returns-in-Some c = λ p small there.
    let least = from_least c.args.dead.now c.in-Some.first.now p c.requires (sym c.in-Some.ensures.value) c.number_of.ensures.slot there in
    omega (arith, least, c.number_of.ensures.value)
