use Rattle.std.proofs.Common.{sym, refl}
use Rattle.vacuum_passes.proofs.LowestLemmas.{from_first}
use Rattle.vacuum_passes.proofs.FreedPlaces.{first-there, none-first}
use Rattle.vacuum_passes.proofs.freeing.lowest_page.Goals as goal

pub returns-in-Some : goal.returns-in-Some
returns-in-Some c = record {
  some = (c.in-Some.first.now, first-there c.args.places.now c.in-Some.first.now (sym c.in-Some.ensures.value), refl);
  lowest = from_first c.args.places.now c.in-Some.first.now c.requires.ascending (sym c.in-Some.ensures.value);
}

pub returns-in-None : goal.returns-in-None
returns-in-None c = absurd (c.requires.some (none-first c.args.places.now (sym c.in-None.ensures.value)))
