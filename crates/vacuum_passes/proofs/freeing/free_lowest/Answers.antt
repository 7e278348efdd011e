use Rattle.std.proofs.Common.{◌∙◌}
use Rattle.vacuum_passes.proofs.FreedPlaces.{slots-ascending}
use Rattle.vacuum_passes.proofs.freeing.free_lowest.Goals as goal

pub free_page-requires-clause-ascending : goal.free_page-requires-clause-ascending
free_page-requires-clause-ascending c =
    slots-ascending c.lowest_page-page.result c.args.places.now _ c.requires.ascending (c.split_at.ensures.front ∙ c.count_on-count.ensures.here)
