use Rattle.std.proofs.Common.{◌∙◌, refl, ap, sym}
use Rattle.vacuum_passes.specs.View.{VacuumView}
use Rattle.vacuum_passes.specs.Steps.{phase_left}
use Rattle.vacuum_passes.proofs.Stepping.{some-held, free-some, freed-off-kept, free-says}
use Rattle.vacuum_passes.proofs.vacuum.Vacuum.free.Goals as goal

pub free_from-page-requires : goal.free_from-page-requires
free_from-page-requires c = record {
  some = some-held c.self.inside.freed c.self.inside.store c.self.invariant.2
      (free-some _ c.self.invariant.0 (ap (λ (v : VacuumView). v.phase) c.self.view_is ∙ c.requires.phase));
}

pub invariant_of-self : goal.invariant_of-self
invariant_of-self c = (
  freed-off-kept _ c.free_from-page.result.0 _ c.after_freeing-freed.result.1 (c.after_freeing-freed.ensures.shown ∙ c.free_from-page.ensures.left)
      (c.after_freeing-freed.ensures.phase ∙ ap phase_left (sym c.after_freeing-freed.ensures.shown)) c.self.invariant.0,
  c.self.invariant.1,
  c.after_freeing-freed.ensures.within,
  c.after_freeing-freed.ensures.last,
)

pub returns : goal.returns
returns c =
    free-says c.args.heap.now c.free_from-page.new.heap _ c.args.self.now _ c.args.horizon.0 c.free_from-page.result.0 c.self.view_is _ c.after_freeing-freed.result.1
    c.free_from-page.ensures.lowest c.free_from-page.ensures.frees c.free_from-page.ensures.drops (c.after_freeing-freed.ensures.shown ∙ c.free_from-page.ensures.left)
    (c.after_freeing-freed.ensures.phase ∙ ap phase_left (sym c.after_freeing-freed.ensures.shown)) refl
