use Rattle.std.proofs.Common.{sym, ap, ◌∙◌}
use Rattle.std.specs.Option.{option_copied}
use Rattle.heap_write.proofs.HintLemmas.{hints-noted}
use Rattle.heap_write.proofs.heap.HeapState.note_first_death.Goals as goal

pub invariant_of-self : goal.invariant_of-self
invariant_of-self c = (
  c.self.invariant.0,
  hints-noted c.self.inside.statuses c.self.inside.pages.pages c.self.inside.hints.pages c.note.new.self.pages c.args.number c.in-Some-first_death.turn c.in-Some.page.now
      (sym c.page.ensures ∙ ap option_copied c.in-Some.is) c.in-Some-first_death.ensures.1 c.note.ensures.pages c.self.invariant.1,
)
