use Rattle.heap_write.specs.contracts.heap.HeapState.{the_view}
use Rattle.heap_write.proofs.PageLemmas.{same-pages, keeps-viewed}
use Rattle.heap_write.proofs.HintLemmas.{hints-same_ids}
use Rattle.std.proofs.Common.{refl}
use Rattle.heap_write.proofs.heap.HeapState.reserve_ids_for.Goals as goal

pub returns-clause-keeps : goal.returns-clause-keeps
returns-clause-keeps c = keeps-viewed (the_view c.self.inside) _ _ c.self.view_is (same-pages c.self.inside.pages) c.reserve_ids.ensures.ids c.make_room_for.ensures.same refl

pub invariant_of-self : goal.invariant_of-self
invariant_of-self c = (
  c.self.invariant.0,
  hints-same_ids c.self.inside.statuses c.reserve_ids.new.statuses c.self.inside.pages.pages c.self.inside.hints.pages c.reserve_ids.ensures.ids c.self.invariant.1,
)

pub invariant_of-self-2 : goal.invariant_of-self-2
invariant_of-self-2 c = (
  c.self.invariant.0,
  hints-same_ids c.self.inside.statuses c.reserve_ids.new.statuses c.self.inside.pages.pages c.self.inside.hints.pages c.reserve_ids.ensures.ids c.self.invariant.1,
)
