use Rattle.std.proofs.Common.{◌<◌, length, subst, arith}
use Rattle.heap_write.specs.Heap.{HeapView}
use Rattle.heap_write.specs.contracts.heap.HeapState.{the_view}
use Rattle.heap_write.proofs.Plans.{empty-prunes, idle-plan_on}
use Rattle.heap_write.proofs.heap.HeapState.prune.Goals as goal

pub prune_page-requires : goal.prune_page-requires
prune_page-requires c =
    let n = c.args.number in
    let here : n < length (the_view c.self.inside).pages.pages = omega (arith, c.len.ensures.count, c.if-number-len.false) in
    record { within = subst (λ (v : HeapView). n < length v.pages.pages) c.self.view_is here }

pub returns-else-not-knows_none_dead-clause-ok : goal.returns-else-not-knows_none_dead-clause-ok
returns-else-not-knows_none_dead-clause-ok c =
    let n = c.args.number in
    let here : n < length (the_view c.self.inside).pages.pages = omega (arith, c.len.ensures.count, c.if-number-len.false) in
    empty-prunes c.args.self.now n c.args.horizon.0 (subst (λ (v : HeapView). n < length v.pages.pages) c.self.view_is here)
    (idle-plan_on c.args.self.now n c.args.horizon.0 (c.knows_none_dead.ensures c.if-not-knows_none_dead.false))
