use Rattle.std.proofs.Common.{subst, inl}
use Rattle.commit_status.specs.Window.{IsWindow}
use Rattle.heap_write.specs.Heap.{HeapView}
use Rattle.write_ids.specs.Ids.{NeedsFreeze}
use Rattle.heap_write.proofs.Replacing.{is-replaceable}
use Rattle.heap_write.proofs.Updating.{answers-freeze}
use Rattle.heap_write.proofs.Plans.{idle-plan_on}
use Rattle.heap_write.proofs.heap.HeapState.update_full_page.Goals as goal

pub returns-then-needs_freeze : goal.returns-then-needs_freeze
returns-then-needs_freeze c =
    let needs = subst (λ (h : HeapView). NeedsFreeze h.statuses c.args.own.now) c.self.view_is (c.needs_freeze.ensures.0 c.if-needs_freeze.true) in
    answers-freeze c.args.self.now c.args.own.now c.args.place c.args.row.now c.args.horizon.0 needs
    (subst (λ (h : HeapView). IsWindow h.statuses) c.self.view_is c.fact_window.ensures)

pub update_unpruned-requires-clause-may : goal.update_unpruned-requires-clause-may
update_unpruned-requires-clause-may c =
    is-replaceable c.args.own.now c.args.place c.needs_freeze.result c.self.view_is c.requires.newest c.needs_freeze.ensures c.if-needs_freeze.false c.requires.there

pub update_by_plan-requires-clause-may : goal.update_by_plan-requires-clause-may
update_by_plan-requires-clause-may c =
    is-replaceable c.args.own.now c.args.place c.needs_freeze.result c.self.view_is c.requires.newest c.needs_freeze.ensures c.if-needs_freeze.false c.requires.there

pub returns-then-knows_none_dead : goal.returns-then-knows_none_dead
returns-then-knows_none_dead c =
    let horizon = c.args.horizon.0 in
    c.update_unpruned.ensures horizon (inl (idle-plan_on c.args.self.now c.args.place.page horizon (c.knows_none_dead.ensures c.if-knows_none_dead.true)))
