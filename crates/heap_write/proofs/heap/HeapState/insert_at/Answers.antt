use Rattle.std.proofs.Common.{◌≡◌, ◌⊎◌, true, sym, subst, ◌∙◌, inl, inr}
use Rattle.std.specs.Prelude.{Result, Ok, Err, OnErr}
use Rattle.std.specs.Result.{is_err}
use Rattle.std.proofs.lemmas.Bool.{true≢false}
use Rattle.table_indexes.specs.Indexes.{NeedsEntry}
use Rattle.heap_write.specs.Refusals.{NeedsIds}
use Rattle.heap_write.specs.contracts.heap.HeapState.{the_view}
use Rattle.commit_status.specs.Window.{Window}
use Rattle.heap_write.specs.Heap.{HeapView}
use Rattle.write_ids.specs.Ids.{TakesIds}
use Rattle.write_ids.proofs.IdLemmas.{takes-grown}
use Rattle.heap_write.proofs.HintLemmas.{hints-same_ids, hints-taken}
use Rattle.heap_write.proofs.heap.HeapState.insert_at.Goals as goal
use Rattle.heap_write.proofs.heap.HeapState.insert_at.Goals.{then-is_err-via-then-is_err, then-is_err-via-else-is_err+then-is_err-2}

pub returns-clause-takes : goal.returns-clause-takes
returns-clause-takes c =
    let own = c.args.own.now in
    let own' = c.take_ids-x.new.own in
    let x = c.take_ids-x.result.0 in
    let reserved = c.reserve_ids.ensures in
    let takes = takes-grown c.self.inside.statuses c.reserve_ids.new.statuses c.take_ids-x.new.statuses own c.reserve_ids.new.own own' x reserved.ids reserved.own reserved.none c.take_ids-x.ensures.takes in
    subst (λ (h : HeapView). TakesIds h.statuses c.put_root-place.new.self.statuses own own' x) c.self.view_is
    (subst (λ (w : Window). TakesIds c.self.inside.statuses w own own' x) (sym c.put_root-place.ensures.statuses) takes)

refusal : {X E : Type 0} (r : Result X E) (P : Type 0) → is_err r ≡ true → OnErr r P → P
refusal (Ok x) P e needs = absurd (true≢false (sym e))
refusal (Err x) P e needs = needs

pub returns-then-is_err-clause-needs : goal.returns-then-is_err-clause-needs
returns-then-is_err-clause-needs c =
    let h = the_view c.self.inside in
    subst (λ (h : HeapView). NeedsEntry h.indexes c.args.row.now ⊎ NeedsIds h c.args.own.now) c.self.view_is
    (elim c.then-is_err.branch [
      | then-is_err-via-then-is_err w ↦ inl (refusal c.make_room.result (NeedsEntry h.indexes c.args.row.now) (sym c.is_err.ensures.value ∙ w.if-is_err.true) c.make_room.ensures.refused)
      | then-is_err-via-else-is_err+then-is_err-2 w ↦ inr (refusal w.reserve_ids.result (NeedsIds h c.args.own.now) (sym w.is_err-else-is_err.ensures.value ∙ w.if-is_err-2.true) w.reserve_ids.ensures.refused)
    ])

pub invariant_of-self : goal.invariant_of-self
invariant_of-self c =
    let pages = c.self.inside.pages.pages in
    let hints = c.self.inside.hints.pages in
    elim c.then-is_err.branch [
      | then-is_err-via-then-is_err w ↦ rw w.self-inside-is c.self.invariant
      | then-is_err-via-else-is_err+then-is_err-2 w ↦ rw w.self-inside-is (
        c.self.invariant.0,
        hints-same_ids c.self.inside.statuses w.reserve_ids.new.statuses pages hints w.reserve_ids.ensures.ids c.self.invariant.1,
      )
    ]

pub invariant_of-self-2 : goal.invariant_of-self-2
invariant_of-self-2 c =
    let taken = c.take_ids-x in
    let reserved = c.reserve_ids in
    let pages = c.self.inside.pages.pages in
    let hints = c.self.inside.hints.pages in
    let ready = hints-same_ids c.self.inside.statuses reserved.new.statuses pages hints reserved.ensures.ids c.self.invariant.1 in
    (c.self.invariant.0, hints-taken reserved.new.statuses taken.new.statuses reserved.new.own taken.new.own taken.result.0 pages hints taken.ensures.takes taken.ensures.window ready)
