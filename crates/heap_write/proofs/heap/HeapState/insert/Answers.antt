use Rattle.std.proofs.Common.{ℕ, Option, refl, subst}
use Rattle.std.specs.Prelude.{IfErr}
use Rattle.tuple_header.specs.Version.{rounded_size_of}
use Rattle.heap_write.specs.declared.target.Target.{Target}
use Rattle.heap_write.specs.Writes.{Inserts, TableIsFull}
use Rattle.write_ids.specs.Ids.{NeedsFreeze}
use Rattle.heap_write.specs.Refusals.{RootNeedsMemory, LacksForInsert}
use Rattle.heap_pages.specs.Choice.{IsPlaceFor}
use Rattle.heap_pages.specs.declared.pages.Placement.TheVariants.{NewPage}
use Rattle.heap_write.specs.Growth.{place_of_target}
use Rattle.heap_write.specs.contracts.heap.HeapState.{the_view}
use Rattle.heap_write.proofs.Reserving.{needs-memory, room-left, insert-refused}
use Rattle.heap_write.proofs.Writing.{both-ok, inserts}
use Rattle.std.proofs.lemmas.Result.{on_err_weaker}
use Rattle.std.proofs.lemmas.Bool.{iff_false}
use Rattle.write_ids.proofs.IdLemmas.{same-ids}
use Rattle.heap_write.proofs.PageLemmas.{keeps-viewed, keeps-then}
use Rattle.heap_write.proofs.HintLemmas.{hints-grown}
use Rattle.heap_write.proofs.heap.HeapState.insert.Goals as goal

pub returns-in-Ok-Some-clause-ok : goal.returns-in-Ok-Some-clause-ok
returns-in-Ok-Some-clause-ok c =
    let h = the_view c.self.inside in
    let free = iff_false c.needs_freeze.ensures c.if-needs_freeze.false in
    let R : ℕ → Option Target → Type 0 = λ size found. IsPlaceFor c.self.inside.pages.pages c.self.inside.max_pages size (place_of_target found) in
    let chosen = subst (λ found. R (rounded_size_of c.args.row.now) found) c.in-Ok-Some.field-0-is (subst (λ size. R size c.in-Ok-Some.field-0) c.row_size.ensures.value c.in-Ok-Some.ensures.chosen) in
    both-ok c.insert_at.result (λ x takes root. subst (λ v. Inserts v c.insert_at.new.self c.args.own.now c.insert_at.new.own c.args.row.now x.0) c.self.view_is
    (inserts h _ c.insert_at.new.self c.args.own.now c.insert_at.new.own c.args.row.now x.0 c.in-Ok-Some.target free chosen c.reserve_place.ensures.same (record { entries = λ n. refl; since = λ n. refl }) takes root c.insert_at.ensures.max_pages)) c.insert_at.ensures.takes c.insert_at.ensures.root

pub returns-in-Err-clause-fault : goal.returns-in-Err-clause-fault
returns-in-Err-clause-fault c =
    let h = the_view c.self.inside in
    let free = iff_false c.needs_freeze.ensures c.if-needs_freeze.false in
    let row = c.args.row.now in
    let chosen = subst (λ size. IsPlaceFor h.pages.pages h.max_pages size NewPage) c.row_size.ensures.value c.in-Err.ensures.needs in
    let needs = needs-memory h c.args.own.now row chosen in
    subst (λ v. (¬ NeedsFreeze v.statuses c.args.own.now) × (¬ TableIsFull v (rounded_size_of row)) × RootNeedsMemory v c.args.own.now row) c.self.view_is (free, needs.0, needs.1)

pub returns-in-Ok-Some-clause-fault : goal.returns-in-Ok-Some-clause-fault
returns-in-Ok-Some-clause-fault c =
    let h = the_view c.self.inside in
    let own = c.args.own.now in
    let size = rounded_size_of c.args.row.now in
    let free = iff_false c.needs_freeze.ensures c.if-needs_freeze.false in
    let R : ℕ → Option Target → Type 0 = λ n found. IsPlaceFor c.self.inside.pages.pages c.self.inside.max_pages n (place_of_target found) in
    let chosen = subst (λ found. R size found) c.in-Ok-Some.field-0-is (subst (λ n. R n c.in-Ok-Some.field-0) c.row_size.ensures.value c.in-Ok-Some.ensures.chosen) in
    let failed = c.insert_at.ensures in
    subst (λ v. IfErr c.insert_at.result (λ fault. LacksForInsert v own c.args.row.now fault)) c.self.view_is
    (insert-refused h own c.args.row.now c.insert_at.result free (room-left h size c.in-Ok-Some.target chosen) failed.fault failed.needs)

pub returns-in-Ok-Some-clause-err : goal.returns-in-Ok-Some-clause-err
returns-in-Ok-Some-clause-err c =
    let h = the_view c.self.inside in
    let reserved = keeps-viewed h c.args.self.now _ c.self.view_is c.reserve_place.ensures.same (same-ids c.self.inside.statuses) (record { entries = λ n. refl; since = λ n. refl }) refl in
    on_err_weaker c.insert_at.result (λ kept. keeps-then c.args.self.now _ c.insert_at.new.self reserved kept) c.insert_at.ensures.err

pub invariant_of-self : goal.invariant_of-self
invariant_of-self c =
    let placed = c.reserve_place in (
      c.self.invariant.0,
      hints-grown c.self.inside.statuses c.self.inside.statuses c.self.inside.pages placed.new.pages c.self.inside.hints.pages placed.new.hints.pages (same-ids c.self.inside.statuses) placed.ensures.same
          placed.ensures.hints c.self.invariant.1,
    )

pub invariant_of-self-in-Err : goal.invariant_of-self-in-Err
invariant_of-self-in-Err c =
    let placed = c.reserve_place in (
      c.self.invariant.0,
      hints-grown c.self.inside.statuses c.self.inside.statuses c.self.inside.pages placed.new.pages c.self.inside.hints.pages placed.new.hints.pages (same-ids c.self.inside.statuses) placed.ensures.same
          placed.ensures.hints c.self.invariant.1,
    )
