use Rattle.std.proofs.Common.{◌≤◌, ℤ, length, Some, None, ap, subst, arith}
use Rattle.std.specs.Int.{w128}
use Rattle.std.proofs.lemmas.Int.{to_z-of_z}
use Rattle.index_lookup.specs.Pages.{page_slots_of}
use Rattle.visibility.specs.Reading.{IsSeenBy}
use Rattle.index_lookup.specs.Looking.{IsNextOf, FetchedAt}
use Rattle.index_lookup.proofs.Turns.{entry_of, looked-first, looked-next, looked-end}
use Rattle.index_lookup.proofs.lookup.place_from.Goals as goal

pub loop-init : goal.loop-init
loop-init c =
    looked-first c.args.table.now.index.now.entries c.args.first.value c.args.first.key
    (λ e. FetchedAt c.args.reader.now.statuses.now (IsSeenBy c.args.reader.now) (page_slots_of c.args.table.now.pages.now) e.tid None)
    (Some c.args.first) c.requires

pub loop-preserved : goal.loop-preserved
loop-preserved c =
    let next = subst (λ (v : ℤ). IsNextOf c.args.table.now.index.now.entries v c.args.first.key (Some c.in-Some.entry) (entry_of c.next_of-next.result)) (to_z-of_z w128 c.args.first.value c.fact_value.ensures) c.next_of-next.ensures in
    looked-next c.args.table.now.index.now.entries c.args.first.value c.args.first.key
    (λ e. FetchedAt c.args.reader.now.statuses.now (IsSeenBy c.args.reader.now) (page_slots_of c.args.table.now.pages.now) e.tid None)
    c.loop.counter (entry_of c.loop.next) c.in-Some.entry (entry_of c.next_of-next.result) c.fact_ascending.ensures c.loop.invariant (ap entry_of c.in-Some.is) c.in_default.ensures next

pub returns : goal.returns
returns c =
    let count = c.len-end.ensures in
    let over = c.loop-test.false in
    let all : length c.args.table.now.index.now.entries ≤ c.loop.counter = omega arith in
    looked-end c.args.table.now.index.now.entries c.args.first.value c.args.first.key
    (λ e. FetchedAt c.args.reader.now.statuses.now (IsSeenBy c.args.reader.now) (page_slots_of c.args.table.now.pages.now) e.tid None)
    c.loop.counter (entry_of c.loop.next) c.loop.invariant all
