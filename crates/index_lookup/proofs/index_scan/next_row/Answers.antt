use Rattle.std.proofs.Common.{◌≤◌, length, None, arith}
use Rattle.index_lookup.specs.Pages.{page_slots_of}
use Rattle.visibility.specs.Reading.{IsSeenBy}
use Rattle.index_lookup.specs.Looking.{FirstFound}
use Rattle.index_lookup.proofs.SpanLemmas.{first-in_span}
use Rattle.index_lookup.proofs.WalkLemmas.{walked-on, walked-end, walked-row}
use Rattle.index_lookup.proofs.index_scan.next_row.Goals as goal

pub row_from-requires : goal.row_from-requires
row_from-requires c = first-in_span c.args.table.now.index.now.entries c.loop.left c.in-Some.entry c.in-Some.ensures

pub returns-in-Some-row_from : goal.returns-in-Some-row_from
returns-in-Some-row_from c =
    let seen = IsSeenBy c.args.reader.now in
    let position = c.position_of-position.result in
    walked-row c.args.reader.now.statuses.now seen (page_slots_of c.args.table.now.pages.now) c.args.table.now.index.now.entries c.args.span.now c.loop.left c.loop.counter c.in-Some.entry position c.in-Some-row_from.row
    c.loop.invariant c.in-Some.ensures (c.position_of-position.ensures.value, c.position_of-position.ensures.key) c.in-Some-row_from.ensures

pub loop-preserved : goal.loop-preserved
loop-preserved c =
    let seen = IsSeenBy c.args.reader.now in
    let pages = page_slots_of c.args.table.now.pages.now in
    let entries = c.args.table.now.index.now.entries in
    let position = c.position_of-position.result in
    walked-on entries (λ value key. FirstFound c.args.reader.now.statuses.now seen pages entries value key None) c.args.span.now c.loop.left c.loop.counter c.in-Some.entry position
    c.fact_ascending.ensures c.loop.invariant c.in-Some.ensures (c.position_of-position.ensures.value, c.position_of-position.ensures.key) c.in_default.ensures

pub returns : goal.returns
returns c =
    let seen = IsSeenBy c.args.reader.now in
    let pages = page_slots_of c.args.table.now.pages.now in
    let entries = c.args.table.now.index.now.entries in
    let count = c.len-end.ensures in
    let over = c.loop-test.false in
    let all : length entries ≤ c.loop.counter = omega arith in
    walked-end entries (λ value key. FirstFound c.args.reader.now.statuses.now seen pages entries value key None) c.args.span.now c.loop.left c.loop.counter c.loop.invariant all
