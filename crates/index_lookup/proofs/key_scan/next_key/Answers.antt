use Rattle.std.proofs.Common.{◌≤◌, length, arith}
use Rattle.visibility.specs.Reading.{IsSeenBy}
use Rattle.index_lookup.specs.Keys.{KeyShows}
use Rattle.index_lookup.proofs.SpanLemmas.{first-in_span}
use Rattle.index_lookup.proofs.WalkLemmas.{walked-on, walked-end}
use Rattle.index_lookup.proofs.KeyLemmas.{walked-key}
use Rattle.index_lookup.proofs.key_scan.next_key.Goals as goal

pub key_shows-requires : goal.key_shows-requires
key_shows-requires c = first-in_span c.args.table.now.index.now.entries c.loop.left c.in-Some.entry c.in-Some.ensures

pub returns-then-key_shows : goal.returns-then-key_shows
returns-then-key_shows c =
    let position = c.position_of-position.result in
    walked-key c.args.reader.now.statuses.now (IsSeenBy c.args.reader.now) c.args.table.now.pages.now c.args.table.now.index.now.entries c.args.span.now c.loop.left c.loop.counter c.in-Some.entry position
    c.loop.invariant c.in-Some.ensures (c.position_of-position.ensures.value, c.position_of-position.ensures.key) (c.key_shows.ensures.0 c.if-key_shows.true)

pub loop-preserved : goal.loop-preserved
loop-preserved c =
    let entries = c.args.table.now.index.now.entries in
    let position = c.position_of-position.result in
    walked-on entries (λ value key. ¬ KeyShows c.args.reader.now.statuses.now (IsSeenBy c.args.reader.now) c.args.table.now.pages.now entries value key) c.args.span.now c.loop.left c.loop.counter c.in-Some.entry position
    c.fact_ascending.ensures c.loop.invariant c.in-Some.ensures (c.position_of-position.ensures.value, c.position_of-position.ensures.key) (λ shows. absurd (let e = c.key_shows.ensures.1 shows in cc))

pub returns : goal.returns
returns c =
    let entries = c.args.table.now.index.now.entries in
    let count = c.len-end.ensures in
    let over = c.loop-test.false in
    let all : length entries ≤ c.loop.counter = omega arith in
    walked-end entries (λ value key. ¬ KeyShows c.args.reader.now.statuses.now (IsSeenBy c.args.reader.now) c.args.table.now.pages.now entries value key) c.args.span.now c.loop.left c.loop.counter c.loop.invariant all
