use Rattle.std.proofs.Common.{◌≡◌, ◌+◌, ◌-◌, length, take, drop, arith, length-take, length-drop}
use Rattle.page_sheet.proofs.RunLemmas.{closes, slid}
use Rattle.page_layout.proofs.RaiseLemmas.{raisable}
use Rattle.page_sheet.proofs.packing.close_hole.Goals as goal

pub slide-requires-clause-order : goal.slide-requires-clause-order
slide-requires-clause-order c =
    (closes c.args.bytes.now c.args.count c.args.first c.args.upper c.rest_from-end.result.0 c.rest_from-end.result.1 c.end_at-top.result
    c.requires.placed c.requires.within c.rest_from-end.ensures.run c.rest_from-end.ensures.bound c.if-end-count.false c.if-upper-top.false
    c.end_at-top.ensures.even c.requires.room).order

pub raise_pointers-requires-clause-raisable : goal.raise_pointers-requires-clause-raisable
raise_pointers-requires-clause-raisable c =
    let low = c.rest_from-end.result.1 in
    let top = c.end_at-top.result in
    let by = c.args.upper - top in
    let block = take (top - low) (drop low c.args.bytes.now) in
    let whole = c.requires.sound.long in
    let fact =
    closes c.args.bytes.now c.args.count c.args.first c.args.upper c.rest_from-end.result.0 c.rest_from-end.result.1 c.end_at-top.result
    c.requires.placed c.requires.within c.rest_from-end.ensures.run c.rest_from-end.ensures.bound c.if-end-count.false c.if-upper-top.false
    c.end_at-top.ensures.even c.requires.room in
    let order = fact.order in
    let behind = fact.behind in
    let room = fact.room in
    let most = fact.most in
    let size : length block ≡ top - low = rw (length-take, length-drop) (omega arith) in
    raisable c.args.bytes.now c.slide.new.bytes block c.args.count c.args.first (low + by) by c.requires.sound behind (omega arith) c.slide.ensures (omega arith)

pub returns : goal.returns
returns c =
    let top = c.end_at-top.result in
    let upper = c.args.upper in
    let fact =
    closes c.args.bytes.now c.args.count c.args.first c.args.upper c.rest_from-end.result.0 c.rest_from-end.result.1 c.end_at-top.result
    c.requires.placed c.requires.within c.rest_from-end.ensures.run c.rest_from-end.ensures.bound c.if-end-count.false c.if-upper-top.false
    c.end_at-top.ensures.even c.requires.room in
    slid c.args.bytes.now c.slide.new.bytes c.raise_pointers.new.bytes c.args.count c.args.first upper c.rest_from-end.result.1 top (upper - top) c.requires.sound
    c.requires.within c.requires.placed fact.tail fact.room fact.even c.requires.room c.slide.ensures c.raise_pointers.ensures
