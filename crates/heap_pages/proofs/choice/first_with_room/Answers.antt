use Rattle.std.proofs.Common.{arith, ◌∙◌, ◌<◌, length, Some, ap, sym}
use Rattle.std.proofs.lemmas.Bool.{iff_false}
use Rattle.heap_pages.specs.Choice.{HasRoom}
use Rattle.heap_pages.proofs.FirstLemmas.{none-more, none-all, first-here, read_at}
use Rattle.heap_pages.proofs.FreeSpaceLemmas.{count-of, none-passed}
use Rattle.heap_pages.proofs.choice.first_with_room.Goals as goal

pub returns-then-has_room : goal.returns-then-has_room
returns-then-has_room c =
    let pages = c.args.pages.now in
    let bytes = c.args.map.now.bytes in
    let n = c.in-Some.number in
    let page = c.page.result.now in
    let within : n < length pages = omega (arith, c.in-Some.ensures.below, count-of c.args.map.now.bytes c.args.pages.now c.requires.bytes) in
    let at = read_at pages n c.index-pages-number.result within c.index-pages-number.is ∙ ap Some (sym c.page.ensures) in
    let none =
    none-passed pages bytes c.args.size c.loop-number.from n c.min-least.result c.requires.bytes c.min-least.ensures c.loop-number.invariant.none c.in-Some.ensures.none in
    first-here pages (HasRoom c.args.size) n page none at (c.has_room.ensures.0 c.if-has_room.true)

pub loop-number-preserved : goal.loop-number-preserved
loop-number-preserved c =
    let pages = c.args.pages.now in
    let bytes = c.args.map.now.bytes in
    let n = c.in-Some.number in
    let page = c.page.result.now in
    let within : n < length pages = omega (arith, c.in-Some.ensures.below, count-of c.args.map.now.bytes c.args.pages.now c.requires.bytes) in
    let at = read_at pages n c.index-pages-number.result within c.index-pages-number.is ∙ ap Some (sym c.page.ensures) in
    let none =
    none-passed pages bytes c.args.size c.loop-number.from n c.min-least.result c.requires.bytes c.min-least.ensures c.loop-number.invariant.none c.in-Some.ensures.none in
    let not_this = iff_false c.has_room.ensures c.if-has_room.false in
    record { within = omega (arith, c.requires.few); none = none-more pages (HasRoom c.args.size) n page none at not_this }

pub returns : goal.returns
returns c =
    let pages = c.args.pages.now in
    let bytes = c.args.map.now.bytes in
    let n = length bytes in
    none-all pages (HasRoom c.args.size) n (omega (arith, count-of c.args.map.now.bytes c.args.pages.now c.requires.bytes))
    (none-passed pages bytes c.args.size c.loop-number.from n c.min-least.result c.requires.bytes c.min-least.ensures c.loop-number.invariant.none c.in_default.ensures)
