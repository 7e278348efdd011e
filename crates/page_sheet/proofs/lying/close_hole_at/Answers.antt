use Rattle.std.proofs.Common.{◌≡◌, ◌+◌, ◌-◌, ◌∙◌, ℕ, ap, length, take, drop, arith, length-take, length-drop}
use Rattle.std.specs.Int.{next_multiple_of}
use Rattle.page_sheet.proofs.LyingLemmas.{hole-closes}
use Rattle.page_sheet.proofs.RunLemmas.{slid}
use Rattle.page_layout.proofs.RaiseLemmas.{raisable}
use Rattle.page_sheet.proofs.lying.close_hole_at.Goals as goal

pub slide-requires-clause-order : goal.slide-requires-clause-order
slide-requires-clause-order c =
    (hole-closes c.args.bytes.now c.args.count c.args.first c.from-low.result c.from-2.result c.next_multiple_of-by.result c.args.extent c.requires.lying c.requires.room
    (c.from-low.ensures ∙ c.u16_at.ensures) c.from-2.ensures (c.next_multiple_of-by.ensures.value ∙ ap (λ (n : ℕ). next_multiple_of n 8) c.from.ensures)).order

pub slide-requires-clause-room : goal.slide-requires-clause-room
slide-requires-clause-room c =
    (hole-closes c.args.bytes.now c.args.count c.args.first c.from-low.result c.from-2.result c.next_multiple_of-by.result c.args.extent c.requires.lying c.requires.room
    (c.from-low.ensures ∙ c.u16_at.ensures) c.from-2.ensures (c.next_multiple_of-by.ensures.value ∙ ap (λ (n : ℕ). next_multiple_of n 8) c.from.ensures)).most

pub raise_pointers-requires-clause-raisable : goal.raise_pointers-requires-clause-raisable
raise_pointers-requires-clause-raisable c =
    let low = c.from-low.result in
    let top = c.from-2.result in
    let size = c.next_multiple_of-by.result in
    let block = take (top - low) (drop low c.args.bytes.now) in
    let whole = c.requires.sound.long in
    let fact =
    hole-closes c.args.bytes.now c.args.count c.args.first c.from-low.result c.from-2.result c.next_multiple_of-by.result c.args.extent c.requires.lying c.requires.room
    (c.from-low.ensures ∙ c.u16_at.ensures) c.from-2.ensures (c.next_multiple_of-by.ensures.value ∙ ap (λ (n : ℕ). next_multiple_of n 8) c.from.ensures) in
    let order = fact.order in
    let behind = fact.behind in
    let most = fact.most in
    let long : length block ≡ top - low = rw (length-take, length-drop) (omega arith) in
    raisable c.args.bytes.now c.slide.new.bytes block c.args.count c.args.first (low + size) size c.requires.sound behind (omega arith) c.slide.ensures (omega arith)

pub returns : goal.returns
returns c =
    let fact =
    hole-closes c.args.bytes.now c.args.count c.args.first c.from-low.result c.from-2.result c.next_multiple_of-by.result c.args.extent c.requires.lying c.requires.room
    (c.from-low.ensures ∙ c.u16_at.ensures) c.from-2.ensures (c.next_multiple_of-by.ensures.value ∙ ap (λ (n : ℕ). next_multiple_of n 8) c.from.ensures) in
    slid c.args.bytes.now c.slide.new.bytes c.raise_pointers.new.bytes c.args.count c.args.first (c.from-2.result + c.next_multiple_of-by.result) c.from-low.result c.from-2.result
    c.next_multiple_of-by.result c.requires.sound (let inside = c.requires.lying.within in omega (arith, inside)) fact.head fact.tail (omega arith) fact.even c.requires.room c.slide.ensures c.raise_pointers.ensures
