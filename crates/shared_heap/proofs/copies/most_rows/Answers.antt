use Rattle.std.proofs.Common.{◌≤◌, min, max, subst, sym, arith}
use Rattle.tuple_header.specs.declared.version.TheConstants.{MOST_SLOTS}
use Rattle.calls.specs.declared.step.Step.{Step}
use Rattle.shared_heap.specs.Replies.{HasRoomFor}
use Rattle.shared_heap.proofs.Rooms.{room-next, room-page}
use Rattle.shared_heap.proofs.copies.most_rows.Goals as goal

pub returns-in-Next : goal.returns-in-Next
returns-in-Next c =
    let most = c.most_entries.result in
    let count = c.in-Next.count in
    let enough : max (min (max count 1) most) MOST_SLOTS ≤ c.max-in-Next.result =
    let a = c.max.ensures in let b = c.from-asked.ensures in let d = c.min-most.ensures in let e = c.from.ensures in let f = c.max-in-Next.ensures in omega arith in
    subst (λ (step : Step). HasRoomFor c.args.engine.now step c.max-in-Next.result) (sym c.in-Next.is)
    (room-next c.args.engine.now c.in-Next.field-0 count most c.max-in-Next.result c.most_entries.ensures enough)

pub returns-in-TakePage : goal.returns-in-TakePage
returns-in-TakePage c =
    let enough : MOST_SLOTS ≤ c.from-in-TakePage.result = let slots = c.from-in-TakePage.ensures in omega (arith, slots) in
    subst (λ (step : Step). HasRoomFor c.args.engine.now step c.from-in-TakePage.result) (sym c.in-TakePage.is)
    (room-page c.args.engine.now c.in-TakePage.field-0 c.in-TakePage.field-1 c.from-in-TakePage.result enough)
