use Rattle.std.proofs.Common.{◌≡◌, ◌<◌, sym, subst, true, false, Some, length, arith}
use Rattle.waits.specs.View.{wait_in}
use Rattle.waits.proofs.Rings.{Walk, walk-none, walk-more, walk-room, walk-back, among-from_contains}
use Rattle.waits.proofs.ring.closes_ring.Goals as goal

pub walk-init : goal.walk-init
walk-init c = rw c.new-seen.ensures (walk-none (wait_in c.args.waits.now) c.args.s c.args.o (omega arith))

pub push-requires : goal.push-requires
push-requires c =
    let waits = wait_in c.args.waits.now in
    let w : Walk waits c.args.s c.args.o c.walk.seen.items (Some c.in-Some.t) = subst (Walk waits c.args.s c.args.o c.walk.seen.items) c.in-Some.is c.walk.invariant in
    let new = among-from_contains c.in-Some.t c.walk.seen.items c.deref.result.now false c.deref.ensures.0 (sym c.if-contains.ensures.value) in
    (omega arith, walk-room waits c.args.s c.args.o c.walk.seen.items c.in-Some.t w new)

pub walk-smaller : goal.walk-smaller
walk-smaller c =
    let waits = wait_in c.args.waits.now in
    let w : Walk waits c.args.s c.args.o c.walk.seen.items (Some c.in-Some.t) = subst (Walk waits c.args.s c.args.o c.walk.seen.items) c.in-Some.is c.walk.invariant in
    let new = among-from_contains c.in-Some.t c.walk.seen.items c.deref.result.now false c.deref.ensures.0 (sym c.if-contains.ensures.value) in
    let room : length c.walk.seen.items < 256 = walk-room waits c.args.s c.args.o c.walk.seen.items c.in-Some.t w new in
    omega (arith, c.push.ensures.len)

pub walk-preserved : goal.walk-preserved
walk-preserved c =
    let waits = wait_in c.args.waits.now in
    let w : Walk waits c.args.s c.args.o c.walk.seen.items (Some c.in-Some.t) = subst (Walk waits c.args.s c.args.o c.walk.seen.items) c.in-Some.is c.walk.invariant in
    let new = among-from_contains c.in-Some.t c.walk.seen.items c.deref.result.now false c.deref.ensures.0 (sym c.if-contains.ensures.value) in
    rw c.push.ensures.items (walk-more waits c.args.s c.args.o c.walk.seen.items c.in-Some.t c.wait_of-at.result w new c.if-t-s.false c.wait_of-at.ensures.value c.wait_of-at.ensures.small)

pub returns-then-contains : goal.returns-then-contains
returns-then-contains c =
    let waits = wait_in c.args.waits.now in
    let w : Walk waits c.args.s c.args.o c.walk.seen.items (Some c.in-Some.t) = subst (Walk waits c.args.s c.args.o c.walk.seen.items) c.in-Some.is c.walk.invariant in
    let back = among-from_contains c.in-Some.t c.walk.seen.items c.deref.result.now true c.deref.ensures.0 (sym c.if-contains.ensures.value) in
    (λ e. absurd (let no : false ≡ true = e in cc), λ ring. absurd (walk-back waits c.args.s c.args.o c.walk.seen.items c.in-Some.t w back ring))
