use Rattle.std.proofs.Common.{[], ◌++◌, arith, ap, append_assoc, sym, ◌∙◌}
use Rattle.std.proofs.lemmas.List.{append-nil}
use Rattle.transcript.proofs.ExchangeLemmas.{Progress-start, Progress-past, further_on}
use Rattle.transcript.proofs.exchanges.judge_all_exchanges.Goals as goal

pub loop-at-init : goal.loop-at-init
loop-at-init c = ([], Progress-start _ _ _ _ c.requires, sym (append-nil _))

pub loop-at-smaller : goal.loop-at-smaller
loop-at-smaller c =
    let n = c.in-Ok.ensures.next in
    let more = further_on c.args.text.now n.0.asked n.0.answer c.loop-at.at c.in-Ok.past.next c.loop-at.invariant.1.within n.4 in
    let to = n.4.1 in
    omega (arith, more, to)

pub loop-at-preserved : goal.loop-at-preserved
loop-at-preserved c =
    let h = c.loop-at.invariant in
    let n = c.in-Ok.ensures.next in
    (h.0 ++ n.1, Progress-past _ _ _ _ _ _ _ _ _ _ _ _ _ c.in-Ok.past h.1 n, n.5 ∙ ap (λ o. o ++ n.1) h.2 ∙ append_assoc _ h.0 n.1)

pub overflow_add-allowed : goal.overflow_add-allowed
overflow_add-allowed c =
    let h = c.loop-at.invariant in
    let p = Progress-past _ _ _ _ _ _ _ _ _ _ _ _ _ c.in-Ok.past h.1 c.in-Ok.ensures.next in
    let few = p.few in
    let within = p.within in
    let size = c.type_inv.text in
    omega (arith, few, within, size)

pub overflow_add-left_open : goal.overflow_add-left_open
overflow_add-left_open c =
    let h = c.loop-at.invariant in
    let p = Progress-past _ _ _ _ _ _ _ _ _ _ _ _ _ c.in-Ok.past h.1 c.in-Ok.ensures.next in
    let few = p.few in
    let fewer = p.fewer in
    let within = p.within in
    let size = c.type_inv.text in
    omega (arith, few, fewer, within, size)
