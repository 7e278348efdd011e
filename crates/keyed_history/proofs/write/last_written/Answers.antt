use Rattle.std.proofs.Common.{◌∙◌, sym, subst, take}
use Rattle.history.specs.History.{said, written}
use Rattle.std.specs.Prelude.{IfSome}
use Rattle.keyed_history.specs.Places.{IsRowOf}
use Rattle.keyed_history.proofs.Lists.{written-take, newer, as_before}
use Rattle.keyed_history.proofs.write.last_written.Goals as goal
use Rattle.keyed_history.proofs.write.last_written.Goals.{in-Some, in_default}

pub loop-write-preserved : goal.loop-write-preserved
loop-write-preserved c =
    let more = written-take c.args.writes.now c.loop-write.write-index c.write-item.result c.args.key c.loop-write-test.true c.write-item.is in
    let before = written (take c.loop-write.write-index c.args.writes.now) c.args.key in
    let here = said c.write-item.result c.args.key in
    elim c.match-said.branch [
      | in-Some w ↦ record {
        value = newer c.said.result here before c.match-said.last w.in-Some.said w.in-Some.is c.said.ensures.value w.last-is ∙ sym more;
        keyed = subst (λ o. IfSome o (λ row. IsRowOf c.args.key row)) (w.in-Some.is ∙ sym w.last-is) c.said.ensures.keyed;
      }
      | in_default w ↦ record {
        value = as_before c.said.result here before c.match-said.last c.loop-write.last w.in_default.is c.said.ensures.value w.last-is c.loop-write.invariant.value ∙ sym more;
        keyed = subst (λ o. IfSome o (λ row. IsRowOf c.args.key row)) (sym w.last-is) c.loop-write.invariant.keyed;
      }
    ]
