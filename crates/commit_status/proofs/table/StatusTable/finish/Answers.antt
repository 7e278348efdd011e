use Rattle.std.proofs.Common.{List, ℕ, IsSome, get_or, take, sym, subst}
use Rattle.xid_circle.specs.declared.Xid.{Xid}
use Rattle.commit_status.specs.Changes.{numbers, Finishes}
use Rattle.commit_status.proofs.ChangesLemmas.{finishes-more, finishes-place, numbers-more, numbers-contain}
use Rattle.commit_status.proofs.table.StatusTable.finish.Goals as goal

pub set_status-requires : goal.set_status-requires
set_status-requires c =
    let x : Xid = get_or c.args.ids.now c.loop-x.x-index (record { 0 = 0 }) in
    let kept = finishes-place c.args.self.now c.loop-x.self (numbers (take c.loop-x.x-index c.args.ids.now)) c.args.status x.0 c.loop-x.invariant in
    subst IsSome (sym kept) (c.requires x.0 (numbers-contain c.args.ids.now c.loop-x.x-index (record { 0 = 0 }) c.loop-x-test.true)).is_given

pub loop-x-preserved : goal.loop-x-preserved
loop-x-preserved c =
    let x : Xid = get_or c.args.ids.now c.loop-x.x-index (record { 0 = 0 }) in
    let P : List ℕ → Type 0 = λ ids. Finishes c.args.self.now c.set_status.new.self ids c.args.status in
    subst P (sym (numbers-more c.args.ids.now c.loop-x.x-index (record { 0 = 0 }) c.loop-x-test.true))
    (finishes-more c.args.self.now c.loop-x.self c.set_status.new.self (numbers (take c.loop-x.x-index c.args.ids.now)) x.0 c.args.status c.loop-x.invariant c.set_status.ensures)
