use Rattle.std.proofs.Common.{arith, ◌-◌, ◌∙◌}
use Rattle.script.proofs.PiecesLemmas.{Takes-behind, refill_same}
use Rattle.script.proofs.input.Pending.refill.Goals as goal

pub returns-clause-takes : goal.returns-clause-takes
returns-clause-takes g c =
    let same = refill_same c.self.inside.bytes.len c.read_behind-result.new.bytes c.self.inside.bytes.items (omega arith) (omega arith) in
    let moved = c.in_ok-n.ensures.moved in
    Takes-behind _ _ _ _ (c.self.inside.end - c.self.inside.start) c.in_ok-n.n _ (omega arith) (rw same (moved ∙ rw c.as_mut_slice.ensures.value c.self.view_is)) (rw same c.in_ok-n.ensures.bytes)
