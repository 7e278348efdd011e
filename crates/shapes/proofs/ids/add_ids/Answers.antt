use Rattle.std.proofs.Common.{◌≡◌, ◌+◌, ◌-◌, arith, ap, ◌∙◌, subst}
use Rattle.xid_circle.specs.Circle.{given}
use Rattle.commit_status.specs.Window.{turns}
use Rattle.shapes.specs.Shapes.{Adds, ArePieces, IsIdPiece, remembered, left_out}
use Rattle.shapes.proofs.IdLemmas.{no-ids, one-id}
use Rattle.shapes.proofs.ids.add_ids.Goals as goal

pub loop-init : goal.loop-init
loop-init c =
    let w = c.args.engine.now.engine.core.heap.statuses in
    no-ids c.args.engine.now c.id_after-id.result.0 c.args.shapes.now.items
    (c.id_after-id.ensures ∙ ap (λ k. given k c.left_out-left_out.result) c.ids.ensures.first ∙ ap (given w.first) c.left_out-left_out.ensures)

pub loop-preserved : goal.loop-preserved
loop-preserved c =
    one-id c.args.engine.now c.loop.engine c.id_shape-shape.new.engine c.loop.id.0 c.following-id.result.0 c.loop.counter c.id_shape-shape.result
    c.args.shapes.now.items c.loop.shapes.items c.push.new.self.items c.loop.invariant c.id_shape-shape.ensures.same c.id_shape-shape.ensures.shape
    c.in_ok-push.ensures.items c.following-id.ensures

pub returns : goal.returns
returns c =
    let st = c.args.engine.now.engine.core in
    let w = st.heap.statuses in
    let end : c.loop.counter ≡ c.turns.result - c.left_out-left_out.result = omega (arith, c.loop-test.false, c.loop.auto.counter-end) in
    let all : c.turns.result ≡ remembered w =
    c.turns.ensures ∙ ap (λ k. turns k c.ids.result.0.0) c.ids.ensures.first ∙ ap (turns w.first) c.ids.ensures.next in
    let count = end ∙ ap (λ k. k - c.left_out-left_out.result) all ∙ ap (λ k. remembered w - k) c.left_out-left_out.ensures in
    record {
      same = c.loop.invariant.same;
      ids = subst (λ k. Adds (ArePieces (λ i. IsIdPiece st (given w.first (left_out w + i))) k) c.args.shapes.now.items c.loop.shapes.items) count c.loop.invariant.added;
    }
