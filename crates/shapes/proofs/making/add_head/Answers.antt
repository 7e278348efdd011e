use Rattle.std.proofs.Common.{◌≡◌, [], ◌∷◌, ◌++◌, ap, ◌∙◌}
use Rattle.shape_list.specs.declared.shape.Shape.TheVariants as shape
use Rattle.shapes.specs.Shapes.{IsOne, AreIds, IsHorizonShape, IsNextShape, AreSessions, left_out}
use Rattle.shapes.proofs.Adding.{adds-list, adds-one}
use Rattle.shapes.proofs.JoinedLemmas.{five-parts}
use Rattle.shapes.proofs.making.add_head.Goals as goal

pub returns-clause-head : goal.returns-clause-head
returns-clause-head c =
    let st = c.args.engine.now.engine.core in
    let same = c.in_ok-add_ids.ensures.same in
    let horizon = rw same at c.horizon_shape.ensures in
    let next = rw same at c.ids.ensures.next in
    let sessions = rw same at c.add_sessions.ensures in
    five-parts (λ ids. ids ≡ shape.Ids (left_out st.heap.statuses) ∷ []) (AreIds st) (IsOne (IsHorizonShape st) shape.Horizon) (IsOne (IsNextShape st) shape.Next) (AreSessions c.args.engine.now)
    c.args.shapes.now.items c.push.new.self.items c.add_ids.new.shapes.items c.push-2.new.self.items c.push-3.new.self.items c.add_sessions.new.shapes.items c.add_sessions.result
    (adds-list (shape.Ids (left_out st.heap.statuses) ∷ []) c.args.shapes.now.items c.push.new.self.items
    (c.in_ok-push.ensures.items ∙ ap (λ n. c.args.shapes.now.items ++ shape.Ids n ∷ []) c.left_out.ensures))
    c.in_ok-add_ids.ensures.ids
    (adds-one (IsHorizonShape st) shape.Horizon c.horizon_shape.result c.add_ids.new.shapes.items c.push-2.new.self.items horizon c.in_ok-push-2.ensures.items)
    (adds-one (IsNextShape st) shape.Next c.ids.result.0 c.push-2.new.self.items c.push-3.new.self.items next c.in_ok-push-3.ensures.items)
    sessions
