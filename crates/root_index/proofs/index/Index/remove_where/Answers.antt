use Rattle.std.proofs.Common.{◌≤◌, max, length, ap, refl, subst, arith}
use Rattle.root_index.specs.View.{IndexView, free_places, room_in}
use Rattle.root_index.specs.Pieces.{RemovesPiece}
use Rattle.root_index.specs.Trees.{tree_entries, among}
use Rattle.root_index.proofs.FullLemmas.{some_among}
use Rattle.root_index.proofs.SoundLemmas.{ascending_there}
use Rattle.root_index.proofs.SweepLemmas.{start_there, removes_swept, removes_none, sound_swept, some_swept, some_nodes, room_swept}
use Rattle.root_index.proofs.index.Index.remove_where.Goals as goal

pub position_near-position-requires-clause-ascending : goal.position_near-position-requires-clause-ascending
position_near-position-requires-clause-ascending g c = ascending_there c.self.inside.trees.items c.deref.result.now c.deref.ensures.value c.self.invariant.ascending

-- where no node is left the last ones are set aside
pub invariant_of-self : goal.invariant_of-self
invariant_of-self g c =
    let now = c.in-Some.ensures in
    let kept = c.sweep_from.ensures.kept in
    let some = some_nodes tree_entries c.self.inside.trees.items (some_swept _ _ _ _ _ now.swept) in
    sound_swept c.self.inside.trees.items c.sweep_from.new.nodes.items _ _ c.self.inside.count _ c.self.inside.promised _ _ c.args.dead.now c.in-Some.swept
    c.self.invariant now.swept now.neat (omega (arith, now.shorter, now.capacity)) kept.nodes kept.left (λ places. (omega (arith, kept.list, places.0), kept.places places.1))
    kept.reserve c.sweep_from.ensures.returned
    (λ empty places reserve. let left = c.sweep_from.ensures.emptied some empty places reserve in
    (omega (arith, empty, c.sweep_from.ensures.room (omega (arith, empty, some))), left.0, left.1))
    refl (c.promised_after_sweep-self-inside.ensures.left, c.promised_after_sweep-self-inside.ensures.emptied)

pub returns-in-Some-clause-piece : goal.returns-in-Some-clause-piece
returns-in-Some-clause-piece g c =
    let start = start_there _ _ _ c.self.inside.trees.items c.deref.result.now _ c.position_near-position.result c.deref.ensures.value c.position_near-position.ensures in
    subst (λ (v : IndexView). RemovesPiece v.entries (among c.sweep_from.new.nodes.items) c.args.dead.now c.args.from c.came_to.result.0) c.self.view_is
    (removes_swept (among c.self.inside.trees.items) (among c.sweep_from.new.nodes.items) _ c.args.dead.now c.in-Some.swept c.args.from c.came_to.result.0 c.self.invariant.ascending start
    c.in-Some.ensures.swept c.came_to.ensures.more c.came_to.ensures.done)

-- so there is as much room as before, and as many nodes are set aside

pub returns-in-Some-clause-spare : goal.returns-in-Some-clause-spare
returns-in-Some-clause-spare g c =
    let after = c.promised_after_sweep-self-inside.ensures in
    let more = room_swept (among c.self.inside.trees.items) (among c.sweep_from.new.nodes.items) _ c.args.dead.now c.in-Some.swept (length c.sweep_from.new.nodes.items) c.self.inside.promised
    c.promised_after_sweep-self-inside.result c.in-Some.ensures.swept (some_among c.sweep_from.new.nodes.items c.in-Some.ensures.neat) (after.left, after.emptied) in
    subst (λ (v : IndexView). v.spare ≤ c.promised_after_sweep-self-inside.result) c.self.view_is more.0

pub returns-in-Some-clause-room : goal.returns-in-Some-clause-room
returns-in-Some-clause-room g c =
    let after = c.promised_after_sweep-self-inside.ensures in
    let promised = c.promised_after_sweep-self-inside.result in
    let more = room_swept (among c.self.inside.trees.items) (among c.sweep_from.new.nodes.items) _ c.args.dead.now c.in-Some.swept (length c.sweep_from.new.nodes.items) c.self.inside.promised
    promised c.in-Some.ensures.swept (some_among c.sweep_from.new.nodes.items c.in-Some.ensures.neat) (after.left, after.emptied) in
    subst (λ (v : IndexView). room_in v ≤ max promised (free_places (length (among c.sweep_from.new.nodes.items)) promised)) c.self.view_is more.1

pub returns-in-None-clause-piece : goal.returns-in-None-clause-piece
returns-in-None-clause-piece g c =
    let start = start_there _ _ _ c.self.inside.trees.items c.deref.result.now _ c.position_near-position.result c.deref.ensures.value c.position_near-position.ensures in
    subst (λ (v : IndexView). RemovesPiece v.entries (among c.sweep_from.new.nodes.items) c.args.dead.now c.args.from _) c.self.view_is
    (removes_none (among c.self.inside.trees.items) (among c.sweep_from.new.nodes.items) _ c.args.dead.now c.args.from c.self.invariant.ascending start c.in-None.ensures.none
    (ap among c.in-None.ensures.same))
