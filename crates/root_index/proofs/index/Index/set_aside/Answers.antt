use Rattle.std.proofs.Common.{arith}
use Rattle.root_index.proofs.SoundLemmas.{sound_roomier}
use Rattle.root_index.proofs.index.Index.set_aside.Goals as goal

-- the trees are as they were
pub invariant_of-self : goal.invariant_of-self
invariant_of-self g c =
    let asked = c.ask_for_too_much.ensures in
    let sound = c.self.invariant in
    sound_roomier c.self.inside.trees.items c.ask_for_too_much.new.trees.items _ _ c.self.inside.count c.self.inside.promised c.self.inside.promised c.self.inside.promised
    sound asked.same (omega (arith, asked.len, asked.capacity)) (omega (arith, sound.in_list, asked.len, asked.capacity)) (omega arith) sound.in_trees (λ k left. left) sound.below (λ places. places) (λ has. has) (omega arith) sound.countable

pub invariant_of-self-2 : goal.invariant_of-self-2
invariant_of-self-2 g c =
    let reserved = c.in_ok-try_reserve.ensures in
    let added = c.in_ok-add_nodes.ensures in
    sound_roomier c.self.inside.trees.items c.try_reserve.new.self.items _ _ c.self.inside.count c.self.inside.promised c.args.count c.max-self-inside.result
    c.self.invariant reserved.items (omega (arith, reserved.len, reserved.capacity)) (omega (arith, reserved.ok, reserved.len)) added.kept added.ok c.add_spares.ensures.kept
    c.in_ok-add_spares.ensures.ok (λ places. (omega (arith, added.places, places.0), c.add_spares.ensures.places places.1)) c.add_spares.ensures.reserve c.max-self-inside.ensures (omega (arith, c.if-self-count.false))

pub invariant_of-self-in_err-add_spares : goal.invariant_of-self-in_err-add_spares
invariant_of-self-in_err-add_spares g c =
    let reserved = c.in_ok-try_reserve.ensures in
    let added = c.in_ok-add_nodes.ensures in
    let sound = c.self.invariant in
    sound_roomier c.self.inside.trees.items c.try_reserve.new.self.items _ _ c.self.inside.count c.self.inside.promised c.self.inside.promised c.self.inside.promised
    sound reserved.items (omega (arith, reserved.len, reserved.capacity)) (omega (arith, sound.in_list, reserved.len, reserved.capacity)) added.kept (omega (arith, sound.in_trees, added.kept))
    c.add_spares.ensures.kept (c.add_spares.ensures.kept c.self.inside.promised sound.below) (λ places. (omega (arith, added.places, places.0), c.add_spares.ensures.places places.1))
    c.add_spares.ensures.reserve (omega arith) sound.countable
