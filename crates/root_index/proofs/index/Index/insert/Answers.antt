use Rattle.std.proofs.Common.{◌≡◌, ◌∙◌, ◌+◌, ◌-◌, ◌^◌, ◌<◌, ◌≤◌, ◌⊎◌, ℕ, inl, inr, max, length, Contains, sym, ap, refl, subst, arith}
use Rattle.std.proofs.lemmas.List.Edits.{length-insert}
use Rattle.root_index.specs.View.{IndexView, room_in, free_places}
use Rattle.index_entries.specs.Sets.{AddsEntry}
use Rattle.index_entries.proofs.SetLemmas.{adds-there, absent_in_gap, on_err}
use Rattle.root_index.specs.Trees.{among, nodes_of}
use Rattle.root_index.proofs.SoundLemmas.{ascending_there, found_there, gap_there, adds_in_gap, sound_inserted, sound_unspent, none_promised, none_countable}
use Rattle.root_index.proofs.FullLemmas.{full_among, no_room, room_less, places_after, ready_after}
use Rattle.root_index.proofs.index.Index.insert.Goals as goal

pub position_for-requires-clause-ascending : goal.position_for-requires-clause-ascending
position_for-requires-clause-ascending g c = ascending_there c.self.inside.trees.items c.deref.result.now c.deref.ensures.value c.self.invariant.ascending

-- the entry is there
pub returns-in-Ok-clause-adds : goal.returns-in-Ok-clause-adds
returns-in-Ok-clause-adds g c =
    let found = found_there _ _ c.self.inside.trees.items c.deref.result.now c.args.entry c.in-Ok.field-0 c.deref.ensures.value c.in-Ok.ensures.found in
    subst (λ (v : IndexView). AddsEntry v.entries (among c.self.inside.trees.items) c.args.entry) c.self.view_is (adds-there (among c.self.inside.trees.items) c.args.entry _ c.self.invariant.ascending found)

-- memory is refused only where there is no room, and the entry is not there
pub returns-then-self-clause-memory : goal.returns-then-self-clause-memory
returns-then-self-clause-memory g c =
    let trees = c.self.inside.trees.items in
    let gap = gap_there _ _ trees c.deref.result.now c.args.entry c.in-Err.position c.deref.ensures.value c.in-Err.ensures.absent in
    let none = none_countable _ _ _ _ c.self.invariant (omega (arith, c.if-self.true)) in
    let counted : c.self.inside.count ≡ length (among trees) = c.self.invariant.counted in
    on_err c.ask_for_too_much.result ((room_in c.args.self.now ≡ 0) × (¬ Contains c.args.self.now.entries c.args.entry))
    (subst (λ (v : IndexView). (room_in v ≡ 0) × (¬ Contains v.entries c.args.entry)) c.self.view_is
    (no_room c.self.inside.promised (length (among trees)) none (inr (omega (arith, counted, c.if-self.true))), absent_in_gap (among trees) c.args.entry _ gap))

pub returns-in_err-insert-clause-memory : goal.returns-in_err-insert-clause-memory
returns-in_err-insert-clause-memory g c =
    let trees = c.self.inside.trees.items in
    let gap = gap_there _ _ trees c.deref.result.now c.args.entry c.in-Err.position c.deref.ensures.value c.in-Err.ensures.absent in
    let none = none_promised _ _ _ _ c.self.invariant (λ k left. (omega (arith, left.0), (omega (arith, left.1.0), omega (arith, left.1.1)))) c.in_err-insert.ensures.refused in
    on_err c.from_residual.result ((room_in c.args.self.now ≡ 0) × (¬ Contains c.args.self.now.entries c.args.entry))
    (subst (λ (v : IndexView). (room_in v ≡ 0) × (¬ Contains v.entries c.args.entry)) c.self.view_is
    (no_room c.self.inside.promised (length (among trees)) none (full_among trees _ (λ some. c.self.invariant.ready (omega (arith, some, c.self.invariant.counted))) c.in_err-insert.ensures.full), absent_in_gap (among trees) c.args.entry _ gap))

-- it goes to its place
pub invariant_of-self-2 : goal.invariant_of-self-2
invariant_of-self-2 g c =
    let gap = gap_there _ _ c.self.inside.trees.items c.deref.result.now c.args.entry c.in-Err.position c.deref.ensures.value c.in-Err.ensures.absent in
    let now = c.in_ok-insert.ensures in
    let places = places_after c.self.inside.trees.items c.self.inside.count _ _ c.self.invariant.neat c.self.invariant.counted c.self.invariant.places now.places (λ none. (now.first none).0) in
    let ready = ready_after c.self.inside.trees.items c.insert.new.nodes.items c.self.inside.count _ _ c.self.invariant.neat c.self.invariant.counted c.self.invariant.ready now.reserve now.long (λ none. (now.first none).1) in
    elim c.still_promised-self-inside.ensures.fewer [
      | inl fewer ↦
          sound_inserted c.self.inside.trees.items c.insert.new.nodes.items _ _ c.self.inside.count c.self.inside.promised c.self.invariant
          c.args.entry _ (c.self.inside.count + 1) _ gap now.entries now.neat places ready now.room now.spare now.below (omega arith, (omega arith, omega arith)) refl fewer
          (omega (arith, c.self.invariant.countable, c.if-self.false))
      | inr kept ↦
          sound_unspent c.self.inside.trees.items c.insert.new.nodes.items _ _ c.self.inside.count c.self.inside.promised c.self.invariant
          c.args.entry _ (c.self.inside.count + 1) _ gap now.entries now.neat places ready refl kept.0.0 kept.0.1 kept.0.2 kept.0.3 kept.1
    ]

pub returns-clause-adds : goal.returns-clause-adds
returns-clause-adds g c =
    let gap = gap_there _ _ c.self.inside.trees.items c.deref.result.now c.args.entry c.in-Err.position c.deref.ensures.value c.in-Err.ensures.absent in
    subst (λ (v : IndexView). AddsEntry v.entries (among c.insert.new.nodes.items) c.args.entry) c.self.view_is
    (adds_in_gap (among c.self.inside.trees.items) (among c.insert.new.nodes.items) c.args.entry _ c.self.invariant.ascending gap c.in_ok-insert.ensures.entries)

pub returns-clause-spare_kept : goal.returns-clause-spare_kept
returns-clause-spare_kept g c there =
    let gap = gap_there _ _ c.self.inside.trees.items c.deref.result.now c.args.entry c.in-Err.position c.deref.ensures.value c.in-Err.ensures.absent in
    absurd (absent_in_gap (among c.self.inside.trees.items) c.args.entry _ gap (subst (λ (v : IndexView). Contains v.entries c.args.entry) (sym c.self.view_is) there))

still_less : (promised still : ℕ) (P : Type 0) → (still ≡ promised - 1) ⊎ (P × (still ≡ promised)) → promised - 1 ≤ still
still_less promised still P (inl fewer) = omega (arith, fewer)
still_less promised still P (inr kept) = omega (arith, kept.1)

pub returns-clause-room : goal.returns-clause-room
returns-clause-room g c =
    let trees = c.self.inside.trees.items in
    let new = c.insert.new.nodes.items in
    let still = c.still_promised-self-inside.result in
    let gap = gap_there _ _ trees c.deref.result.now c.args.entry c.in-Err.position c.deref.ensures.value c.in-Err.ensures.absent in
    let longer : length (among new) ≡ length (among trees) + 1 =
    ap length c.in_ok-insert.ensures.entries ∙ length-insert (among trees) _ c.args.entry gap.in_range in
    subst (λ (v : IndexView). room_in v ≤ max still (free_places (length (among new)) still) + 1) c.self.view_is
    (room_less c.self.inside.promised still (length (among trees)) (length (among new)) (still_less c.self.inside.promised still _ c.still_promised-self-inside.ensures.fewer) longer)

-- where no node was split all others stay promised
pub returns-clause-unspent : goal.returns-clause-unspent
returns-clause-unspent g c =
    let trees = c.self.inside.trees.items in
    let new = c.insert.new.nodes.items in
    let still = c.still_promised-self-inside.result in
    let sound = c.self.invariant in
    let gap = gap_there _ _ trees c.deref.result.now c.args.entry c.in-Err.position c.deref.ensures.value c.in-Err.ensures.absent in
    let longer : length (among new) ≡ length (among trees) + 1 =
    ap length c.in_ok-insert.ensures.entries ∙ length-insert (among trees) _ c.args.entry gap.in_range in
    let counted : c.self.inside.count ≡ length (among trees) = sound.counted in
    subst (λ (v : IndexView). nodes_of new ≡ v.nodes → length (among new) + v.spare < 2 ^ 64 → v.spare ≤ still) c.self.view_is
    (λ same countable.
    let unspent = c.in_ok-insert.ensures.unspent same in
    let is = c.still_promised-self-inside.ensures.all (
      omega (arith, unspent.in_list, sound.in_list),
      omega (arith, unspent.nodes, sound.in_trees),
      unspent.below c.self.inside.promised sound.below,
      omega (arith, countable, longer, counted),
    ) in
    omega (arith, is))
