use Rattle.std.proofs.Common.{◌∙◌, ◌≤◌, ◌<◌, length, sym, ap, subst, arith}
use Rattle.index_entries.proofs.SetLemmas.{on_err}
use Rattle.index_entries.specs.declared.node.TheConstants.{MOST_PARTS}
use Rattle.root_index.specs.View.{IndexView, free_places, room_in}
use Rattle.root_index.proofs.WideningLemmas.{room-moved, room-ready}
use Rattle.root_index.proofs.narrow.NarrowIndex.take_wide.Goals as goal
use Rattle.root_index.proofs.narrow.NarrowIndex.take_wide.Goals.{then-len, else-len}

pub copy_entries-requires-clause-fit : goal.copy_entries-requires-clause-fit
copy_entries-requires-clause-fit c = elim c.if-len.branch [
  | then-len w ↦ rw w.self-inside-is c.self.invariant.fit
  | else-len w ↦ rw w.self-inside-is c.self.invariant.fit
]

-- fewer than 128 always find room

no_room : (narrow wide : IndexView) → 128 ≤ room_in wide → room_in wide < length narrow.entries → 128 ≤ length narrow.entries
no_room narrow wide room refused = omega (arith, room, refused)

pub invariant_of-self : goal.invariant_of-self
invariant_of-self c = elim c.if-len.branch [
  | then-len w ↦
      let entries = ap length (ap (λ (v : IndexView). v.entries) (ap (λ x. x.entries) w.self-inside-is)) in
      let refused = c.in_err-copy_entries.ensures.refused in
      let ready = room-ready c.self.inside.entries c.self.inside.wide c.self.invariant (omega (arith, refused, entries)) in
      let room : 128 ≤ room_in c.if-len.wide = subst (λ (v : IndexView). 128 ≤ room_in v) (sym (w.wide-is ∙ w.replace-wide.ensures.value)) ready in
      absurd (omega (arith, room, refused, entries, w.if-len.true, c.len.ensures))
  | else-len w ↦ rw w.self-inside-is c.self.invariant
]

pub returns-in_err-copy_entries-clause-refused : goal.returns-in_err-copy_entries-clause-refused
returns-in_err-copy_entries-clause-refused c = on_err c.from_residual.result _ (subst (λ (v : IndexView). MOST_PARTS ≤ length v.entries) c.self.view_is (elim c.if-len.branch [
  | then-len w ↦
      let entries = ap length (ap (λ (v : IndexView). v.entries) (ap (λ x. x.entries) w.self-inside-is)) in
      let refused = c.in_err-copy_entries.ensures.refused in
      let ready = room-ready c.self.inside.entries c.self.inside.wide c.self.invariant (omega (arith, refused, entries)) in
      let room : 128 ≤ room_in c.if-len.wide = subst (λ (v : IndexView). 128 ≤ room_in v) (sym (w.wide-is ∙ w.replace-wide.ensures.value)) ready in
      omega (arith, room, refused, entries)
  | else-len w ↦ omega (arith, w.if-len.false, c.len.ensures)
]))

pub returns-clause-room : goal.returns-clause-room
returns-clause-room c =
    let moved = c.in_ok-copy_entries.ensures.room in
    subst (λ (v : IndexView). free_places (length v.entries) v.spare ≤ room_in c.copy_entries.new.to) c.self.view_is (elim c.if-len.branch [
      | then-len w ↦
          let entries = ap length (ap (λ (v : IndexView). v.entries) (ap (λ x. x.entries) w.self-inside-is)) in
          room-moved c.self.inside.entries c.copy_entries.new.to (room_in c.if-len.wide)
          (λ few some. subst (λ (v : IndexView). 128 ≤ room_in v) (sym (w.wide-is ∙ w.replace-wide.ensures.value)) (room-ready c.self.inside.entries c.self.inside.wide c.self.invariant some))
          (omega (arith, moved, entries))
      | else-len w ↦
          let entries = ap length (ap (λ (v : IndexView). v.entries) (ap (λ x. x.entries) w.self-inside-is)) in
          room-moved c.self.inside.entries c.copy_entries.new.to (room_in c.if-len.wide)
          (λ few some. absurd (omega (arith, few, w.if-len.false, c.len.ensures))) (omega (arith, moved, entries))
    ])
