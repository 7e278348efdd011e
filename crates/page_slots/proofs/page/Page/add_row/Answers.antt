use Rattle.std.proofs.Common.{◌≡◌, ◌≤◌, ◌<◌, ◌+◌, ◌∙◌, ℕ, List, length, sym, ap, subst, refl, arith}
use Rattle.std.specs.List.{position_or_len}
use Rattle.tuple_header.specs.Version.{rounded_size_of}
use Rattle.page_slots.specs.View.{PageView}
use Rattle.page_sheet.specs.declared.slot.Slot.{Slot}
use Rattle.page_sheet.specs.declared.slot.Slot.TheVariants.{Normal}
use Rattle.page_sheet.specs.Layout.{slots_in}
use Rattle.page_sheet.specs.Slots.{is_unused, free_number, room_of, with_added}
use Rattle.page_sheet.proofs.FreeLemmas.{first-after_added}
use Rattle.page_sheet.specs.Placing.{places_of, gap_wanted, IsPutBelow}
use Rattle.page_sheet.proofs.SlotLemmas.{first_within}
use Rattle.page_slots.proofs.Kept.{kept_added, gap-reused, gap-new, room-reused, room-new, with_added-at, with_added-behind}
use Rattle.page_sheet.proofs.Sounds.{length-slots_in}
use Rattle.page_slots.proofs.page.Page.add_row.Goals as goal
use Rattle.page_slots.proofs.page.Page.add_row.Goals.{After-len, After-first_unused_from-self-inside, then-index-len, else-index-len}

-- The version fits.

record Fits (slots : List Slot) (count size : ℕ) : Type 0 where
  long : length slots ≡ count
  fits : size ≤ room_of slots
  some : 0 < size
  number : free_number slots ≤ 291

fits : (c : After-len) → Fits (slots_in c.self.inside.sheet.count c.self.inside.sheet.bytes) c.self.inside.sheet.count (rounded_size_of c.args.row.now)
fits c =
    let seen = ap (λ (p : PageView). p.slots) (sym c.self.view_is) in
    let room = c.room-room.ensures.value ∙ ap room_of seen in
    let fits : rounded_size_of c.args.row.now ≤ room_of (slots_in c.self.inside.sheet.count c.self.inside.sheet.bytes) = rw seen at c.requires.room in
    let some : 0 < rounded_size_of c.args.row.now = omega arith in
    record {
      long = length-slots_in c.self.inside.sheet.count c.self.inside.sheet.bytes;
      fits = fits;
      some = some;
      number = rw seen at (c.room-room.ensures.place (omega (arith, room, some, fits)));
    }

pub add-requires-clause-room : goal.add-requires-clause-room
add-requires-clause-room c =
    let f = fits (goal.at.add-requires-clause-room c).After-len in
    let enough = room-reused (slots_in c.self.inside.sheet.count c.self.inside.sheet.bytes) c.self.inside.free c.self.inside.taken_bytes (rounded_size_of c.args.row.now) c.self.invariant
    (omega (arith, f.long)) f.fits in
    omega (arith, f.long)

pub push-requires-clause-room : goal.push-requires-clause-room
push-requires-clause-room c =
    let f = fits (goal.at.push-requires-clause-room c).After-len in
    let enough = room-new (slots_in c.self.inside.sheet.count c.self.inside.sheet.bytes) c.self.inside.free c.self.inside.taken_bytes (rounded_size_of c.args.row.now) c.self.invariant
    (omega (arith, f.long)) f.number f.fits f.some in
    omega (arith, f.long)

-- It stands in the slots, whichever way it came there.

added : (c : After-first_unused_from-self-inside) → with_added (slots_in c.self.inside.sheet.count c.self.inside.sheet.bytes) (Normal (record { header = c.args.header; row = c.args.row.now }))
    ≡ slots_in c.if-index-len.self-inside.sheet.count c.if-index-len.self-inside.sheet.bytes
added c =
    let slots = slots_in c.self.inside.sheet.count c.self.inside.sheet.bytes in
    let slot = Normal (record { header = c.args.header; row = c.args.row.now }) in
    let long = length-slots_in c.self.inside.sheet.count c.self.inside.sheet.bytes in
    let first = c.self.invariant.first in
    elim c.if-index-len.branch [
      | then-index-len w ↦ rw w.self-inside-is (with_added-at slots slot c.self.inside.free first (omega (arith, w.if-index-len.true)) ∙ sym w.add.ensures.slots.are)
      | else-index-len w ↦ rw w.self-inside-is (with_added-behind slots slot c.self.inside.free first (omega (arith, w.if-index-len.false)) ∙ sym w.push.ensures.slots.are)
    ]

pub first_unused_from-self-inside-requires : goal.first_unused_from-self-inside-requires
first_unused_from-self-inside-requires c =
    let slots = slots_in c.self.inside.sheet.count c.self.inside.sheet.bytes in
    let slot = Normal (record { header = c.args.header; row = c.args.row.now }) in
    let long = length-slots_in c.self.inside.sheet.count c.self.inside.sheet.bytes in
    let first = c.self.invariant.first in
    let next = subst (λ (i : ℕ). i + 1 ≤ position_or_len is_unused (with_added slots slot)) (sym first) (first-after_added slots slot refl) in
    elim c.if-index-len.branch [
      | then-index-len w ↦ rw (w.self-inside-is, w.add.ensures.slots.are, ← with_added-at slots slot c.self.inside.free first (omega (arith, w.if-index-len.true))) next
      | else-index-len w ↦ rw (w.self-inside-is, w.push.ensures.slots.are, ← with_added-behind slots slot c.self.inside.free first (omega (arith, w.if-index-len.false))) next
    ]

pub invariant_of-self : goal.invariant_of-self
invariant_of-self c =
    let slots = slots_in c.self.inside.sheet.count c.self.inside.sheet.bytes in
    let slot = Normal (record { header = c.args.header; row = c.args.row.now }) in
    let f = fits (goal.at.invariant_of-self c).After-len in
    let bytes : c.if-index-len.self-inside.taken_bytes ≡ c.self.inside.taken_bytes =
    elim c.if-index-len.branch [ then-index-len w ↦ rw w.self-inside-is refl | else-index-len w ↦ rw w.self-inside-is refl ] in
    let next = c.first_unused_from-self-inside.ensures.index ∙ ap (position_or_len is_unused) (sym (added (goal.at.invariant_of-self c).After-first_unused_from-self-inside)) in
    rw (← added (goal.at.invariant_of-self c).After-first_unused_from-self-inside, bytes, c.row_size.ensures.value)
    (kept_added slots c.self.inside.free c.self.inside.taken_bytes c.first_unused_from-self-inside.result slot f.some f.fits f.number next c.self.invariant)

pub returns-clause-slots : goal.returns-clause-slots
returns-clause-slots c =
    let slot = Normal (record { header = c.args.header; row = c.args.row.now }) in
    ap (λ (p : PageView). p.slots) c.raise.ensures ∙ sym (added (goal.at.returns-clause-slots c).After-first_unused_from-self-inside) ∙ ap (λ (p : PageView). with_added p.slots slot) c.self.view_is

pub returns-clause-places : goal.returns-clause-places
returns-clause-places c =
    let slots = slots_in c.self.inside.sheet.count c.self.inside.sheet.bytes in
    let size = rounded_size_of c.args.row.now in
    let before = places_of c.self.inside.sheet in
    let number = c.self.inside.free + 1 in
    let long = length-slots_in c.self.inside.sheet.count c.self.inside.sheet.bytes in
    let first = c.self.invariant.first in
    let put : IsPutBelow slots before (places_of c.if-index-len.self-inside.sheet) number size (gap_wanted slots size) =
    elim c.if-index-len.branch [
      | then-index-len w ↦ rw w.self-inside-is (subst (λ (n : ℕ). IsPutBelow slots before (places_of w.add.new.self) number size n)
          (gap-reused slots c.self.inside.free size first (omega (arith, w.if-index-len.true))) w.add.ensures.places)
      | else-index-len w ↦
          let last : c.self.inside.sheet.count ≡ c.self.inside.free = omega (arith, first_within slots, w.if-index-len.false) in
          rw w.self-inside-is (subst (λ (k : ℕ). IsPutBelow slots before (places_of w.push.new.self) (k + 1) size (gap_wanted slots size)) last
          (subst (λ (n : ℕ). IsPutBelow slots before (places_of w.push.new.self) (c.self.inside.sheet.count + 1) size n)
          (gap-new slots c.self.inside.free size first (omega (arith, w.if-index-len.false))) w.push.ensures.places))
    ] in
    rw (← c.self.view_is, ap (λ (p : PageView). p.places) c.raise.ensures) put
