use Rattle.std.proofs.Common.{◌≡◌, ◌≢◌, ◌<◌, ◌∙◌, ◌+◌, ◌++◌, ◌∷◌, [], ℕ, List, length, set, sym, ap, subst, refl, arith}
use Rattle.std.proofs.lemmas.List.{set_at}
use Rattle.tuple_header.specs.Version.{Version, size_of, rounded_size_of}
use Rattle.page_layout.specs.declared.pointer.Pointer.{Pointer}
use Rattle.page_layout.specs.declared.pointer.Extent.{Extent}
use Rattle.page_layout.specs.Layout.{change_in, flags_in, pointer_in, upper_in}
use Rattle.page_sheet.specs.Placing.{places_of, IsPutBelow}
use Rattle.page_layout.proofs.OrderLemmas.{below_or_last}
use Rattle.page_sheet.specs.Sheet.{SheetView}
use Rattle.page_sheet.specs.declared.slot.Slot.{Slot}
use Rattle.page_sheet.specs.Layout.{slots_in}
use Rattle.page_sheet.proofs.Sounds.{length-slots_in}
use Rattle.page_sheet.proofs.PlacingLemmas.{put-below}
use Rattle.page_sheet.proofs.LyingLemmas.{lying-filled}
use Rattle.page_sheet.proofs.sheet.Sheet.push.Goals as goal

pub invariant_of-self : goal.invariant_of-self
invariant_of-self c =
    let a = c.self-2.inside.bytes in
    let index = c.self.inside.count in
    let e : Extent = record { from = upper_in c.put_below.new.bytes; len = size_of c.args.row.now } in
    let counted : index ≡ c.make_way.new.self.count = ap (λ (s : SheetView). s.count) c.self.view_is in
    let again : c.self-2.inside.count ≡ c.grow.new.self.count = ap (λ (s : SheetView). s.count) c.self-2.view_is in
    let grown : c.grow.new.self.count ≡ c.make_way.new.self.count + 1 = c.grow.ensures.count in
    let last : index + 1 ≡ c.self-2.inside.count = omega arith in
    let free : pointer_in a index ≡ Pointer.Unused =
    ap (λ (s : SheetView). pointer_in s.bytes index) c.self-2.view_is ∙ ap (pointer_in c.grow.new.self.bytes) counted ∙ c.grow.ensures.last in (
      c.put_below.ensures.sound,
      lying-filled a c.put_below.new.bytes c.self-2.inside.count index c.self-2.inside.lying e c.self-2.invariant.0 c.put_below.ensures.sound last
          (λ j h. c.put_below.ensures.places j (omega arith) (λ x. absurd (omega arith))) (λ d is. absurd (let no_version = sym free ∙ is in cc))
          c.put_below.ensures.here refl c.put_below.ensures.upper c.self-2.invariant.1,
    )

pub returns-clause-slots : goal.returns-clause-slots
returns-clause-slots c =
    let v : Version = record { header = c.args.header.now; row = c.args.row.now } in
    let before = slots_in c.args.self.now.count c.args.self.now.bytes in
    let counted : c.self.inside.count ≡ c.make_way.new.self.count = ap (λ (s : SheetView). s.count) c.self.view_is in
    let long : length before ≡ c.self.inside.count = length-slots_in c.args.self.now.count c.args.self.now.bytes ∙ sym c.make_way.ensures.count ∙ sym counted in
    let grown : slots_in c.grow.new.self.count c.grow.new.self.bytes ≡ before ++ Slot.Unused ∷ [] = c.grow.ensures.slots.are ∙ ap (λ (xs : List Slot). xs ++ Slot.Unused ∷ []) c.make_way.ensures.slots.are in
    record {
      are = c.put_below.ensures.slots.are ∙ ap (λ (s : SheetView). set (slots_in s.count s.bytes) c.self.inside.count (Slot.Normal v)) c.self-2.view_is
          ∙ ap (λ (xs : List Slot). set xs c.self.inside.count (Slot.Normal v)) grown ∙ set_at before Slot.Unused [] (Slot.Normal v) c.self.inside.count long;
      change = c.put_below.ensures.slots.change ∙ ap (λ (s : SheetView). change_in s.bytes) c.self-2.view_is ∙ c.grow.ensures.slots.change ∙ c.make_way.ensures.slots.change;
      flags = c.put_below.ensures.slots.flags ∙ ap (λ (s : SheetView). flags_in s.bytes) c.self-2.view_is ∙ c.grow.ensures.slots.flags ∙ c.make_way.ensures.slots.flags;
    }

pub returns-clause-places : goal.returns-clause-places
returns-clause-places c =
    let old = c.args.self.now in
    let way = c.make_way.new.self in
    let index = c.self.inside.count in
    let new : SheetView = record { bytes = c.put_below.new.bytes; count = c.self-2.inside.count } in
    let counted : index ≡ way.count = ap (λ (s : SheetView). s.count) c.self.view_is in
    let again : new.count ≡ c.grow.new.self.count = ap (λ (s : SheetView). s.count) c.self-2.view_is in
    let same : index ≡ old.count = counted ∙ c.make_way.ensures.count in
    let grown : c.grow.new.self.count ≡ way.count + 1 = c.grow.ensures.count in
    let others : (i : ℕ) → i < way.count → i ≢ index → pointer_in new.bytes i ≡ pointer_in way.bytes i = λ i within other.
    c.put_below.ensures.places i (omega arith) other ∙ ap (λ (s : SheetView). pointer_in s.bytes i) c.self-2.view_is ∙ c.grow.ensures.pointers i within in
    subst (λ (n : ℕ). IsPutBelow (slots_in old.count old.bytes) (places_of old) (places_of new) (n + 1) (rounded_size_of c.args.row.now) (rounded_size_of c.args.row.now + 4)) same
    (subst (λ (n : ℕ). IsPutBelow (slots_in old.count old.bytes) (places_of old) (places_of new) (index + 1) (rounded_size_of c.args.row.now) (n + 4)) c.row_size.ensures.value
    (put-below old way new index (size_of c.args.row.now) (c.row_size.result + 4) c.make_way.ensures.count
    (record { within = omega arith; most = omega arith; others = λ i within other. let below = below_or_last i index (omega arith) other in omega arith })
    c.make_way.ensures.stays c.make_way.ensures.order c.make_way.ensures.packed c.put_below.ensures.here others
    (c.put_below.ensures.upper ∙ ap (λ (s : SheetView). upper_in s.bytes) c.self-2.view_is ∙ c.grow.ensures.upper)))
