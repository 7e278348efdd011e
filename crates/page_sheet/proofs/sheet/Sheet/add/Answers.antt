use Rattle.std.proofs.Common.{◌∙◌, ◌+◌, ◌<◌, ◌≢◌, ◌≡◌, ℕ, ap, subst, arith}
use Rattle.tuple_header.specs.Version.{size_of, rounded_size_of}
use Rattle.page_layout.specs.Layout.{pointer_in, upper_in}
use Rattle.page_sheet.specs.Sheet.{SheetView}
use Rattle.page_sheet.specs.Layout.{slots_in}
use Rattle.page_sheet.specs.Placing.{places_of, IsPutBelow}
use Rattle.page_sheet.proofs.PlacingLemmas.{put-below}
use Rattle.page_sheet.proofs.sheet.Sheet.add.Goals as goal

pub returns-clause-places : goal.returns-clause-places
returns-clause-places c =
    let old = c.args.self.now in
    let way = c.make_way.new.self in
    let index = c.args.index in
    let new : SheetView = record { bytes = c.put_below.new.bytes; count = c.self.inside.count } in
    let counted : c.self.inside.count ≡ way.count = ap (λ (s : SheetView). s.count) c.self.view_is in
    let same : way.count ≡ old.count = c.make_way.ensures.count in
    let there = c.requires.there in
    let others : (i : ℕ) → i < way.count → i ≢ index → pointer_in new.bytes i ≡ pointer_in way.bytes i = λ i within other.
    c.put_below.ensures.places i (omega arith) other ∙ ap (λ (s : SheetView). pointer_in s.bytes i) c.self.view_is in
    subst (λ (n : ℕ). IsPutBelow (slots_in old.count old.bytes) (places_of old) (places_of new) (index + 1) (rounded_size_of c.args.row.now) n) c.row_size.ensures.value
    (put-below old way new index (size_of c.args.row.now) c.row_size.result same
    (record { within = omega arith; most = omega arith; others = λ i within other. omega arith })
    c.make_way.ensures.stays c.make_way.ensures.order c.make_way.ensures.packed c.put_below.ensures.here others
    (c.put_below.ensures.upper ∙ ap (λ (s : SheetView). upper_in s.bytes) c.self.view_is))
