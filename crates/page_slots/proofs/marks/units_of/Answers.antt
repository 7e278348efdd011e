use Rattle.std.proofs.Common.{◌≡◌, ◌∙◌, ◌+◌, ◌*◌, ◌<◌, ℕ, take, sum_by, ap, subst, refl, arith}
use Rattle.std.proofs.lemmas.List.{take_all}
use Rattle.page_layout.specs.declared.faults.PageFault.TheVariants.{Overlap}
use Rattle.page_layout.specs.declared.pointer.Pointer.{Pointer}
use Rattle.page_layout.specs.declared.pointer.Extent.{Extent}
use Rattle.page_sheet.specs.Slots.{bytes_taken}
use Rattle.page_layout.specs.Layout.{pointer_in}
use Rattle.page_sheet.specs.Layout.{slot_in, slots_in}
use Rattle.page_layout.specs.Sound.{IsExtent}
use Rattle.page_slots.specs.Faults.{overlap_fault}
use Rattle.page_slots.specs.Marking.{IsCovered}
use Rattle.page_sheet.proofs.Shown.{extent-good}
use Rattle.page_sheet.proofs.Sounds.{length-slots_in}
use Rattle.page_sheet.proofs.PackLemmas.{taken-more}
use Rattle.page_layout.proofs.FirstLemmas.{first-found}
use Rattle.page_slots.proofs.CoverLemmas.{covered-start, apart-from_none, units-fit}
use Rattle.page_slots.proofs.marks.units_of.Goals as goal

pub loop-index-init : goal.loop-index-init
loop-index-init c = let start = covered-start c.args.bytes.now _ refl in (start.0, start.1, refl)

pub returns-in-None : goal.returns-in-None
returns-in-None c =
    first-found (overlap_fault c.args.bytes.now) c.loop-index.index c.args.count (Overlap (c.loop-index.index + 1)) c.loop-index-test.true
    c.loop-index.invariant.0.none c.in-None.ensures.covered

pub loop-index-preserved : goal.loop-index-preserved
loop-index-preserved c =
    let i = c.loop-index.index in
    let more = taken-more c.args.bytes.now c.args.count i c.loop-index-test.true in
    let taken : 8 * c.in-Some.more ≡ bytes_taken (slot_in c.args.bytes.now i) = c.in-Some.ensures.taken in
    let so_far = c.loop-index.invariant.2 in
    (c.in-Some.ensures.covered, omega (arith, c.in-Some.ensures.counted), omega arith)

pub returns : goal.returns
returns c =
    let bytes = c.args.bytes.now in
    let count = c.args.count in
    let all : c.loop-index.index ≡ count = omega arith in
    let covered = subst (λ (k : ℕ). IsCovered bytes k c.loop-index.marks) all c.loop-index.invariant.0 in
    let goods : (j : ℕ) (d : Extent) → j < count → pointer_in bytes j ≡ Pointer.Normal d → IsExtent bytes d =
    λ j d h there. extent-good bytes count (pointer_in bytes j) d (c.requires.good j h) there in
    let fit = units-fit bytes count c.loop-index.marks c.requires.upper c.requires.aligned goods covered in
    let counted = c.loop-index.invariant.1 in
    let long = length-slots_in count bytes in
    record {
      none = covered.none;
      apart = λ i j h k. apart-from_none bytes count i j covered.none h k;
      sum = c.loop-index.invariant.2 ∙ ap (λ (k : ℕ). sum_by bytes_taken (take k (slots_in count bytes))) all ∙ ap (sum_by bytes_taken) (take_all count (slots_in count bytes) (omega arith));
      fits = omega arith;
    }
