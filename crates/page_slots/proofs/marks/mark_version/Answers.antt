use Rattle.std.proofs.Common.{◌≡◌, ◌∙◌, ◌/◌, ◌*◌, ◌<◌, ℕ, sym, ap, arith}
use Rattle.std.specs.Int.{next_multiple_of}
use Rattle.page_layout.specs.declared.pointer.Pointer.{Pointer}
use Rattle.page_layout.specs.declared.pointer.Extent.{Extent}
use Rattle.page_layout.specs.Layout.{pointer_in}
use Rattle.page_layout.specs.Sound.{IsExtent}
use Rattle.page_layout.specs.Units.{AreMarked, SomeIsMarked}
use Rattle.page_sheet.proofs.Shown.{extent-good, taken-shown}
use Rattle.page_sheet.proofs.PackLemmas.{none-taken}
use Rattle.page_sheet.proofs.Added.{rounded_even}
use Rattle.page_slots.proofs.CoverLemmas.{at-span, eighths, fresh-none, stale-some, covered-normal, covered-bare}
use Rattle.page_slots.proofs.marks.mark_version.Goals as goal

pub returns-then-mark-clause-taken : goal.returns-then-mark-clause-taken
returns-then-mark-clause-taken c =
    let bytes = c.args.bytes.now in
    let e = c.in-Normal.extent in
    let is : pointer_in bytes c.args.index ≡ Pointer.Normal e = sym c.pointer_at.ensures ∙ c.in-Normal.is in
    let good = extent-good bytes c.args.count (pointer_in bytes c.args.index) e (c.requires.good c.args.index c.requires.within) is in
    let size : c.next_multiple_of-size.result ≡ next_multiple_of e.len 8 = c.next_multiple_of-size.ensures.value ∙ ap (λ (n : ℕ). next_multiple_of n 8) c.from.ensures in
    ap (λ (n : ℕ). 8 * (n / 8)) size ∙ eighths (next_multiple_of e.len 8) (rounded_even e.len) ∙ sym (taken-shown bytes c.args.index e c.requires.long good (sym is))

pub returns-then-mark-clause-covered : goal.returns-then-mark-clause-covered
returns-then-mark-clause-covered c =
    let bytes = c.args.bytes.now in
    let i = c.args.index in
    let e = c.in-Normal.extent in
    let is : pointer_in bytes i ≡ Pointer.Normal e = sym c.pointer_at.ensures ∙ c.in-Normal.is in
    let good = extent-good bytes c.args.count (pointer_in bytes i) e (c.requires.good i c.requires.within) is in
    let size : c.next_multiple_of-size.result ≡ next_multiple_of e.len 8 = c.next_multiple_of-size.ensures.value ∙ ap (λ (n : ℕ). next_multiple_of n 8) c.from.ensures in
    let marked = at-span (λ (a b : ℕ). AreMarked c.args.marks.now c.mark.new.marks a b) e c.from-from.result c.next_multiple_of-size.result c.from-from.ensures size c.if-mark.ensures in
    let within = c.requires.within in
    let goods : (j : ℕ) (d : Extent) → j < i → pointer_in bytes j ≡ Pointer.Normal d → IsExtent bytes d =
    λ j d h there. extent-good bytes c.args.count (pointer_in bytes j) d (c.requires.good j (omega arith)) there in
    covered-normal bytes i c.args.marks.now c.mark.new.marks e good is (fresh-none bytes i c.args.marks.now c.mark.new.marks e goods good is c.requires.covered marked) c.requires.covered marked

pub returns-else-mark-clause-covered : goal.returns-else-mark-clause-covered
returns-else-mark-clause-covered c =
    let bytes = c.args.bytes.now in
    let i = c.args.index in
    let e = c.in-Normal.extent in
    let is : pointer_in bytes i ≡ Pointer.Normal e = sym c.pointer_at.ensures ∙ c.in-Normal.is in
    let good = extent-good bytes c.args.count (pointer_in bytes i) e (c.requires.good i c.requires.within) is in
    let size : c.next_multiple_of-size.result ≡ next_multiple_of e.len 8 = c.next_multiple_of-size.ensures.value ∙ ap (λ (n : ℕ). next_multiple_of n 8) c.from.ensures in
    let before = at-span (λ (a b : ℕ). SomeIsMarked c.args.marks.now a b) e c.from-from.result c.next_multiple_of-size.result c.from-from.ensures size c.if-mark.ensures in
    stale-some bytes i c.args.marks.now e good is c.requires.covered before

pub returns-in_default : goal.returns-in_default
returns-in_default c =
    let bytes = c.args.bytes.now in
    let i = c.args.index in
    record {
      taken = sym (none-taken bytes i c.pointer_at.result c.pointer_at.ensures c.in_default.not-Normal);
      counted = omega arith;
      covered = covered-bare bytes i c.args.marks.now (λ e there. c.in_default.not-Normal e (c.pointer_at.ensures ∙ there)) c.requires.covered;
    }
