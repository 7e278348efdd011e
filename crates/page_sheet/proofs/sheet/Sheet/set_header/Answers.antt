use Rattle.std.proofs.Common.{◌≡◌, ◌<◌, sym, ap, ◌∙◌, subst, List, ℕ, refl}
use Rattle.page_sheet.specs.Sheet.{SheetView}
use Rattle.page_layout.specs.declared.pointer.Pointer.TheVariants as pointer
use Rattle.page_layout.specs.Layout.{pointer_in}
use Rattle.page_sheet.proofs.HeaderSet.{IsReheaded, header-set, header-none}
use Rattle.page_sheet.proofs.PlacingLemmas.{places-kept}
use Rattle.page_sheet.proofs.LyingLemmas.{alike-same, lying-kept}
use Rattle.page_sheet.proofs.sheet.Sheet.set_header.Goals as goal

reheaded : (c : goal.After-write_header) → IsReheaded c.self.inside.bytes c.write_header.new.bytes c.self.inside.count c.args.index c.args.header
reheaded c =
    let seen : c.args.self.now.bytes ≡ c.self.inside.bytes = ap (λ (s : SheetView). s.bytes) (sym c.self.view_is) in
    let counted : c.args.self.now.count ≡ c.self.inside.count = ap (λ (s : SheetView). s.count) (sym c.self.view_is) in
    let is : pointer_in c.self.inside.bytes c.args.index ≡ pointer.Normal c.in-Normal.extent = ap (λ (b : List ℕ). pointer_in b c.args.index) (sym seen) ∙ sym c.pointer.ensures.value ∙ c.in-Normal.is in
    header-set c.self.inside.bytes c.write_header.new.bytes c.self.inside.count c.args.index c.in-Normal.extent c.args.header c.self.invariant.0
    (subst (λ (n : ℕ). c.args.index < n) counted c.requires.there) is c.write_header.ensures.fits c.requires.faultless c.write_header.ensures.bytes

pub invariant_of-self : goal.invariant_of-self
invariant_of-self c =
    let a = c.self.inside.bytes in
    let b = c.write_header.new.bytes in
    let done = reheaded c in (
      done.sound,
      lying-kept a b c.self.inside.count c.self.inside.lying c.self.invariant.0 done.sound done.upper
          (alike-same a b c.self.inside.count done.pointers) c.self.invariant.1,
    )

pub returns-in-Normal-clause-slots : goal.returns-in-Normal-clause-slots
returns-in-Normal-clause-slots c = rw (← c.self.view_is) (reheaded c).slots

pub returns-in-Normal-clause-places : goal.returns-in-Normal-clause-places
returns-in-Normal-clause-places c =
    let done = reheaded c in
    rw (← c.self.view_is) (places-kept c.self.inside.count c.self.inside.bytes c.write_header.new.bytes done.upper done.pointers)

pub returns-in_default : goal.returns-in_default
returns-in_default c = record {
  count = refl;
  places = refl;
  slots = record {
    are = header-none c.args.self.now.bytes c.args.self.now.count c.args.index c.pointer.result c.args.header c.requires.there c.pointer.ensures.value c.in_default.not-Normal;
    change = refl;
    flags = refl;
  };
}
