use Rattle.std.proofs.Common.{◌≡◌, ◌<◌, ◌∙◌, sym, ap, subst, ℕ}
use Rattle.page_sheet.specs.Sheet.{SheetView}
use Rattle.page_layout.specs.declared.pointer.Pointer.{Pointer}
use Rattle.page_layout.specs.declared.pointer.Extent.{Extent}
use Rattle.page_layout.specs.Layout.{pointer_in}
use Rattle.page_layout.specs.Sound.{HoldsNoVersion}
use Rattle.page_sheet.specs.Lying.{IsCleared, IsLying}
use Rattle.page_sheet.proofs.PointerSet.{IsRepointed, pointer-set, bare-pointed}
use Rattle.page_sheet.proofs.sheet.Sheet.set_pointer.Goals as goal

repointed : (c : goal.After-lying-1) → IsRepointed c.self.inside.bytes c.put_pointer.new.bytes c.self.inside.count c.args.index c.args.pointer
repointed c =
    let counted : c.args.self.now.count ≡ c.self.inside.count = ap (λ (s : SheetView). s.count) (sym c.self.view_is) in
    pointer-set c.self.inside.bytes c.put_pointer.new.bytes c.self.inside.count c.args.index c.args.pointer c.self.invariant.0
    (subst (λ (n : ℕ). c.args.index < n) counted c.requires.there) (subst (λ (n : ℕ). HoldsNoVersion n c.args.pointer) counted c.requires.bare) c.put_pointer.ensures

pub put_pointer-requires-clause-pointed : goal.put_pointer-requires-clause-pointed
put_pointer-requires-clause-pointed c =
    let counted : c.args.self.now.count ≡ c.self.inside.count = ap (λ (s : SheetView). s.count) (sym c.self.view_is) in
    bare-pointed c.self.inside.count c.args.pointer c.self.invariant.0.few (subst (λ (n : ℕ). HoldsNoVersion n c.args.pointer) counted c.requires.bare)

pub invariant_of-self : goal.invariant_of-self
invariant_of-self c =
    let b = c.put_pointer.new.bytes in
    let done = repointed c in
    let counted : c.args.self.now.count ≡ c.self.inside.count = ap (λ (s : SheetView). s.count) (sym c.self.view_is) in
    let bare : (e : Extent) → pointer_in b c.args.index ≡ Pointer.Normal e → ⊥ = λ e there.
    subst (λ (p : Pointer). HoldsNoVersion c.args.self.now.count p) (sym done.here ∙ there) c.requires.bare in
    let cleared = subst (λ (s : SheetView). IsCleared s.bytes b s.count c.args.index) c.self.view_is
    (record { sound = done.sound; upper = done.upper; others = done.others; bare = bare }) in
    (done.sound, subst (λ (n : ℕ). IsLying b n c.lying_without-lying.result) counted (c.lying_without-lying.ensures b cleared))

pub returns-clause-slots : goal.returns-clause-slots
returns-clause-slots c = rw (← c.self.view_is) (repointed c).slots

pub returns-clause-upper : goal.returns-clause-upper
returns-clause-upper c = rw (← c.self.view_is) (repointed c).upper

pub returns-clause-others : goal.returns-clause-others
returns-clause-others c = rw (← c.self.view_is) (λ i h other. (repointed c).others i other)
