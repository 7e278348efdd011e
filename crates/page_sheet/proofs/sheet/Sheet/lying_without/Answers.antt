use Rattle.std.proofs.Common.{◌≡◌, ◌<◌, ◌∙◌, ℕ, List, sym, ap, subst}
use Rattle.page_layout.specs.declared.pointer.Pointer.{Pointer}
use Rattle.page_layout.specs.declared.pointer.Extent.{Extent}
use Rattle.page_layout.specs.Layout.{pointer_in}
use Rattle.page_sheet.specs.Sheet.{SheetView}
use Rattle.page_sheet.specs.declared.lying.Lying.{Lying}
use Rattle.page_sheet.specs.Lying.{IsCleared, IsLying}
use Rattle.page_sheet.proofs.LyingLemmas.{lying-bare, lying-without}
use Rattle.page_sheet.proofs.sheet.Sheet.lying_without.Goals as goal

pub returns-in-Normal : goal.returns-in-Normal
returns-in-Normal c =
    let a = c.self.inside.bytes in
    let count = c.self.inside.count in
    let e = c.in-Normal.extent in
    let seen : a ≡ c.args.self.now.bytes = ap (λ (s : SheetView). s.bytes) c.self.view_is in
    let within : c.args.index < count = subst (λ (n : ℕ). c.args.index < n) (ap (λ (s : SheetView). s.count) (sym c.self.view_is)) c.requires in
    let is : pointer_in a c.args.index ≡ Pointer.Normal e = ap (λ (b : List ℕ). pointer_in b c.args.index) seen ∙ sym c.pointer.ensures.value ∙ c.in-Normal.is in
    let lies : IsLying a count Lying.InOrder = subst (λ (l : Lying). IsLying a count l) c.in-InOrder.is c.self.invariant.1 in
    subst (λ (s : SheetView). (new : List ℕ) → IsCleared s.bytes new s.count c.args.index → IsLying new s.count (Lying.Without c.args.index e)) c.self.view_is
    (λ new cleared. lying-without a new count c.args.index e c.self.invariant.0 within is cleared lies)

pub returns-in_default : goal.returns-in_default
returns-in_default c =
    let a = c.self.inside.bytes in
    let count = c.self.inside.count in
    let seen : c.args.self.now.bytes ≡ a = ap (λ (s : SheetView). s.bytes) (sym c.self.view_is) in
    let none : (e : Extent) → pointer_in a c.args.index ≡ Pointer.Normal e → ⊥ = λ e there.
    c.in_default.not-Normal e (c.pointer.ensures.value ∙ ap (λ (b : List ℕ). pointer_in b c.args.index) seen ∙ there) in
    let lies : IsLying a count Lying.InOrder = subst (λ (l : Lying). IsLying a count l) c.in-InOrder.is c.self.invariant.1 in
    subst (λ (s : SheetView). (new : List ℕ) → IsCleared s.bytes new s.count c.args.index → IsLying new s.count Lying.InOrder) c.self.view_is
    (λ new cleared. lying-bare a new count c.args.index Lying.InOrder c.self.invariant.0 none cleared lies)

pub returns-in_default-pointer : goal.returns-in_default-pointer
returns-in_default-pointer c =
    let a = c.self.inside.bytes in
    let count = c.self.inside.count in
    let lying = Lying.Without c.in-Without.first c.in-Without.extent in
    let seen : c.args.self.now.bytes ≡ a = ap (λ (s : SheetView). s.bytes) (sym c.self.view_is) in
    let none : (e : Extent) → pointer_in a c.args.index ≡ Pointer.Normal e → ⊥ = λ e there.
    c.in_default-pointer.not-Normal e (c.pointer-in-Without.ensures.value ∙ ap (λ (b : List ℕ). pointer_in b c.args.index) seen ∙ there) in
    let lies : IsLying a count lying = subst (λ (l : Lying). IsLying a count l) c.in-Without.is c.self.invariant.1 in
    subst (λ (s : SheetView). (new : List ℕ) → IsCleared s.bytes new s.count c.args.index → IsLying new s.count lying) c.self.view_is
    (λ new cleared. lying-bare a new count c.args.index lying c.self.invariant.0 none cleared lies)
