use Rattle.std.proofs.Common.{◌≡◌, ◌∙◌, ◌+◌, ◌<◌, ◌≤◌, nat_eq, false, sym, subst, arith}
use Rattle.std.proofs.lemmas.Bool.{leb-true, false_from_ne_true}
use Rattle.page_layout.specs.Sound.{IsPointer}
use Rattle.page_sheet.specs.Layout.{slot_in}
use Rattle.page_sheet.specs.Sheet.{SheetView}
use Rattle.page_sheet.specs.Slots.{redirects_to}
use Rattle.page_sheet.proofs.RedirectCounts.{by-word, not-beyond}
use Rattle.page_sheet.proofs.sheet.Sheet.redirects_to.Goals as goal

pub returns-then-from-self : goal.returns-then-from-self
returns-then-from-self c =
    let within : c.args.index < c.self.inside.count = subst (λ (s : SheetView). c.args.index < s.count) (sym c.self.view_is) c.requires in
    let small : c.args.number < 32768 = omega (arith, c.if-from-self.true, c.from.ensures, c.self.invariant.0.few) in
    let same = by-word c.self.inside.bytes c.args.index c.args.number c.u32_at.result c.u32_at.ensures (c.self.invariant.0.plain c.args.index within) small in
    subst (λ (s : SheetView). nat_eq c.u32_at.result (c.from-then-from-self.result + 65536) ≡ redirects_to c.args.number (slot_in s.bytes c.args.index)) c.self.view_is
    (subst (λ n. nat_eq c.u32_at.result (n + 65536) ≡ redirects_to c.args.number (slot_in c.self.inside.bytes c.args.index)) (sym c.from-then-from-self.ensures) same)

pub returns-else-from-self : goal.returns-else-from-self
returns-else-from-self c =
    let within : c.args.index < c.self.inside.count = subst (λ (s : SheetView). c.args.index < s.count) (sym c.self.view_is) c.requires in
    let beyond : c.self.inside.count < c.args.number = omega (arith, c.if-from-self.false, c.from.ensures) in
    let none = not-beyond c.self.inside.bytes c.args.index c.args.number c.self.inside.count
    (λ is. let there = subst (IsPointer c.self.inside.bytes c.self.inside.count) is (c.self.invariant.0.pointers c.args.index within) in there.1) beyond in
    false_from_ne_true (lib.Dec.leb c.from.result c.self.inside.count) (λ t. let le = leb-true c.from.result c.self.inside.count t in omega (arith, le, beyond, c.from.ensures))
    ∙ sym (subst (λ (s : SheetView). redirects_to c.args.number (slot_in s.bytes c.args.index) ≡ false) c.self.view_is none)
