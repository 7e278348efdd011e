use Rattle.std.proofs.Common.{◌≡◌, ◌∙◌, ◌+◌, ◌<◌, inl, inr, sym, subst, arith}
use Rattle.std.proofs.lemmas.Bool.{cases_lt, ltb-true, lt-ltb}
use Rattle.page_layout.specs.Sound.{IsPointer}
use Rattle.page_sheet.specs.Sheet.{SheetView}
use Rattle.page_sheet.specs.Layout.{SomeRedirects}
use Rattle.page_sheet.proofs.RedirectCounts.{IsCounted, counted-start, counted-one, counted-none, none-beyond}
use Rattle.page_sheet.proofs.sheet.Sheet.is_redirected.Goals as goal
use Rattle.page_sheet.proofs.sheet.Sheet.is_redirected.Goals.{then-u32_at-sought, else-u32_at-sought}

pub returns-then-from-self : goal.returns-then-from-self
returns-then-from-self c =
    let none = none-beyond c.self.inside.bytes c.args.number c.self.inside.count
    (λ i lt is. let there = subst (IsPointer c.self.inside.bytes c.self.inside.count) is (c.self.invariant.0.pointers i lt) in there.1)
    (omega (arith, c.from.ensures, c.if-from-self.true)) in
    (λ t. absurd (cc t), λ some. absurd (none (subst (λ (s : SheetView). SomeRedirects s.bytes s.count c.args.number) (sym c.self.view_is) some)))

pub loop-index-init : goal.loop-index-init
loop-index-init c = (counted-start c.self.inside.bytes c.args.number, omega (arith, c.from-sought.ensures))

pub overflow_add-found : goal.overflow_add-found
overflow_add-found c = omega (arith, c.loop-index.invariant.0.few, c.loop-index-test.true, c.self.invariant.0.few)

pub loop-index-preserved : goal.loop-index-preserved
loop-index-preserved c = elim c.if-u32_at-sought.branch [
  | then-u32_at-sought w ↦ (
    subst (IsCounted c.self.inside.bytes c.args.number (c.loop-index.index + 1)) (sym w.found-is)
        (counted-one c.self.inside.bytes c.args.number c.loop-index.index c.loop-index.found c.u32_at.result c.u32_at.ensures
        (w.if-u32_at-sought.true ∙ c.loop-index.invariant.1) (omega (arith, c.if-from-self.false, c.from.ensures, c.self.invariant.0.few)) c.loop-index.invariant.0),
    c.loop-index.invariant.1,
  )
  | else-u32_at-sought w ↦ (
    subst (IsCounted c.self.inside.bytes c.args.number (c.loop-index.index + 1)) (sym w.found-is)
        (counted-none c.self.inside.bytes c.args.number c.loop-index.index c.loop-index.found c.u32_at.result c.u32_at.ensures
        (λ same. w.if-u32_at-sought.false (same ∙ sym c.loop-index.invariant.1)) (c.self.invariant.0.plain c.loop-index.index c.loop-index-test.true) c.loop-index.invariant.0),
    c.loop-index.invariant.1,
  )
]

pub returns : goal.returns
returns c =
    let all : c.loop-index.index ≡ c.self.inside.count = omega (arith, c.loop-index-test.false, c.loop-index.auto.index-end) in
    let so_far = c.loop-index.invariant.0 in
    let there : 0 < c.loop-index.found → SomeRedirects c.args.self.now.bytes c.args.self.now.count c.args.number =
    λ lt. subst (λ (s : SheetView). SomeRedirects s.bytes s.count c.args.number) c.self.view_is (subst (λ n. SomeRedirects c.self.inside.bytes n c.args.number) all (so_far.some lt)) in
    let found : SomeRedirects c.args.self.now.bytes c.args.self.now.count c.args.number → 0 < c.loop-index.found =
    λ some.
    let here : SomeRedirects c.self.inside.bytes c.self.inside.count c.args.number = subst (λ (s : SheetView). SomeRedirects s.bytes s.count c.args.number) (sym c.self.view_is) some in
    elim (cases_lt 0 c.loop-index.found) [
      | inl lt ↦ lt
      | inr le ↦ absurd (so_far.none (omega (arith, le)) here.index (omega (arith, here.within, all)) here.is)
    ] in
    (λ t. there (ltb-true 0 c.loop-index.found t), λ some. lt-ltb 0 c.loop-index.found (found some))
