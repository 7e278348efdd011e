use Rattle.std.proofs.Common.{◌≡◌, ◌≤◌, ◌<◌, ◌+◌, ◌*◌, sym, ap, subst, ℕ, List, arith}
use Rattle.page_sheet.specs.Sheet.{SheetView}
use Rattle.page_layout.specs.Layout.{upper_in}
use Rattle.page_sheet.proofs.Grown.{IsGrown, grown}
use Rattle.page_sheet.proofs.LyingLemmas.{lying-grown}
use Rattle.page_sheet.proofs.sheet.Sheet.grow.Goals as goal

whole : (c : goal.After-put_u16) → IsGrown c.self.inside.bytes c.put_u16.new.bytes c.self.inside.count
whole c =
    let seen : c.args.self.now.bytes ≡ c.self.inside.bytes = ap (λ (s : SheetView). s.bytes) (sym c.self.view_is) in
    let counted : c.args.self.now.count ≡ c.self.inside.count = ap (λ (s : SheetView). s.count) (sym c.self.view_is) in
    let room = subst (λ (n : ℕ). 24 + 4 * (n + 1) ≤ upper_in c.self.inside.bytes) counted (subst (λ (b : List ℕ). 24 + 4 * (c.args.self.now.count + 1) ≤ upper_in b) seen c.requires.room) in
    grown c.self.inside.bytes c.put_pointer.new.bytes c.put_u16.new.bytes c.self.inside.count c.self.invariant.0
    (subst (λ (n : ℕ). n < 291) counted c.requires.few) (omega arith)
    c.put_pointer.ensures c.put_u16.ensures

pub invariant_of-self : goal.invariant_of-self
invariant_of-self c =
    let done = whole c in (
      done.sound,
      lying-grown c.self.inside.bytes c.put_u16.new.bytes c.self.inside.count c.self.inside.lying c.self.invariant.0 done.sound done.upper done.pointers done.last
          c.self.invariant.1,
    )

pub returns-clause-slots : goal.returns-clause-slots
returns-clause-slots c = rw (← c.self.view_is) (whole c).slots

pub returns-clause-upper : goal.returns-clause-upper
returns-clause-upper c = rw (← c.self.view_is) (whole c).upper

pub returns-clause-pointers : goal.returns-clause-pointers
returns-clause-pointers c = rw (← c.self.view_is) (whole c).pointers

pub returns-clause-last : goal.returns-clause-last
returns-clause-last c = rw (← c.self.view_is) (whole c).last
