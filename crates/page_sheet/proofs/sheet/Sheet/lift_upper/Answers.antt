use Rattle.std.proofs.Common.{◌≡◌, ◌∙◌, List, sum_by, ap, sym, subst}
use Rattle.page_sheet.specs.Sheet.{SheetView}
use Rattle.page_sheet.specs.Slots.{bytes_taken}
use Rattle.page_sheet.specs.Layout.{slots_in}
use Rattle.page_sheet.proofs.Added.{IsLifted, upper-lifted, none-taken}
use Rattle.page_sheet.specs.declared.slot.Slot.{Slot}
use Rattle.page_sheet.proofs.LyingLemmas.{lying-bare_page}
use Rattle.page_sheet.proofs.sheet.Sheet.lift_upper.Goals as goal

lifted : (c : goal.After-self-1) → IsLifted c.self.inside.bytes c.put_u16.new.bytes c.self.inside.count
lifted c =
    let nothing = subst (λ (s : SheetView). sum_by bytes_taken (slots_in s.count s.bytes) ≡ 0) (sym c.self.view_is) c.requires.none in
    upper-lifted c.self.inside.bytes c.put_u16.new.bytes c.self.inside.count c.self.invariant.0
    (λ j e h is. none-taken c.self.inside.bytes c.self.inside.count j e c.self.invariant.0 nothing h is) c.put_u16.ensures

pub invariant_of-self : goal.invariant_of-self
invariant_of-self c =
    let nothing = subst (λ (s : SheetView). sum_by bytes_taken (slots_in s.count s.bytes) ≡ 0) (sym c.self.view_is) c.requires.none in (
      (lifted c).sound,
      lying-bare_page c.put_u16.new.bytes c.self.inside.count (lifted c).sound
          (ap (λ (xs : List Slot). sum_by bytes_taken xs) (lifted c).slots.are ∙ nothing) (lifted c).upper,
    )

pub returns-clause-slots : goal.returns-clause-slots
returns-clause-slots c = rw (← c.self.view_is) (lifted c).slots

pub returns-clause-upper : goal.returns-clause-upper
returns-clause-upper c = (lifted c).upper

pub returns-clause-pointers : goal.returns-clause-pointers
returns-clause-pointers c = rw (← c.self.view_is) (λ i h. (lifted c).pointers i)
