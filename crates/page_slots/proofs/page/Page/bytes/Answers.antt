use Rattle.std.proofs.Common.{◌≡◌, ◌∙◌, sym, ap, subst, None, ℕ, List}
use Rattle.page_slots.specs.View.{PageView}
use Rattle.page_sheet.specs.Layout.{slots_in}
use Rattle.page_sheet.specs.Placing.{places_in}
use Rattle.page_layout.specs.Layout.{slot_count_in, change_in, is_all_visible_in}
use Rattle.page_slots.specs.Reading.{page_of}
use Rattle.page_slots.specs.Faults.{AreSoundRedirects, page_fault}
use Rattle.page_slots.proofs.PlainLemmas.{accepted}
use Rattle.page_slots.proofs.page.Page.bytes.Goals as goal

counted : (bytes : List ℕ) (count : ℕ) → slot_count_in bytes ≡ count
    → page_of bytes ≡ record { slots = slots_in count bytes; change = change_in bytes; flag = is_all_visible_in bytes; places = places_in count bytes }
counted bytes count e =
    ap (λ (n : ℕ). let p : PageView = record { slots = slots_in n bytes; change = change_in bytes; flag = is_all_visible_in bytes; places = places_in n bytes } in p) e

pub returns-clause-page : goal.returns-clause-page
returns-clause-page c =
    ap page_of c.bytes.ensures.bytes ∙ counted c.self.inside.sheet.bytes c.self.inside.sheet.count c.bytes.ensures.count ∙ c.self.view_is

pub returns-clause-accepted : goal.returns-clause-accepted
returns-clause-accepted c = λ redirects.
    subst (λ (bytes : List ℕ). page_fault bytes ≡ None) (sym c.bytes.ensures.bytes)
    (accepted c.self.inside.sheet.bytes c.self.inside.sheet.count c.bytes.ensures.sound
    (subst (λ (p : PageView). AreSoundRedirects p.slots) (sym c.self.view_is) redirects))
