-- The fault of a redirect, by its tests.
use Rattle.std.proofs.Common.{◌≡◌, ℕ, ◌-◌, ◌+◌, not, Bool, if◌then◌else◌, List, Option, Some, None, sym, ap, ◌∙◌}
use Rattle.page_layout.specs.declared.faults.PageFault.{PageFault}
use Rattle.page_layout.specs.declared.faults.PageFault.TheVariants.{BadRedirect}
use Rattle.page_layout.specs.declared.pointer.Pointer.{Pointer}
use Rattle.page_layout.specs.Layout.{pointer_in}
use Rattle.page_sheet.specs.Layout.{slot_in}
use Rattle.page_slots.specs.Faults.{holds_heap_only, leads_astray, redirect_fault}

pub redirect-tested : (bytes : List ℕ) (i : ℕ) (a : Bool) → leads_astray bytes (pointer_in bytes i) ≡ a → (if a then Some (BadRedirect (i + 1)) else None) ≡ redirect_fault bytes i
unfolding redirect_fault
redirect-tested bytes i a is = ap (λ (x : Bool). let o : Option PageFault = if x then Some (BadRedirect (i + 1)) else None in o) (sym is)

pub astray-read : (bytes : List ℕ) (i target at : ℕ) (holds : Bool) → pointer_in bytes i ≡ Pointer.Redirect target → at ≡ target - 1 → holds ≡ holds_heap_only (slot_in bytes at)
    → leads_astray bytes (pointer_in bytes i) ≡ not holds
astray-read bytes i target at holds is there read =
    ap (leads_astray bytes) is ∙ sym (ap (λ (n : ℕ). not (holds_heap_only (slot_in bytes n))) there) ∙ ap not (sym read)
