-- Bytes that are those of a page, or are not.
use Rattle.std.proofs.Common.{◌≡◌, ℕ, ◌<◌, List, length, refl, arith, Option, None, Some, Ok, false}
use Rattle.std.specs.Bool.{◌==◌}
use Rattle.std.proofs.lemmas.Bool.Decides.{nat_tests}
use Rattle.page_slots.specs.View.{PageView}
use Rattle.page_layout.specs.Faults.{frame_fault}
use Rattle.page_slots.specs.Faults.{page_fault, unless_fault}
use Rattle.page_layout.specs.declared.faults.PageFault.{PageFault}
use Rattle.page_layout.specs.declared.faults.PageFault.TheVariants.{Length}
use Rattle.page_layout.proofs.FirstLemmas.{or-some, both-none}
use Rattle.page_layout.proofs.FaultLemmas.{framed-from_none}

-- How long they are.

frame_long : (bytes : List ℕ) → 8192 < length bytes → frame_fault bytes ≡ Some Length
unfolding frame_fault
frame_long bytes long = let other : (length bytes == 8192) ≡ false = grind (arith, nat_tests) in rw other refl

pub long_fault : (bytes : List ℕ) → 8192 < length bytes → page_fault bytes ≡ Some Length
unfolding page_fault
long_fault bytes long = or-some (frame_fault bytes) _ Length (frame_long bytes long)

pub page_length : (bytes : List ℕ) → page_fault bytes ≡ None → length bytes ≡ 8192
unfolding page_fault
page_length bytes none = (framed-from_none bytes (both-none (frame_fault bytes) _ none).0).long

-- What was checked.

pub ok_page : (p q : PageView) (o : Option PageFault) → Ok q ≡ unless_fault p o → (o ≡ None) × (q ≡ p)
ok_page p q None e = (refl, cc)
ok_page p q (Some fault) e = absurd (cc)
