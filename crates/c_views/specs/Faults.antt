-- What is wrong with bytes that are to be a page, as C reads it.
use Rattle.std.specs.Prelude.{ℕ, Option, Some, None}
use Rattle.page_layout.specs.declared.faults.PageFault.{PageFault}
use Rattle.page_layout.specs.declared.faults.PageFault.TheVariants.{Length, Header, Bounds, BadPointer, BadTuple, BadRedirect, Overlap}

-- the number of a fault
abbrev pub number_of_page_fault : PageFault → ℕ
number_of_page_fault Length = 1
number_of_page_fault Header = 2
number_of_page_fault Bounds = 3
number_of_page_fault (BadPointer slot) = 4
number_of_page_fault (BadTuple slot) = 5
number_of_page_fault (BadRedirect slot) = 6
number_of_page_fault (Overlap slot) = 7

-- the slot that it names, or 0
abbrev pub slot_of_page_fault : PageFault → ℕ
slot_of_page_fault Length = 0
slot_of_page_fault Header = 0
slot_of_page_fault Bounds = 0
slot_of_page_fault (BadPointer slot) = slot
slot_of_page_fault (BadTuple slot) = slot
slot_of_page_fault (BadRedirect slot) = slot
slot_of_page_fault (Overlap slot) = slot

-- what a check finds; 0 is nothing
abbrev pub number_of_finding : Option PageFault → ℕ
number_of_finding None = 0
number_of_finding (Some fault) = number_of_page_fault fault

abbrev pub slot_of_finding : Option PageFault → ℕ
slot_of_finding None = 0
slot_of_finding (Some fault) = slot_of_page_fault fault
