-- What is written for a page whose bytes are looked into.
use Rattle.std.specs.Prelude.{ℕ, zero, suc, ◌+◌, ◌/◌, ◌%◌, if◌then◌else◌, List, [], ◌∷◌, ◌++◌, codes, length, Option, Some, None}
use Rattle.std.specs.Fmt.{decimal}
use Rattle.tuple_header.specs.declared.version.Header.{Header}
use Rattle.page_sheet.specs.declared.slot.Slot.{Slot}
use Rattle.page_sheet.specs.declared.slot.Slot.TheVariants.{Unused, Normal, Redirect, Dead}
use Rattle.page_sheet.specs.Slots.{slot_at, room_of}
use Rattle.page_layout.specs.Faults.{word_in}
use Rattle.page_slots.specs.View.{PageView}
use Rattle.script_text.specs.Grammar.{spaced, hex_text}
use Rattle.script_text.specs.Answers.{labelled, slot_text}

-- a number of 16 bits as four hexadecimal digits, the highest first
abbrev pub hex16_text : ℕ → List ℕ
hex16_text n = hex_text (n / 256 ∷ n % 256 ∷ [])

-- where a line pointer's word says that a version begins, and how many bytes it has: 15 bits each
abbrev pub place_text : ℕ → List ℕ
place_text word = spaced (decimal (word % 32768)) ++ spaced (decimal (word / 131072))

-- the marks of a version: infomask2, infomask
abbrev pub marks_text : Header → List ℕ
marks_text header = spaced (hex16_text header.mask2) ++ spaced (hex16_text header.mask)

-- what is told of a version besides its ids and its key
abbrev pub bytes_text : ℕ → Slot → List ℕ
bytes_text word Unused = []
bytes_text word Dead = []
bytes_text word (Redirect target) = []
bytes_text word (Normal version) = place_text word ++ marks_text version.header

-- the line of the slot at an index, behind a line feed
unfoldable pub inspected_line : List ℕ → ℕ → Option Slot → List ℕ
inspected_line bytes i None = []
inspected_line bytes i (Some slot) = 10 ∷ (decimal (i + 1) ++ (slot_text slot ++ bytes_text (word_in bytes i) slot))

-- the lines of the slots up to a number
abbrev pub inspected_lines : List ℕ → ℕ → List Slot → List ℕ
inspected_lines bytes zero slots = []
inspected_lines bytes (suc n) slots = inspected_lines bytes n slots ++ inspected_line bytes n (slot_at slots (suc n))

-- a page's own line: its change number, 1 where all versions are visible to all, how many slots it has, and the largest size of a
-- version that fits
unfoldable pub inspected_head : (change visible count room : ℕ) → List ℕ
inspected_head change visible count room =
    labelled (codes "page change") change ++ (labelled (codes " visible") visible ++ (labelled (codes " slots") count ++ labelled (codes " room") room))

unfoldable pub page_line : PageView → List ℕ
page_line page = inspected_head page.change (if page.flag then 1 else 0) (length page.slots) (room_of page.slots)

-- a page's line, and those of its slots; where versions stand is read in its bytes
abbrev pub inspected_text : PageView → List ℕ → List ℕ
inspected_text page bytes = page_line page ++ inspected_lines bytes (length page.slots) page.slots
