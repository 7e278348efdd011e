-- The laws of fates: a slot has one, and it decides what pruning takes.
use Rattle.std.specs.Prelude.{◌≡◌, ◌↔◌, ℕ, true, List, Some, None}
use Rattle.tuple_header.specs.Version.{Version}
use Rattle.page_sheet.specs.declared.slot.Slot.{Slot}
use Rattle.page_sheet.specs.Slots.{version_at}
use Rattle.commit_status.specs.Window.{Window}
use Rattle.prune.specs.Pruning.{IsPruned}
use Rattle.sound_page.specs.Sound.{SoundPage}
use Rattle.slot_fates.specs.declared.fate.VersionFate.{VersionFate}
use Rattle.slot_fates.specs.Fates.{IsVersionFate, goes}

-- on any page the version in a slot has one fate
abbrev pub FateIsOne : Type 0
FateIsOne = (w : Window) (horizon : ℕ) (slots : List Slot) (n : ℕ) (t : Version) (a b : VersionFate) → version_at slots n ≡ Some t
    → IsVersionFate w horizon slots n t.header a → IsVersionFate w horizon slots n t.header b → a ≡ b

-- of a sound page pruning takes a version exactly where its fate says so
abbrev pub FatesDecide : Type 0
FatesDecide = (w : Window) (horizon : ℕ) (slots after : List Slot) (n : ℕ) (t : Version) (fate : VersionFate) → SoundPage w slots → IsPruned w horizon slots after
    → version_at slots n ≡ Some t → IsVersionFate w horizon slots n t.header fate → (version_at after n ≡ None) ↔ (goes fate ≡ true)
