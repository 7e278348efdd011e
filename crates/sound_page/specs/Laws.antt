-- What holds of every sound page and of its readers, and which page is sound at first.
use Rattle.std.specs.Prelude.{ℕ, List, []}
use Rattle.page_sheet.specs.declared.slot.Slot.{Slot}
use Rattle.commit_status.specs.Window.{Window}
use Rattle.hot_chain.specs.Chain.{has_aborted}
use Rattle.sound_page.specs.Links.{NoSharedSlots}
use Rattle.snapshot.specs.Snap.{Snap}
use Rattle.visibility.specs.Visible.{ReadsIn}
use Rattle.sound_page.specs.Sound.{SoundPage}
use Rattle.sound_page.specs.Readers.{IsPageReader, IsOpenReader}

-- a page without slots is sound
abbrev pub EmptyPageIsSound : Type 0
EmptyPageIsSound = (w : Window) → SoundPage w []

-- no slot is in two chains
abbrev pub SoundIsUnshared : Type 0
SoundIsUnshared = (w : Window) (slots : List Slot) → SoundPage w slots → NoSharedSlots (has_aborted w) slots

-- who has a snapshot and own ids reads as is asked of a reader
abbrev pub OpenReadersAreReaders : Type 0
OpenReadersAreReaders = (w : Window) (horizon : ℕ) (slots : List Slot) (s : Snap) (own : List ℕ) → IsOpenReader w horizon slots s own
    → IsPageReader w horizon slots (ReadsIn w s own)
