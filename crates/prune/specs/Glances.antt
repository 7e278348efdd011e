-- What a glance at a slot tells.
use Rattle.std.specs.Prelude.{◌≡◌, ℕ, ◌<◌, Bool, false, List, slice_index_or, Option, Some, None, Contains}
use Rattle.page_sheet.specs.declared.slot.Slot.{Slot}
use Rattle.page_sheet.specs.Slots.{version_at, header_at}
use Rattle.tuple_header.specs.Version.{Version}
use Rattle.tuple_header.specs.declared.version.Header.{Header}
use Rattle.tuple_header.specs.declared.version.TheConstants.{MOST_SLOT_NUMBERS}
use Rattle.hot_chain.specs.Chain.{first_of}
use Rattle.commit_status.specs.Window.{Window, IsAborted}
use Rattle.prune.specs.declared.glance.Glance.{Glance}
use Rattle.prune.specs.declared.glance.Glance.TheVariants.{Doubtful, Stays, PlainVersion}

-- nobody deleted the version, and its inserter was not aborted
abbrev pub IsPlain : Window → Header → Type 0
IsPlain w h = (h.xmax.0 ≡ 0) × ¬ IsAborted w h.xmin.0

-- so it is of the version in the slot, if there is one
abbrev pub IsPlainAt : Window → List Slot → ℕ → Type 0
IsPlainAt w slots n = (h : Header) → header_at slots n ≡ Some h → IsPlain w h

-- and of the first version of the slot's chain
abbrev pub StartsPlainly : Window → List Slot → ℕ → Type 0
StartsPlainly w slots n = (start : ℕ) → first_of slots n ≡ Some start → IsPlainAt w slots start

abbrev pub is_noted : List Bool → ℕ → Bool
is_noted noted n = slice_index_or noted n false

-- each slot over this one is so, or is noted
abbrev pub ArePlainOrNotedOver : Window → List Slot → List Bool → ℕ → Type 0
ArePlainOrNotedOver w slots noted low = (n : ℕ) → low < n → is_noted noted n ≡ false → IsPlainAt w slots n

-- the slot where the chain of this one begins is not noted, unless no slot may have its number
abbrev pub StartsUnnoted : List Slot → List Bool → ℕ → Type 0
StartsUnnoted slots noted n = (start : ℕ) → first_of slots n ≡ Some start → start < MOST_SLOT_NUMBERS → is_noted noted start ≡ false

-- each version is plain but in these slots
abbrev pub ArePlainBut : Window → List Slot → List ℕ → Type 0
ArePlainBut w slots numbers = (n : ℕ) (t : Version) → version_at slots n ≡ Some t → ¬ Contains numbers n → IsPlain w t.header

-- where it is known in which slots versions may be dead, now or later, all others are plain
abbrev pub AreDoubts : Window → List Slot → Option (List ℕ) → Type 0
AreDoubts w slots None = Unit {0}
AreDoubts w slots (Some numbers) = ArePlainBut w slots numbers

-- the glance is right
abbrev pub IsGlance : Window → List Slot → ℕ → Glance → Type 0
IsGlance w slots n Doubtful = Unit {0}
IsGlance w slots n Stays = StartsPlainly w slots n
IsGlance w slots n (PlainVersion x) = StartsPlainly w slots n × ¬ IsAborted w x.0
