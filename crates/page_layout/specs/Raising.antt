-- Versions that lie one behind the other are moved up at once, and their pointers follow.
use Rattle.std.specs.Prelude.{◌≡◌, ℕ, ◌+◌, ◌*◌, ◌/◌, ◌%◌, ◌<◌, ◌≤◌, ◌⊎◌, List, length, slice_index}
use Rattle.page_layout.specs.declared.pointer.Pointer.{Pointer}
use Rattle.page_layout.specs.declared.sizes.TheConstants.{PAGE_HEADER_BYTES}
use Rattle.page_layout.specs.Layout.{IsPointed, pointer_in}
use Rattle.page_layout.specs.Sound.{HasPlainWord}

-- where the version of a pointer's word ends, rounded up to 8 bytes, and 32768
abbrev pub end_in : ℕ → ℕ
end_in word = word % 131072 + (word + 7 * 131072) / (8 * 131072) * 8

-- a pointer to the version that lies so much higher
abbrev pub moved_up : ℕ → Pointer → Pointer
moved_up by Pointer.Unused = Pointer.Unused
moved_up by (Pointer.Normal e) = Pointer.Normal (record { from = e.from + by; len = e.len })
moved_up by (Pointer.Redirect target) = Pointer.Redirect target
moved_up by Pointer.Dead = Pointer.Dead

-- the pointers of the slots from one on to before another may lead so much higher
pub record AreRaisable (bytes : List ℕ) (first index by : ℕ) : Type 0 where
  pub plain : (j : ℕ) → first ≤ j → j < index → HasPlainWord bytes j
  pub fits : (j : ℕ) → first ≤ j → j < index → IsPointed (moved_up by (pointer_in bytes j))

-- the pointers of the slots from one on to before another lead so much higher, and all other bytes stay
pub record IsRaised (old new : List ℕ) (first index by : ℕ) : Type 0 where
  pub long : length new ≡ length old
  pub same : (k : ℕ) → (k < PAGE_HEADER_BYTES + 4 * first) ⊎ (PAGE_HEADER_BYTES + 4 * index ≤ k) → slice_index new k ≡ slice_index old k
  pub raised : (j : ℕ) → first ≤ j → j < index → pointer_in new j ≡ moved_up by (pointer_in old j)
  pub plain : (j : ℕ) → first ≤ j → j < index → HasPlainWord new j
