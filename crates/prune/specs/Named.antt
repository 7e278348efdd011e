-- What a plan names, as an array by numbers of slots.
use Rattle.std.specs.Prelude.{◌≡◌, ℕ, ◌<◌, ◌≤◌, true, List, length, Option, Some, None, IsSome, slice_index, slice_index_or}
use Rattle.page_sheet.specs.declared.slot.Slot.{Slot}
use Rattle.page_sheet.specs.Slots.{header_at}
use Rattle.tuple_header.specs.declared.version.Header.{Header}
use Rattle.tuple_header.specs.Marks.{is_heap_only}
use Rattle.commit_status.specs.Window.{Window}
use Rattle.prune_actions.specs.declared.Action.{Action}
use Rattle.prune.specs.declared.marks.PruneVerdict.{PruneVerdict}
use Rattle.prune.specs.declared.marks.PruneVerdict.TheVariants.{Orphan}
use Rattle.prune.specs.Pruning.{orphan_action}
use Rattle.prune.specs.Marks.{mark_at}
use Rattle.prune_actions.specs.declared.Action.TheVariants as action

abbrev pub named_at : List (Option Action) → ℕ → Option Action
named_at named n = slice_index_or named n None

-- the first so many of these slots are named, and the next one isn't
pub record IsNamedPrefix (named : List (Option Action)) (numbers : List ℕ) (prefix : ℕ) : Type 0 where
  pub within : prefix ≤ length numbers
  pub all : (i : ℕ) → i < prefix → IsSome (named_at named (slice_index numbers i))
  pub next : prefix < length numbers → named_at named (slice_index numbers prefix) ≡ None

-- where it holds a heap-only version, the slot becomes unused
abbrev pub BecomesUnused : List Slot → List (Option Action) → ℕ → Type 0
BecomesUnused slots named n = (h : Header) → header_at slots n ≡ Some h → is_heap_only h ≡ true → named_at named n ≡ Some action.Unuse

-- where the slot's mark is Orphan and it is named, what is done to it is what pruning does
abbrev pub IsLooseRight : Window → List Slot → List PruneVerdict → List (Option Action) → ℕ → Type 0
IsLooseRight w slots marks named n = mark_at marks n ≡ Orphan → (a : Action) → named_at named n ≡ Some a → orphan_action w slots n ≡ Some a
