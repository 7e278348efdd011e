-- A sound page: what the engine's steps keep, and pruning rests on.
use Rattle.std.specs.Prelude.{◌≡◌, ◌≢◌, ◌⊎◌, ◌≤◌, ℕ, true, List, length, Option, Some, None, if◌then◌else◌}
use Rattle.page_sheet.specs.declared.slot.Slot.{Slot}
use Rattle.page_sheet.specs.declared.slot.Slot.TheVariants.{Normal, Redirect, Dead}
use Rattle.page_sheet.specs.Slots.{slot_at, version_at}
use Rattle.tuple_header.specs.Version.{Version}
use Rattle.tuple_header.specs.Marks.{is_heap_only}
use Rattle.commit_status.specs.Window.{Window, IsCommitted, IsAborted}
use Rattle.visibility.specs.Visible.{IsFrozen}
use Rattle.hot_chain.specs.Chain.{has_aborted, is_replaced, is_root}
use Rattle.sound_page.specs.Links.{link, Reaches}
use Rattle.tuple_header.specs.declared.version.TheConstants.{MOST_SLOTS}

-- where the chain of a root or a redirect begins
abbrev pub chain_start_in : ℕ → Option Slot → Option ℕ
chain_start_in n (Some (Normal t)) = if is_heap_only t.header then None else Some n
chain_start_in n (Some (Redirect k)) = Some k
chain_start_in n slot = None

abbrev pub chain_start_of : List Slot → ℕ → Option ℕ
chain_start_of slots n = chain_start_in n (slot_at slots n)

-- a slot in the chain of a root or a redirect
pub record IsIn (w : Window) (slots : List Slot) (root n : ℕ) : Type 0 where
  pub entry : ℕ
  pub leads : chain_start_of slots root ≡ Some entry
  pub later : Reaches (link w slots) entry n

-- a heap-only version, made for good
pub record IsTarget (w : Window) (slots : List Slot) (k : ℕ) : Type 0 where
  pub version : Version
  pub there : version_at slots k ≡ Some version
  pub heap_only : is_heap_only version.header ≡ true
  pub made : IsFrozen version.header ⊎ IsCommitted w version.header.xmin.0

pub record SomeRoot (w : Window) (slots : List Slot) (n : ℕ) : Type 0 where
  pub root : ℕ
  pub leads : IsIn w slots root n

pub record SomeNext (w : Window) (slots : List Slot) (n : ℕ) : Type 0 where
  pub place : ℕ
  pub next : link w slots n ≡ Some place

pub record SoundPage (w : Window) (slots : List Slot) : Type 0 where
  pub few : length slots ≤ MOST_SLOTS
  -- a committed deleter deleted what was made
  pub made : (n : ℕ) (t : Version) → version_at slots n ≡ Some t → IsCommitted w t.header.xmax.0 → IsFrozen t.header ⊎ IsCommitted w t.header.xmin.0
  -- what was never made has no deleter that counts
  pub undone : (n : ℕ) (t : Version) → version_at slots n ≡ Some t → ¬ IsFrozen t.header → IsAborted w t.header.xmin.0
      → t.header.xmax.0 ≢ 0 → IsAborted w t.header.xmax.0
  -- no link leads to a frozen version
  pub unfrozen : (n k : ℕ) (u : Version) → link w slots n ≡ Some k → version_at slots k ≡ Some u → ¬ IsFrozen u.header
  -- a link that counts is whole
  pub whole : (n : ℕ) (t : Version) → version_at slots n ≡ Some t → is_replaced (has_aborted w) t.header ≡ true → SomeNext w slots n
  -- a chain does not come back
  pub ends : (n k : ℕ) → link w slots n ≡ Some k → ¬ Reaches (link w slots) k n
  pub redirects : (n k : ℕ) → slot_at slots n ≡ Some (Redirect k) → IsTarget w slots k
  -- a heap-only version is in one chain, unless its inserter is aborted
  pub owned : (n : ℕ) (t : Version) → version_at slots n ≡ Some t → is_heap_only t.header ≡ true
      → (¬ IsFrozen t.header × IsAborted w t.header.xmin.0) ⊎ SomeRoot w slots n
  pub alone : (a b n : ℕ) → IsIn w slots a n → IsIn w slots b n → a ≡ b

-- what an index entry leads to stays, or becomes a redirect or dead
abbrev pub lead : Option ℕ → Slot
lead None = Dead
lead (Some k) = Redirect k

abbrev pub KeepsRoots : List Slot → List Slot → Type 0
KeepsRoots slots after = (n : ℕ) → is_root slots n ≡ true → (slot_at after n ≡ slot_at slots n) ⊎ ((kept : Option ℕ) × (slot_at after n ≡ Some (lead kept)))

-- each root or redirect stays one or dies, and its chain is what is left of it
pub record KeepsChains (w : Window) (slots after : List Slot) : Type 0 where
  pub roots : KeepsRoots slots after
  pub no_new : (root n : ℕ) → IsIn w after root n → IsIn w slots root n
  pub kept : (root n : ℕ) (t : Version) → IsIn w slots root n → version_at after n ≡ Some t → IsIn w after root n
