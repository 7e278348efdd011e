-- Sound entries: what an index promises of the chains of versions that it leads to. (README.HOT: there is one entry for a
-- chain, at its root, and all versions of the chain have the same indexed values. The entry stays right while the root
-- becomes a redirect. It is taken away only after the root is dead.) The indexed value is any function of a row; in the
-- primary index it is the key.
use Rattle.std.specs.Prelude.{◌≡◌, ◌⊎◌, ℕ, ℤ, true, List, Option, Some, None, Contains}
use Rattle.xid_circle.specs.declared.Tid.{Tid}
use Rattle.tuple_header.specs.Version.{Version}
use Rattle.tuple_header.specs.declared.version.Row.{Row}
use Rattle.page_sheet.specs.declared.slot.Slot.{Slot}
use Rattle.page_sheet.specs.declared.slot.Slot.TheVariants.{Normal, Redirect, Dead}
use Rattle.page_sheet.specs.Slots.{version_at}
use Rattle.commit_status.specs.Window.{Window}
use Rattle.hot_chain.specs.Chain.{is_root_in}
use Rattle.visibility.specs.Visible.{IsDead}
use Rattle.sound_page.specs.Sound.{IsIn, SoundPage}
use Rattle.index_entries.specs.declared.entry.Entry.{Entry}
use Rattle.index_entries.specs.Sets.{IsOf}
use Rattle.index_lookup.specs.Pages.{slots_on, slot_in}

-- each page is sound
abbrev pub SoundHeap : Window → List (List Slot) → Type 0
SoundHeap w pages = (n : ℕ) → SoundPage w (slots_on pages n)

-- what an entry leads to: a version that isn't heap-only, a redirect, or a dead slot
abbrev pub MayBeTarget : Option Slot → Type 0
MayBeTarget o = (is_root_in o ≡ true) ⊎ (o ≡ Some Dead)

pub record SomeEntry (entries : List Entry) (p : Tid) : Type 0 where
  pub entry : Entry
  pub there : Contains entries entry
  pub at : entry.tid ≡ p

-- What an index may leave out that is exact from this id on: what was dead to all who read as of that id or a later one. An index
-- that always was exact leaves nothing out.
abbrev pub IsExcused : Window → Option ℕ → Version → Type 0
IsExcused w None t = ⊥
IsExcused w (Some since) t = IsDead w since t.header

pub record SoundEntries (value_of : Row → ℤ) (since : Option ℕ) (w : Window) (pages : List (List Slot)) (entries : List Entry) : Type 0 where
  pub leads : (e : Entry) → Contains entries e → MayBeTarget (slot_in pages e.tid)
  -- a root or redirect has an entry, if a version of its chain is not excused
  pub led : (p : Tid) (n : ℕ) (t : Version) → IsIn w (slots_on pages p.page) p.slot n → version_at (slots_on pages p.page) n ≡ Some t
      → IsExcused w since t ⊎ SomeEntry entries p
  -- and no two lead to one place
  pub one : (e f : Entry) → Contains entries e → Contains entries f → e.tid ≡ f.tid → e ≡ f
  -- each version of its chain has the entry's value and key, or is excused
  pub alike : (e : Entry) (n : ℕ) (t : Version) → Contains entries e → IsIn w (slots_on pages e.tid.page) e.tid.slot n
      → version_at (slots_on pages e.tid.page) n ≡ Some t → IsExcused w since t ⊎ IsOf (value_of t.row) t.row.key e

pub record EntriesAreSound (value_of : Row → ℤ) (since : Option ℕ) (w : Window) (pages : List (List Slot)) (entries : List Entry) : Type 0 where
  pub heap : SoundHeap w pages
  pub index : SoundEntries value_of since w pages entries

-- The law of each step, for a slot that an entry leads to before and after. The slot holds the same version, by its row
-- and its inserter, or a redirect where a version or a redirect was, or it is dead.
pub data KeepsTarget (before after : Option Slot) : Type 0 where
  same_version : (t u : Version) → before ≡ Some (Normal t) → after ≡ Some (Normal u) → u.row ≡ t.row → u.header.xmin.0 ≡ t.header.xmin.0 → KeepsTarget before after
  led_on : (k : ℕ) → is_root_in before ≡ true → after ≡ Some (Redirect k) → KeepsTarget before after
  died : after ≡ Some Dead → KeepsTarget before after

abbrev pub KeepsTargets : List (List Slot) → List (List Slot) → List Entry → List Entry → Type 0
KeepsTargets pages pages' entries entries' = (e : Entry) → Contains entries e → Contains entries' e → KeepsTarget (slot_in pages e.tid) (slot_in pages' e.tid)

-- a step leaves the table sound, and keeps that law
pub record StaysSound (value_of : Row → ℤ) (since : Option ℕ) (v : Window) (pages pages' : List (List Slot)) (entries entries' : List Entry) : Type 0 where
  pub sound : EntriesAreSound value_of since v pages' entries'
  pub led : KeepsTargets pages pages' entries entries'
