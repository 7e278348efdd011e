-- What an explanation of a key shows, through sound entries.
use Rattle.std.specs.Prelude.{◌≡◌, ℕ, ℤ, pos, true, List, Option, Some, None, MatchOption, Contains}
use Rattle.xid_circle.specs.Numbers.{Key, Count}
use Rattle.xid_circle.specs.declared.Tid.{Tid}
use Rattle.tuple_header.specs.Version.{Version}
use Rattle.tuple_header.specs.declared.version.Row.{Row}
use Rattle.tuple_header.specs.IndexValue.{value_in}
use Rattle.page_sheet.specs.declared.slot.Slot.{Slot}
use Rattle.page_sheet.specs.Slots.{row_at}
use Rattle.commit_status.specs.Window.{Window}
use Rattle.snapshot.specs.Snap.{Snap}
use Rattle.visibility.specs.Visible.{IsVisible}
use Rattle.index_entries.specs.declared.entry.Entry.{Entry}
use Rattle.index_entries.specs.Sets.{IsOf}
use Rattle.index_lookup.specs.Pages.{slots_on}
use Rattle.sound_entries.specs.Entries.{EntriesAreSound}
use Rattle.sound_entries.specs.Leading.{IsByIndex}
use Rattle.reasons.specs.Reasons.{verdict_shows}
use Rattle.explanations.specs.declared.versions.ShownVersion.{ShownVersion}
use Rattle.explanations.specs.Shown.{IsShownAlong}

-- where a reader looks: by a snapshot, with own ids, through the index by key
pub record Vantage : Type 0 where
  pub statuses : Window
  pub snapshot : Snap
  pub own : List ℕ
  pub pages : List (List Slot)
  pub entries : List Entry

-- the version at this place of the chain to which an entry leads, if the chain is so long, and why the reader sees it, or does not
abbrev pub IsExplainedTo : Vantage → Tid → Count → Option ShownVersion → Type 0
IsExplainedTo g place n answer = IsShownAlong g.statuses g.snapshot g.own (slots_on g.pages place.page) place.slot n answer

-- What an explanation of a key shows: this version, at this place of the chain to which this entry of the key leads.
pub record IsShownFor (g : Vantage) (key : Key) (entry : Entry) (n : Count) (v : ShownVersion) : Type 0 where
  pub there : Contains g.entries entry
  pub of_key : IsOf (pos key) key entry
  pub explained : IsExplainedTo g entry.tid n (Some v)

-- one is shown as seen, and has this row; and nothing else that is shown is seen
pub record ShowsOne (g : Vantage) (key : Key) (row : Row) : Type 0 where
  pub entry : Entry
  pub place : ℕ
  pub version : ShownVersion
  pub shown : IsShownFor g key entry place version
  pub seen : verdict_shows version.verdict ≡ true
  pub has_row : row_at (slots_on g.pages entry.tid.page) version.slot ≡ Some row
  pub only : (f : Entry) (n : ℕ) (v : ShownVersion) → IsShownFor g key f n v → verdict_shows v.verdict ≡ true → (f ≡ entry) × (n ≡ place) × (v ≡ version)

-- no version that is shown is seen
abbrev pub ShowsNone : Vantage → Key → Type 0
ShowsNone g key = (f : Entry) (n : ℕ) (v : ShownVersion) → IsShownFor g key f n v → ¬ (verdict_shows v.verdict ≡ true)

-- this, and no more
abbrev pub ShowsOnly : Vantage → Key → Option Row → Type 0
ShowsOnly g key row = MatchOption row (ShowsNone g key) (ShowsOne g key)

-- the entries are those of a sound index by key, which leaves nothing out
abbrev pub IsSoundVantage : Vantage → Type 0
IsSoundVantage g = EntriesAreSound (value_in 0) None g.statuses g.pages g.entries

-- a version that the reader sees stands in a chain to which an entry of this value and this key leads
abbrev pub IsFoundBy : Vantage → ℤ → Key → Tid → Version → Type 0
IsFoundBy g value key p t = IsByIndex g.statuses g.pages g.entries value key (λ t. IsVisible g.statuses g.snapshot g.own t.header) p t

-- what the reader finds of the key is one version, with this row, or none
pub record FindsRow (g : Vantage) (key : Key) (row : Option Row) : Type 0 where
  pub sound : (value : ℤ) (p : Tid) (t : Version) → IsFoundBy g value key p t → row ≡ Some t.row
  pub there : (r : Row) → row ≡ Some r → (value : ℤ) × (p : Tid) × (t : Version) × IsFoundBy g value key p t
  pub one : (value other : ℤ) (p q : Tid) (t u : Version) → IsFoundBy g value key p t → IsFoundBy g other key q u → p ≡ q

-- What is found of a key is what an explanation shows as seen: exactly one version, with that row, or none.
abbrev pub ExplanationsShowWhatIsFound : Type 0
ExplanationsShowWhatIsFound = (g : Vantage) (key : ℕ) (row : Option Row) → IsSoundVantage g → FindsRow g key row → ShowsOnly g key row

-- Through sound entries a version is shown but once: at one place, of one entry, with one verdict.
abbrev pub EachIsShownOnce : Type 0
EachIsShownOnce = (g : Vantage) (key : ℕ) (f h : Entry) (i j : ℕ) (v u : ShownVersion) → IsSoundVantage g → IsShownFor g key f i v → IsShownFor g key h j u
    → f.tid.page ≡ h.tid.page → v.slot ≡ u.slot → (f ≡ h) × (i ≡ j) × (v ≡ u)
