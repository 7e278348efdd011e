-- What the words of a step mean.
use Rattle.std.specs.Prelude.{◌≡◌, ℕ, ℤ, ◌≤◌, ◌||◌, nat_lt, Bool, if◌then◌else◌, Option, Some, None, List, length}
use Rattle.tuple_header.specs.declared.version.Row.{Row}
use Rattle.prune_actions.specs.declared.Action.{Action}
use Rattle.calls.specs.declared.settings.Settings.{Settings}
use Rattle.calls.specs.declared.settings.SettingsFault.{SettingsFault}
use Rattle.calls.specs.declared.settings.SettingsFault.TheVariants.{MaxPages, StopAge, FreezeMinAge, FirstXid, DeadLimit, NoMemory}
use Rattle.tuple_header.specs.declared.version.TheConstants.{MOST_BODY}

-- a row to be written
pub record RowToWrite : Type 0 where
  pub key : ℕ
  pub cols : List ℤ
  pub body : List ℕ

-- a plan to be applied
pub record PlanToApply : Type 0 where
  pub change : ℕ
  pub actions : List (ℕ × Action)

-- a body has at most 1024 bytes
abbrev pub FitsRow : RowToWrite → Type 0
FitsRow row = length row.body ≤ MOST_BODY

-- the row of the table
abbrev pub row_of : RowToWrite → Row
row_of row = record { key = row.key; cols = row.cols; body = record { items = row.body } }

-- each setting is in its range
pub record AreSettings (s : Settings) : Type 0 where
  pub max_pages : (1 ≤ s.max_pages) × (s.max_pages ≤ 65536)
  pub stop_age : (1 ≤ s.stop_age) × (s.stop_age ≤ 2144483648)
  pub freeze_min_age : s.freeze_min_age ≤ 1000000000
  pub first_xid : (3 ≤ s.first_xid) × (s.first_xid ≤ 4294967295)
  pub dead_limit : (1 ≤ s.dead_limit) × (s.dead_limit ≤ 4096)

abbrev pub is_outside : ℕ → ℕ → ℕ → Bool
is_outside low high n = nat_lt n low || nat_lt high n

-- the first setting that is out of its range, if one is
abbrev pub fault_in : Settings → Option SettingsFault
fault_in s =
    if is_outside 1 65536 s.max_pages then Some MaxPages
    else if is_outside 1 2144483648 s.stop_age then Some StopAge
    else if is_outside 0 1000000000 s.freeze_min_age then Some FreezeMinAge
    else if is_outside 3 4294967295 s.first_xid then Some FirstXid
    else if is_outside 1 4096 s.dead_limit then Some DeadLimit else None

-- that, or memory where none is
abbrev pub FirstFault : Settings → SettingsFault → Type 0
FirstFault s NoMemory = AreSettings s
FirstFault s fault = fault_in s ≡ Some fault
