-- The free space map of a table: a byte for each page, which says how many times the room on it holds 32 bytes, at most 255.
-- (PostgreSQL's src/backend/storage/freespace/README: one byte, in units of a 256th of a page.)
use Rattle.std.specs.Prelude.{◌*◌, ℕ, ◌/◌, ◌<◌, ◌≤◌, List, length, Option, Some, None, slice_index}
use Rattle.xid_circle.specs.Numbers.{Count}
use Rattle.space_maps.specs.declared.free_map.TheConstants.{GROUP}

-- the map as its callers see it
pub record FreeView : Type 0 where
  -- the byte of each page
  pub bytes : List ℕ
  -- how many can be added without memory
  pub spare : ℕ

-- no byte is over what is noted of its group of 256
abbrev pub AreTops : List ℕ → List ℕ → Type 0
AreTops tops bytes = (n : ℕ) → slice_index bytes n ≤ slice_index tops (n / GROUP)

pub record IsMap (tops bytes : List ℕ) : Type 0 where
  pub few : length bytes ≤ 65536
  pub fits : (n : ℕ) → slice_index bytes n ≤ 255
  pub noted : AreTops tops bytes

-- all bytes of these numbers are below this one
abbrev pub NoByte : (bytes : List ℕ) → (from to : Count) → (least : ℕ) → Type 0
NoByte bytes from to least = (k : ℕ) → from ≤ k → k < to → slice_index bytes k < least

-- what the map remembers of its last look-up: all bytes before that of this page are below this one
pub record IsPassed (bytes : List ℕ) (before least : ℕ) : Type 0 where
  pub within : before ≤ length bytes
  pub none : NoByte bytes 0 before least

-- the first of these numbers whose byte isn't below this one
pub record IsNextByte (bytes : List ℕ) (from to : Count) (least : ℕ) (n : Count) : Type 0 where
  pub after : from ≤ n
  pub below : n < to
  pub enough : least ≤ slice_index bytes n
  pub none : NoByte bytes from n least

-- that one, if there is one
abbrev pub FindsNextByte : (bytes : List ℕ) → (from to : Count) → (least : ℕ) → Option Count → Type 0
FindsNextByte bytes from to least None = NoByte bytes from to least
FindsNextByte bytes from to least (Some n) = IsNextByte bytes from to least n

-- the byte promises room for a version of this size
abbrev pub IsEnough : ℕ → ℕ → Type 0
IsEnough size byte = size ≤ 32 * byte

-- the first page whose byte promises it
pub record IsFirstPromise (bytes : List ℕ) (size n : ℕ) : Type 0 where
  pub in_use : n < length bytes
  pub promises : IsEnough size (slice_index bytes n)
  pub before : (k : ℕ) → k < n → ¬ IsEnough size (slice_index bytes k)

-- that one, if there is one
abbrev pub FindsRoom : List ℕ → ℕ → Option ℕ → Type 0
FindsRoom bytes size None = (k : ℕ) → k < length bytes → ¬ IsEnough size (slice_index bytes k)
FindsRoom bytes size (Some n) = IsFirstPromise bytes size n
