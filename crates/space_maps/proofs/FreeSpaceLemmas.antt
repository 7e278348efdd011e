-- The free space map: its groups one after another, and which byte a size needs.
use Rattle.std.proofs.Common.{◌≡◌, ℕ, ◌+◌, ◌*◌, ◌/◌, ◌%◌, ◌<◌, ◌≤◌, min, max, inl, inr, List, length, get_or, Option, Some, None, arith}
use Rattle.std.proofs.lemmas.Bool.{cases_lt}
use Rattle.space_maps.specs.FreeSpace.{NoByte, IsEnough, FindsNextByte, FindsRoom}

-- one group more without such a byte
pub NoByte-group : (bytes : List ℕ) (from group least : ℕ) → NoByte bytes from (min (256 * group) (length bytes)) least
    → NoByte bytes (max from (256 * group)) (min (256 * group + 256) (length bytes)) least
    → NoByte bytes from (min (256 * (group + 1)) (length bytes)) least
NoByte-group bytes from group least before here k lo hi =
    elim (cases_lt k (256 * group)) [
      | inl below ↦ before k lo (omega arith)
      | inr le ↦ here k (omega arith) (omega arith)
    ]

-- a lower byte doesn't promise the room
pub low-promises_not : (size byte least : ℕ) → least ≡ size / 32 + min 1 (size % 32) → byte < least → ¬ IsEnough size byte
low-promises_not size byte least is low fits = absurd (omega arith)

-- and one that is not lower does
pub enough-promises : (size byte least : ℕ) → least ≡ size / 32 + min 1 (size % 32) → least ≤ byte → IsEnough size byte
enough-promises size byte least is enough = omega arith

-- so the first byte that isn't lower is the first that promises it
pub found-promises : (bytes : List ℕ) (size least : ℕ) (found : Option ℕ) → least ≡ size / 32 + min 1 (size % 32) → FindsNextByte bytes 0 (length bytes) least found → FindsRoom bytes size found
found-promises bytes size least None is next = λ k within. low-promises_not size (get_or bytes k 0) least is (next k (omega arith) within)
found-promises bytes size least (Some n) is next = record {
  in_use = next.below;
  promises = enough-promises size (get_or bytes n 0) least is next.enough;
  before = λ k lt. low-promises_not size (get_or bytes k 0) least is (next.none k (omega arith) lt);
}
