use Rattle.std.proofs.Common.{◌≡◌, ◌≤◌, length, take, vec_len, vec_capacity}
use Rattle.shared_heap.proofs.copies.copy_keys.Given as goal

-- the keys so far are copied, and each that is left has its place
abbrev pub invariant-loop-key : goal.invariant-loop-key
invariant-loop-key l = (l.room.items ≡ take l.key-index l.keys) × (vec_len l.room ≡ l.key-index) × (length l.keys ≤ vec_capacity l.room)
