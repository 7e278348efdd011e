-- The order of places, and sets of them as ascending lists.
use Rattle.std.specs.Prelude.{◌≡◌, ◌↔◌, ◌⊎◌, ◌<◌, ◌≤◌, ℕ, List, Some, slice_get, length, Contains}
use Rattle.std.specs.Ordering.{nat_cmp, ordering_then}
use Rattle.std.specs.declared.cmp.Ordering.{Ordering}
use Rattle.std.specs.declared.cmp.Ordering.TheVariants.{Less}
use Rattle.std.specs.List.{AllPairs}
use Rattle.xid_circle.specs.declared.Tid.{Tid}

-- by page, then slot
abbrev pub place_order : Tid → Tid → Ordering
place_order a b = ordering_then (nat_cmp a.page b.page) (nat_cmp a.slot b.slot)

abbrev pub PlacePrecedes : Tid → Tid → Type 0
PlacePrecedes a b = place_order a b ≡ Less

-- each place is before all later ones
abbrev pub AreAscending : List Tid → Type 0
AreAscending tids = AllPairs PlacePrecedes tids

-- the same places and this one
pub record AddsPlace (old new : List Tid) (tid : Tid) : Type 0 where
  pub ascending : AreAscending new
  pub members : (t : Tid) → Contains new t ↔ (Contains old t ⊎ (t ≡ tid))

-- this one is not among the places, and would stand at this number of them
pub record IsRoomFor (tids : List Tid) (tid : Tid) (i : ℕ) : Type 0 where
  pub in_range : i ≤ length tids
  pub before : (k : ℕ) (t : Tid) → k < i → slice_get tids k ≡ Some t → PlacePrecedes t tid
  pub after : (k : ℕ) (t : Tid) → i ≤ k → slice_get tids k ≡ Some t → PlacePrecedes tid t
