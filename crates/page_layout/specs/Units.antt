-- The units of 8 bytes of a page, and which of them are marked.
use Rattle.std.specs.Prelude.{◌≡◌, ◌<◌, ◌≤◌, ◌⊎◌, ℕ, ◌+◌, Bool, true, false, List, length, slice_index_or, count_by}
use Rattle.xid_circle.specs.Numbers.{Count}

abbrev pub is_marked : List Bool → ℕ → Bool
is_marked marks k = slice_index_or marks k false

abbrev pub units_marked : List Bool → Count
units_marked marks = count_by (λ mark. mark) marks

-- the units from one to before another were free and are marked, the others stay
pub record AreMarked (old new : List Bool) (from to : ℕ) : Type 0 where
  pub long : length new ≡ length old
  pub free : (k : ℕ) → from ≤ k → k < to → is_marked old k ≡ false
  pub now : (k : ℕ) → from ≤ k → k < to → is_marked new k ≡ true
  pub others : (k : ℕ) → (k < from) ⊎ (to ≤ k) → is_marked new k ≡ is_marked old k
  pub counted : units_marked new + from ≡ units_marked old + to

-- one of the units from one to before another was marked already
pub record SomeIsMarked (marks : List Bool) (from to : ℕ) : Type 0 where
  pub unit : ℕ
  pub least : from ≤ unit
  pub most : unit < to
  pub marked : is_marked marks unit ≡ true
