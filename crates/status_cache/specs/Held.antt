-- What a cache of statuses holds: ids with their statuses, the last asked for first.
use Rattle.std.specs.Prelude.{◌≡◌, ◌≢◌, ℕ, ◌-◌, ◌≤◌, nat_eq, not, List, ◌∷◌, length, take, filter, Contains, Option, Some, None, IsSome}
use Rattle.std.specs.List.{IsDistinct}
use Rattle.std.specs.Map.{keys_of, lookup, remove_entry}
use Rattle.commit_status.specs.declared.status.Status.{Status}
use Rattle.commit_status.specs.declared.status.Status.TheVariants.{InProgress}
use Rattle.commit_status.specs.Window.{Window}
use Rattle.snapshot.specs.Snap.{is_before}
use Rattle.visibility.specs.Visible.{state_of}
use Rattle.status_cache.specs.declared.cache.TheConstants.{MOST_STATUSES}

abbrev pub IsCached : List (ℕ × Status) → ℕ → Type 0
IsCached held x = IsSome (lookup (nat_eq x) held)

-- each is committed or aborted
abbrev pub HaveEnded : List (ℕ × Status) → Type 0
HaveEnded held = (e : ℕ × Status) → Contains held e → e.1 ≢ InProgress

-- what is so of every cache
pub record IsCache (held : List (ℕ × Status)) : Type 0 where
  pub ended : HaveEnded held
  pub distinct : IsDistinct nat_eq (keys_of held)
  pub few : length held ≤ MOST_STATUSES

-- what the field of a cache keeps
pub record IsStatusCache (held : List (ℕ × Status)) (capacity : ℕ) : Type 0 where
  pub ended : HaveEnded held
  pub capacity_is : capacity ≡ MOST_STATUSES

-- each id that is held is remembered, and has the table's status
abbrev pub CacheAgrees : List (ℕ × Status) → Window → Type 0
CacheAgrees held w = (e : ℕ × Status) → Contains held e → state_of w e.0 ≡ Some e.1

-- what is kept of a cache where there may be none: it agrees with the table, and each id that it holds is committed or aborted
abbrev pub KeepsCache : Option (List (ℕ × Status)) → Window → Type 0
KeepsCache None w = Unit {0}
KeepsCache (Some held) w = HaveEnded held × CacheAgrees held w

-- An id has this status: it is put first, if it has ended, and the last leaves a full cache; or there is no memory for it.
pub data CachesStatus (old new : List (ℕ × Status)) (x : ℕ) (status : Status) : Type 0 where
  is_put : status ≢ InProgress → new ≡ (x, status) ∷ take (MOST_STATUSES - 1) old → CachesStatus old new x status
  is_left : new ≡ old → CachesStatus old new x status

-- An id was asked for, and this was answered. If it is held it comes first, and else it is kept.
pub data CacheAnswers (old new : List (ℕ × Status)) (x : ℕ) (status : Status) : Type 0 where
  was_held : IsCached old x → new ≡ (x, status) ∷ remove_entry (nat_eq x) old → CacheAnswers old new x status
  was_not : ¬ IsCached old x → CachesStatus old new x status → CacheAnswers old new x status

-- those that are not before x
abbrev pub held_from : ℕ → List (ℕ × Status) → List (ℕ × Status)
held_from x held = filter (λ e. not (is_before e.0 x)) held
