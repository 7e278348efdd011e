-- Why a snapshot sees an id, or does not. Each case says what holds, and that none before it does.
use Rattle.std.specs.Prelude.{◌≡◌, ℕ, Bool, true, false, Contains}
use Rattle.xid_circle.specs.Circle.{Precedes}
use Rattle.commit_status.specs.Window.{Window, top_of}
use Rattle.snapshot.specs.Snap.{Snap}
use Rattle.reasons.specs.declared.sighting.XidStanding.{XidStanding}
use Rattle.reasons.specs.declared.sighting.XidStanding.TheVariants.{Before, NotBefore, Listed, Unlisted}
use Rattle.reasons.specs.declared.sighting.Sighting.{Sighting}
use Rattle.reasons.specs.declared.sighting.Sighting.TheVariants.{ByItself, ByParent}

-- where an id stands to a snapshot
abbrev pub IsXidStanding : Snap → ℕ → XidStanding → Type 0
IsXidStanding s x (Before limit) = (limit.0 ≡ s.xmin) × Precedes x s.xmin
IsXidStanding s x (NotBefore limit) = (limit.0 ≡ s.xmax) × (¬ Precedes x s.xmin) × (¬ Precedes x s.xmax)
IsXidStanding s x Listed = (¬ Precedes x s.xmin) × Precedes x s.xmax × Contains s.listed x
IsXidStanding s x Unlisted = (¬ Precedes x s.xmin) × Precedes x s.xmax × (¬ Contains s.listed x)

-- the snapshot does not list all children, and the id is neither before its xmin nor past its xmax: so the topmost parent is asked
pub record AsksParent (s : Snap) (x : ℕ) : Type 0 where
  pub overflowed : s.overflowed ≡ true
  pub late : ¬ Precedes x s.xmin
  pub early : Precedes x s.xmax

abbrev pub IsSighting : Snap → Window → ℕ → Sighting → Type 0
IsSighting s w x (ByItself standing) = (¬ AsksParent s x) × IsXidStanding s x standing
IsSighting s w x (ByParent top standing) = AsksParent s x × (top.0 ≡ top_of w x) × IsXidStanding s (top_of w x) standing

-- What the snapshot sees: what stands before its xmin, and what is not listed.

abbrev pub standing_counts : XidStanding → Bool
standing_counts (Before limit) = true
standing_counts (NotBefore limit) = false
standing_counts Listed = false
standing_counts Unlisted = true

abbrev pub sighting_counts : Sighting → Bool
sighting_counts (ByItself standing) = standing_counts standing
sighting_counts (ByParent top standing) = standing_counts standing
