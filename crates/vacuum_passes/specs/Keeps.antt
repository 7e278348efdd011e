-- What a vacuum keeps that rests on nothing but what it does itself.
use Rattle.std.specs.Prelude.{◌≢◌, ◌<◌, ◌≤◌, ℕ, [], length, Some, Contains}
use Rattle.xid_circle.specs.declared.Tid.{Tid}
use Rattle.dead_places.specs.Places.{AreAscending}
use Rattle.heap_write.specs.Heap.{HeapView}
use Rattle.calls.specs.declared.vacuum.Piece.{Piece}
use Rattle.vacuum_passes.specs.declared.vacuum.Phase.{Phase}
use Rattle.vacuum_passes.specs.declared.vacuum.Phase.TheVariants as phase
use Rattle.vacuum_passes.specs.View.{VacuumView}
use Rattle.vacuum_passes.specs.Steps.{Steps}

-- while pages are visited there is space left, and what is collected stands before the next page; later there is something to free
abbrev pub KeepsStore : VacuumView → Phase → Type 0
KeepsStore v phase.Heap = (length v.store < v.limit)
    × ((tid : Tid) → Contains v.store tid → tid.page < v.next)
KeepsStore v later = v.store ≢ []

pub record IsVacuum (v : VacuumView) : Type 0 where
  pub within : v.next ≤ v.pages
  pub some : 0 < v.limit
  pub few : length v.store ≤ v.limit
  pub ascending : AreAscending v.store
  pub passed : (tid : Tid) → Contains v.store tid → tid.page ≤ v.next
  pub store : KeepsStore v v.phase

-- Each step leaves it so. (That it begins so is kept by the type.)
abbrev pub StepsKeepVacuum : Type 0
StepsKeepVacuum = (h h' : HeapView) (v v' : VacuumView) (horizon : ℕ) (piece : Piece) → IsVacuum v
    → Steps h h' v horizon (Some v') (Some piece) → IsVacuum v'
