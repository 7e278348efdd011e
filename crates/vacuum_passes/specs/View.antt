-- A vacuum in progress as its callers see it. (The manual's "Routine Vacuuming"; src/backend/access/heap/vacuumlazy.c. The order of its
-- steps is this project's.)
use Rattle.std.specs.Prelude.{◌==◌, ◌+◌, ◌-◌, ◌*◌, ℕ, min, nat_lt, Bool, true, false, List, [], ◌++◌, length, map, take, None, if◌then◌else◌}
use Rattle.xid_circle.specs.Numbers.{Id, Count}
use Rattle.xid_circle.specs.declared.Tid.{Tid}
use Rattle.tuple_header.specs.declared.version.TheConstants.{MOST_SLOTS}
use Rattle.space_maps.specs.declared.mark.Mark.{Mark}
use Rattle.space_maps.specs.View.{says_visible, says_frozen}
use Rattle.calls.specs.declared.vacuum.Mode.{Mode}
use Rattle.calls.specs.declared.vacuum.Mode.TheVariants.{Normal, Aggressive}
use Rattle.vacuum_passes.specs.declared.vacuum.Phase.{Phase}
use Rattle.vacuum_passes.specs.declared.vacuum.Phase.TheVariants as phase

pub record VacuumView : Type 0 where
  -- What its beginning fixed: the mode, the horizon of that moment, the cutoff, and how many pages it visits. It also fixed how many
  -- entries all indexes had, and how many dead slots the vacuum collects at most.
  pub mode : Mode
  pub horizon : ℕ
  pub cutoff : ℕ
  pub pages : ℕ
  pub entries : ℕ
  pub limit : ℕ
  -- what it does next, and the next page
  pub phase : Phase
  pub next : ℕ
  -- the collected slots that are not freed yet, in ascending order of pages and slots
  pub store : List Tid
  -- each step since its beginning was its own
  pub alone : Bool
  -- none was a session's
  pub quiet : Bool
  -- how many of its own steps there were while it was alone
  pub steps : ℕ

-- a vacuum passes over a page of which this is noted
abbrev pub skips : Mode → Mark → Bool
skips Normal mark = says_visible mark
skips Aggressive mark = says_frozen mark

-- the next step goes through an index
abbrev pub is_sweeping : Phase → Bool
is_sweeping (phase.Index i from) = true
is_sweeping phase = false

-- another step came between
abbrev pub disturbed : Bool → VacuumView → VacuumView
disturbed session v = record v { alone = false; quiet = if session then false else v.quiet }

-- one more of its own steps; the count ends at 2 ^ 64 - 1
abbrev pub counted : VacuumView → VacuumView
counted v = record v { steps = if v.alone then min (v.steps + 1) 18446744073709551615 else v.steps }

-- one that begins
abbrev pub new_vacuum : Mode → (horizon cutoff : Id) → (pages entries limit : Count) → VacuumView
new_vacuum mode horizon cutoff pages entries limit = record {
  mode = mode;
  horizon = horizon;
  cutoff = cutoff;
  pages = pages;
  entries = entries;
  limit = limit;
  phase = phase.Heap;
  next = 0;
  store = [];
  alone = true;
  quiet = true;
  steps = 0;
}

-- the places of slots of a page
abbrev pub places : ℕ → List ℕ → List Tid
places page numbers = map (λ n. record { page = page; slot = n }) numbers

-- how many more it can collect
abbrev pub space : VacuumView → ℕ
space v = v.limit - length v.store

abbrev pub phase_with : ℕ → List Tid → Phase
phase_with limit store = if length store == limit then phase.Index 0 None else phase.Heap

-- After a visit of page p, on which these slots are dead: the first of them are collected. Where some are left over the page is visited
-- again, and where no more can be collected the indexes come first.
abbrev pub collected : VacuumView → ℕ → List ℕ → VacuumView
collected v p dead = record v {
  next = if nat_lt (space v) (length dead) then p else p + 1;
  store = v.store ++ places p (take (space v) dead);
  phase = phase_with v.limit (v.store ++ places p (take (space v) dead));
}

-- all pages are visited or passed over
abbrev pub at_end : VacuumView → VacuumView
at_end v = record v { next = v.pages }

-- how many steps it takes at most, while it is alone: with the number of pages to visit and of entries at its beginning
abbrev pub bound : ℕ → ℕ → ℕ
bound pages entries = (MOST_SLOTS + 1) * pages * (entries + 8) + 1
