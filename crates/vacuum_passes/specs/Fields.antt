-- What callers see of the fields of a vacuum.
use Rattle.std.specs.Prelude.{drop}
use Rattle.vacuum_passes.specs.View.{VacuumView}
use Rattle.vacuum_passes.specs.declared.vacuum.Vacuum.TheInside.{Inside}

-- the collected slots without those that are unused by now, and not where the last piece ended
abbrev pub seen_as : Inside → VacuumView
seen_as v = record {
  mode = v.mode;
  horizon = v.horizon.0;
  cutoff = v.cutoff.0;
  pages = v.pages;
  entries = v.entries;
  limit = v.limit;
  phase = v.phase;
  next = v.next;
  store = drop v.freed v.store;
  alone = v.alone;
  quiet = v.quiet;
  steps = v.steps;
}
