use Rattle.std.proofs.Common.{◌<◌, ◌+◌, ◌%◌, ◌^◌, take}
use Rattle.std.specs.List.{All}
use Rattle.entry_columns.specs.declared.short_tid.ShortTid.{ShortTid}
use Rattle.entry_columns.proofs.GapLemmas.{AreAhead}
use Rattle.entry_columns.proofs.columns.least_ahead.Given as goal

-- the numbers so far are ahead by as much
abbrev pub invariant-loop-place : goal.invariant-loop-place
invariant-loop-place l = record {
  numbers : All (λ (p : ShortTid). p.number < 2 ^ 32) (take l.place l.places);
  ahead : AreAhead l.from ((l.ahead + 2147483648) % 4294967296) (take l.place l.places);
}
