-- What comes after a piece is told by the indexes in use, which no piece changes.
use Rattle.std.proofs.Common.{◌↔◌, ℕ}
use Rattle.root_index.specs.declared.progress.Progress.{Progress}
use Rattle.table_indexes.specs.Indexes.{IndexesView, IsInUse}
use Rattle.vacuum_passes.specs.declared.vacuum.Phase.{Phase}
use Rattle.vacuum_passes.specs.Steps.{PhaseAfter}

pub after-same : (indexes indexes' : IndexesView) (i : ℕ) (progress : Progress) (after : Phase) → ((n : ℕ) → IsInUse indexes n ↔ IsInUse indexes' n)
    → PhaseAfter indexes' i progress after → PhaseAfter indexes i progress after
after-same indexes indexes' i progress after same (PhaseAfter.more last e is) = PhaseAfter.more last e is
after-same indexes indexes' i progress after same (PhaseAfter.onward j e next is) = PhaseAfter.onward j e (record {
  onward = next.onward;
  in_use = (same j).1 next.in_use;
  none_between = λ n above below used. next.none_between n above below ((same n).0 used);
}) is
after-same indexes indexes' i progress after same (PhaseAfter.over e none is) = PhaseAfter.over e (λ n above used. none n above ((same n).0 used)) is
