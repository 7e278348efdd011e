use Rattle.vacuum_passes.proofs.Pieces.{after-same}
use Rattle.vacuum_passes.proofs.sweeping.sweep_piece.Goals as goal

pub returns : goal.returns
returns c = record {
  progress = c.sweep-progress.result.0;
  sweeps = c.sweep-progress.ensures;
  next = after-same c.args.heap.now.indexes c.sweep-progress.new.heap.indexes c.args.index c.sweep-progress.result.0 c.phase_after_piece.result c.sweep-progress.ensures.in_use c.phase_after_piece.ensures;
}
