use Rattle.std.proofs.Common.{◌∙◌, sym}
use Rattle.vacuum_passes.proofs.Stepping.{unnoted}
use Rattle.vacuum_passes.proofs.vacuum.Vacuum.skips.Goals as goal

pub returns-in-None : goal.returns-in-None
returns-in-None c = unnoted c.args.self.now.mode c.args.heap.now.pages.marks c.args.number (sym c.mark.ensures ∙ c.in-None.is)
