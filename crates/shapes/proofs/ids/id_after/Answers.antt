use Rattle.std.proofs.Common.{sym, ap, ◌∙◌}
use Rattle.xid_circle.specs.Circle.{next_of}
use Rattle.shapes.proofs.IdLemmas.{given-more}
use Rattle.shapes.proofs.ids.id_after.Goals as goal

pub loop-preserved : goal.loop-preserved
loop-preserved c = c.following-x.ensures ∙ ap next_of c.loop.invariant ∙ sym (given-more c.args.first.0 c.loop.counter)
