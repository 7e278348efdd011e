use Rattle.std.proofs.Common.{sym, subst}
use Rattle.index_making.specs.Filling.{HaveSame}
use Rattle.index_making.proofs.FillingLemmas.{joined-after}
use Rattle.index_making.proofs.filling.Filling.add.Goals as goal

pub returns : goal.returns
returns c =
    joined-after c.args.self.now c.self.inside.batch.items c.self.inside.index.entries c.push.new.self.items c.args.entry
    (subst (HaveSame c.args.self.now) (sym c.self.view_is) c.in_ok-insert_full_batch.ensures) c.in_ok-push.ensures.items
