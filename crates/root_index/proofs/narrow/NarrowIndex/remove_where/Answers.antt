use Rattle.std.proofs.Common.{◌∙◌, arith}
use Rattle.root_index.proofs.narrow.NarrowIndex.remove_where.Goals as goal

pub invariant_of-self : goal.invariant_of-self
invariant_of-self c =
    let was = c.self.invariant in
    let now = c.remove_where.ensures in
    record {
      by_column = now.kind ∙ was.by_column;
      is_narrow = now.narrow ∙ was.is_narrow;
      fit = λ e there. was.fit e ((now.piece.members e).0 there).0;
      none = was.none;
      for_all = was.for_all;
      ready = λ some. was.ready (omega (arith, c.len.ensures, c.if-len-eq0.false));
    }
