use Rattle.std.proofs.Common.{length, ap, arith, subst, Contains}
use Rattle.xid_circle.proofs.Members.{Contains-none}
use Rattle.root_index.proofs.narrow.NarrowIndex.new.Goals as goal

pub invariant_of-result : goal.invariant_of-result
invariant_of-result c = record {
  by_column = c.new.ensures.kind;
  is_narrow = c.new.ensures.narrow;
  fit = λ e there. absurd (Contains-none e (subst (λ xs. Contains xs e) c.new.ensures.none there));
  none = c.new-2.ensures.none;
  for_all = (c.new-2.ensures.kind, c.new-2.ensures.narrow);
  ready = λ some. absurd (let none = ap length c.new.ensures.none in let zero = c.new.ensures.spare in omega (arith, some, none, zero));
}
