use Rattle.std.proofs.Common.{◌∙◌, subst, arith, Contains}
use Rattle.root_index.proofs.WideningLemmas.{spare-for_room}
use Rattle.root_index.proofs.narrow.NarrowIndex.make_room.Goals as goal

pub invariant_of-self-2 : goal.invariant_of-self-2
invariant_of-self-2 c =
    let was = c.self.invariant in
    let wide = c.in_ok-make_room.ensures in
    let now = c.make_room-2.ensures in
    let none = wide.entries ∙ was.none in
    record {
      by_column = now.kind ∙ was.by_column;
      is_narrow = now.narrow ∙ was.is_narrow;
      fit = λ e there. was.fit e (subst (λ xs. Contains xs e) now.entries there);
      none = none;
      for_all = (wide.kind ∙ was.for_all.0, wide.narrow ∙ was.for_all.1);
      ready = λ some. spare-for_room c.make_room.new.self none (omega (arith, wide.room));
    }
