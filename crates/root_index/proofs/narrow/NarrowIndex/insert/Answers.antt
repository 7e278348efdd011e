use Rattle.std.proofs.Common.{◌∙◌, sym, subst, arith}
use Rattle.entry_columns.specs.Fits.{Fits}
use Rattle.root_index.specs.View.{IndexView}
use Rattle.root_index.proofs.WideningLemmas.{spare-for_room, fits-any, fit-after}
use Rattle.root_index.proofs.narrow.NarrowIndex.insert.Goals as goal

pub invariant_of-self-2 : goal.invariant_of-self-2
invariant_of-self-2 c =
    let was = c.self.invariant in
    let wide = c.in_ok-make_room.ensures in
    let now = c.insert.ensures in
    let none = wide.entries ∙ was.none in
    let fits = subst (λ (v : IndexView). Fits v.is_by_key v.is_narrow c.args.entry) (sym c.self.view_is) c.requires in
    record {
      by_column = now.kind ∙ was.by_column;
      is_narrow = now.narrow ∙ was.is_narrow;
      fit = fit-after c.insert.result c.self.inside.entries.entries c.insert.new.self.entries c.args.entry now.adds now.err
          (fits-any c.args.entry c.self.inside.entries.is_by_key c.self.inside.entries.is_narrow was.by_column was.is_narrow fits) was.fit;
      none = none;
      for_all = (wide.kind ∙ was.for_all.0, wide.narrow ∙ was.for_all.1);
      ready = λ some. spare-for_room c.make_room.new.self none (omega (arith, wide.room));
    }
