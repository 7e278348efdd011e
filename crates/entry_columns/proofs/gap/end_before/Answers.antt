use Rattle.std.proofs.Common.{◌<◌, ltb, sym, subst, Contains}
use Rattle.std.proofs.lemmas.Bool.{OnTrue_from, ltb-true}
use Rattle.xid_circle.specs.declared.Tid.{Tid}
use Rattle.entry_columns.proofs.GapLemmas.{all_before}
use Rattle.entry_columns.proofs.gap.end_before.Goals as goal

pub returns-in-Some : goal.returns-in-Some
returns-in-Some c =
    OnTrue_from (ltb c.in-Some.last.now.page c.from.result) ((t : Tid) → Contains c.args.tids.now t → t.page < c.args.page) (λ before t there. all_before c.args.tids.now c.in-Some.last.now c.args.page c.requires (sym c.in-Some.ensures.value) (subst (λ p. c.in-Some.last.now.page < p) c.from.ensures (ltb-true c.in-Some.last.now.page c.from.result before)) t there)
