use Rattle.std.proofs.Common.{◌≤◌, leb, sym, subst, Contains}
use Rattle.std.proofs.lemmas.Bool.{OnTrue_from, leb-true}
use Rattle.xid_circle.specs.declared.Tid.{Tid}
use Rattle.entry_columns.proofs.GapLemmas.{all_from}
use Rattle.entry_columns.proofs.gap.begin_from.Goals as goal

pub returns-in-Some : goal.returns-in-Some
returns-in-Some c =
    OnTrue_from (leb c.from.result c.in-Some.first.now.page) ((t : Tid) → Contains c.args.tids.now t → c.args.page ≤ t.page) (λ from t there. all_from c.args.tids.now c.in-Some.first.now c.args.page c.requires (sym c.in-Some.ensures.value) (subst (λ p. p ≤ c.in-Some.first.now.page) c.from.ensures (leb-true c.from.result c.in-Some.first.now.page from)) t there)
