use Rattle.std.proofs.Common.{◌*◌, List, get_or, subst, arith, ap}
use Rattle.std.specs.List.{All}
use Rattle.index_entries.specs.declared.entry.Entry.{Entry}
use Rattle.entry_columns.specs.declared.short_tid.ShortTid.{ShortTid}
use Rattle.entry_columns.specs.Columns.{ColumnsView, long}
use Rattle.entry_columns.specs.Gaps.{AreOutside, IsInside}
use Rattle.entry_columns.proofs.GapLemmas.{outside, AreAhead, not_inside}
use Rattle.entry_columns.proofs.columns.EntryColumns.gap_behind.Goals as goal

pub returns : goal.returns
returns g c =
    let gap = c.between.result in
    let ps = c.self.inside.places.items in
    let behind = c.saturating_add-behind.result in
    let least = c.from-least.result * 65536 in
    let far : AreAhead least c.least_ahead-ahead.result ps = subst (AreAhead least c.least_ahead-ahead.result) c.deref.ensures.value c.least_ahead-ahead.ensures.ahead in
    let far_too : AreAhead behind c.least_ahead-more.result ps = subst (AreAhead behind c.least_ahead-more.result) c.deref-2.ensures.value c.least_ahead-more.ensures.ahead in
    let out : All (λ (p : ShortTid). ¬ IsInside gap (long p)) ps = λ k d within.
    let first = far k d within in
    let second = far_too k d within in
    not_inside gap (get_or ps k d) c.least_ahead-ahead.result behind c.least_ahead-more.result
    (omega (arith, c.between.ensures.but, c.between.ensures.from, c.saturating_add-first.ensures, c.from-least.ensures))
    (omega (arith, c.between.ensures.but, c.saturating_add-behind.ensures))
    (omega (arith, c.between.ensures.to, c.saturating_add-second.ensures, c.saturating_add-second.type_inv))
    (λ from. let past = first (omega (arith, from, c.between.ensures.from, c.from-least.ensures)) in omega (arith, past, c.between.ensures.from, c.from-least.ensures))
    second in
    subst (λ (xs : List Entry). AreOutside gap xs) (ap (λ (v : ColumnsView). v.entries) c.self.view_is)
    (outside g.L.Label.value_of g.L.Label.key_of gap c.self.inside.labels.items ps out)
