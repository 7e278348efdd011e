use Rattle.std.proofs.Common.{sym, ◌∙◌}
use Rattle.std.specs.Option.{option_map}
use Rattle.std.proofs.lemmas.Bool.{true≢false}
use Rattle.index_lookup.proofs.SpanLemmas.{starts-after, starts-from, all-after_none, all-after_lower}
use Rattle.index_lookup.proofs.index_scan.entry_from.Goals as goal
use Rattle.index_lookup.proofs.index_scan.entry_from.Goals.{in_default-via-in-Some+else-begins_by, in_default-via-in_default}

pub returns-in-Some : goal.returns-in-Some
returns-in-Some c =
    starts-after c.args.index.now.entries c.args.span.now c.in-Some.last (option_map (λ found. found.0) c.after_position.result) c.in-Some.is (c.begins_by.ensures.0 c.if-begins_by.true) c.after_position.ensures

pub returns-in_default : goal.returns-in_default
returns-in_default c =
    starts-from c.args.index.now.entries c.args.span.now (option_map (λ found. found.0) c.from_low.result)
    (elim c.in_default.branch [
      | in_default-via-in-Some+else-begins_by w ↦ all-after_lower c.args.span.now w.in-Some.last w.in-Some.is (λ le. true≢false (sym (w.begins_by.ensures.1 le) ∙ w.if-begins_by.false))
      | in_default-via-in_default w ↦ all-after_none c.args.span.now w.in_default.is
    ])
    c.from_low.ensures
