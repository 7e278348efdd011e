use Rattle.std.proofs.Common.{◌≡◌, ◌++◌, ℤ, pos, get_or, ap, ◌∙◌, w64, rules, to_z, of_z}
use Rattle.std.specs.Fmt.{signed_decimal}
use Rattle.script_text.specs.Grammar.{spaced}
use Rattle.script_text.proofs.TellingLemmas.{told_more}
use Rattle.script_text.proofs.answer.columns.Goals as goal

pub loop-c-preserved : goal.loop-c-preserved
loop-c-preserved c =
    let it : ℤ = get_or c.args.cols.now c.loop-c.c-index (pos 0) in
    let same : to_z w64 (of_z w64 it) ≡ it = search rules in
    told_more (λ v. spaced (signed_decimal v)) c.args.cols.now c.loop-c.c-index (pos 0) _ _ _ c.loop-c-test.true c.loop-c.invariant (c.in_ok-column.ensures ∙ ap (λ v. c.loop-c.out.items ++ spaced (signed_decimal v)) same)
