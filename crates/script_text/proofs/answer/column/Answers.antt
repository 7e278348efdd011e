use Rattle.std.proofs.Common.{◌≡◌, ◌++◌, ℤ, sym, ap, ◌∙◌, subst, w64}
use Rattle.std.specs.Prelude.{OnOk}
use Rattle.std.specs.Fmt.{signed_decimal, digits}
use Rattle.std.proofs.lemmas.Int.{to_z-of_z}
use Rattle.std.specs.Int.{cast_signed}
use Rattle.script_text.specs.Grammar.{spaced}
use Rattle.script_text.proofs.answer.column.Goals as goal

pub returns-then-c-eq0 : goal.returns-then-c-eq0
unfolding digits
returns-then-c-eq0 c =
    let zero = ap (cast_signed w64) (sym c.if-c-eq0.true) ∙ to_z-of_z w64 c.args.c c.ranges.c in
    subst (λ (z : ℤ). OnOk c.extend.result (c.extend.new.out.items ≡ c.args.out.now.items ++ spaced (signed_decimal z))) zero c.extend.ensures.added
