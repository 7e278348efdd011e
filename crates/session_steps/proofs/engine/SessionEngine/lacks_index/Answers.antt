use Rattle.std.proofs.Common.{◌≡◌, true, false, refl, sym, ap, ◌∙◌, arith}
use Rattle.std.specs.Prelude.{option_copied}
use Rattle.session_steps.proofs.Marking.{lacks-at, has-lacks}
use Rattle.session_steps.proofs.engine.SessionEngine.lacks_index.Goals as goal

pub returns-then-column-gt3 : goal.returns-then-column-gt3
returns-then-column-gt3 c = (λ e. absurd (let off : false ≡ true = e in cc), λ lacks. absurd (omega (arith, lacks.0, c.if-column-gt3.true)))

pub returns-in-Some : goal.returns-in-Some
returns-in-Some c = (
  λ e. absurd (let off : false ≡ true = e in cc),
  λ lacks. absurd (has-lacks c.args.self.now c.args.column c.in-Some.field-0.now (sym c.index.ensures ∙ ap option_copied c.in-Some.is) lacks),
)

pub returns-in-None : goal.returns-in-None
returns-in-None c = (λ e. lacks-at c.args.self.now c.args.column c.if-column-gt3.false (sym c.index.ensures ∙ ap option_copied c.in-None.is), λ lacks. refl)
