use Rattle.std.proofs.Common.{ℕ, sym, ap, subst}
use Rattle.calls.specs.declared.step.Step.TheVariants as step
use Rattle.calls.specs.Words.{RowToWrite, FitsRow}
use Rattle.plain_history.specs.Plain.{world_of}
use Rattle.plain_history.specs.Answers.{RefusesReplace}
use Rattle.judge.specs.declared.expect.Expected.{Expected}
use Rattle.judge.specs.Rulings.{Expects}
use Rattle.judge.proofs.DueLemmas.{fits_when, update_refused}
use Rattle.judge.proofs.expect.of_update.Goals as goal

pub returns-in-Err-check_replace : goal.returns-in-Err-check_replace
returns-in-Err-check_replace c =
    let w = world_of c.args.plain.now in
    let fits : FitsRow c.args.row.now = fits_when c.is_too_large.result c.args.row.now c.is_too_large.ensures c.if-is_too_large.false in
    let refuses = subst (λ (k : ℕ). RefusesReplace w c.args.s k c.in-Err-check_replace.why) (ap (λ (r : RowToWrite). r.key) c.row.view_is) c.in-Err-check_replace.ensures.err in
    subst (λ (e : Expected). Expects w (step.Update c.args.s c.args.row.now) e) (sym c.of_refused.ensures)
    (update_refused w c.args.s c.args.row.now c.in-Err-check_replace.why fits refuses)
