use Rattle.std.proofs.Common.{ℕ, ◌<◌, length, refl, sym, subst, ap, ◌∙◌, arith}
use Rattle.std.proofs.lemmas.Bool.Decides.{nat_tests}
use Rattle.c_handles.specs.declared.held.Held.{Held}
use Rattle.c_handles.specs.CallStatus.{number_of_status}
use Rattle.sandpiper_c.specs.NextRows.{status_of_answer, HandsToPlaces}
use Rattle.sandpiper_c.proofs.NextLemmas.{to-places}
use Rattle.sandpiper_c.proofs.cursors.held_next.Goals as goal

pub returns : goal.returns
returns c =
    let new : Held = record { engine = c.next_rows-answer.new.self; reply = c.args.held.now.reply; row = c.args.held.now.row } in
    let P : ℕ → ℕ → Type 0 = λ code count. HandsToPlaces c.args.held.now c.args.session c.args.rows.now code c.next_rows-answer.new.places count new in
    let some : 0 < length c.args.rows.now = grind (arith, nat_tests, c.is_empty.ensures, c.if-is_empty.false) in
    subst (λ code. P code c.count_of.result) (sym (c.number-2.ensures ∙ ap number_of_status c.status_of_answer.ensures))
    (subst (λ count. P (number_of_status (status_of_answer c.next_rows-answer.result)) count) (sym c.count_of.ensures)
    (to-places c.args.held.now new c.args.session c.args.rows.now c.next_rows-answer.new.places c.next_rows-answer.result some c.next_rows-answer.ensures refl))
