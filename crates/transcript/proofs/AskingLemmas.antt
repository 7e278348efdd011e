-- What a line asks for.
use Rattle.std.proofs.Common.{◌≡◌, ℕ, List, refl, ap, ◌∙◌, sym, None, Some, inl, inr}
use Rattle.std.proofs.lemmas.Option.{none-some, same_Some}
use Rattle.calls.specs.declared.step.Step.{Step}
use Rattle.calls.specs.declared.step.Step.TheVariants as step
use Rattle.script_text.specs.Grammar.{Spells}
use Rattle.script_text.specs.Reading.{line_at}
use Rattle.script_text.specs.declared.line.Line.{Line}
use Rattle.script_text.specs.declared.line.Line.TheVariants.{Do, VacuumFinish, Ids, Page, Entries}
use Rattle.script_text.proofs.GrammarLaws.{line_at-spelling}
use Rattle.transcript.specs.declared.begins.Begins.{Begins}
use Rattle.transcript.specs.declared.begins.Begins.TheVariants.{AsWritten, ByStatement, BySnapshot}
use Rattle.transcript.specs.declared.question.Question.{Question}
use Rattle.transcript.specs.declared.question.Question.TheVariants as question
use Rattle.transcript.specs.Transcripts.{AsksFor, IsLook, IsQuestion, judged_as, step_of_line}
use Rattle.transcript.specs.Judging.{IsAskedBy}

same_step : (begins : Begins) → step.VacuumStep ≡ judged_as begins step.VacuumStep
same_step AsWritten = refl
same_step ByStatement = refl
same_step BySnapshot = refl

pub asks_finish : (begins : Begins) (asked : List ℕ) → Spells asked (Some VacuumFinish) → IsAskedBy begins asked (Some (question.Step step.VacuumStep))
asks_finish begins asked says = (step.VacuumStep, (VacuumFinish, says, refl), same_step begins)

no_step : (line : Line) → ((own : Step) → line ≡ Do own → ⊥) → (line ≡ VacuumFinish → ⊥) → step_of_line line ≡ None
no_step (Do own) a b = absurd (a own refl)
no_step VacuumFinish a b = absurd (b refl)
no_step Ids a b = refl
no_step (Page p) a b = refl
no_step (Entries i) a b = refl

-- a line that asks for a step is no look
pub no_look : (asked : List ℕ) (own : Step) → AsksFor asked own → IsLook asked → ⊥
no_look asked own asks (inl look) =
    let one = line_at-spelling asks.0 asks.1.0 in
    let other = line_at-spelling look.0 look.1.0 in
    let same : asks.0 ≡ look.0 = same_Some asks.0 look.0 (sym one ∙ ap line_at (sym asks.1.1 ∙ look.1.1) ∙ other) in
    none-some own (sym look.2 ∙ ap step_of_line (sym same) ∙ asks.2)
no_look asked own asks (inr other) = other.0 asks.0 asks.1.0 asks.1.1

pub is_question : (begins : Begins) (asked : List ℕ) (q : Question) → IsAskedBy begins asked (Some q) → IsQuestion asked
is_question begins asked (question.Step s) a = inl (a.0, a.1)
is_question begins asked question.Look a = inr a
