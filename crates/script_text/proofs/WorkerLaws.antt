-- A line of a script for threads is read just where it is spelled so.
use Rattle.std.proofs.Common.{◌≡◌, ℕ, ◌+◌, List, ◌∷◌, ◌++◌, drop, get_or, refl, ap, ◌∙◌, sym, arith, Option, None, Some, Bool, true, false, cond, eqb, codes, Result, Ok, Err, IfOk}
use Rattle.std.specs.Str.{bytes_eq}
use Rattle.std.specs.Fmt.{decimal}
use Rattle.std.proofs.lemmas.Option.{none-some, same_Some}
use Rattle.calls.specs.declared.step.Step.{Step}
use Rattle.script_text.specs.declared.line.Line.{Line}
use Rattle.script_text.specs.declared.line.Line.TheVariants.{Do, VacuumFinish, Ids, Page, Entries}
use Rattle.script_text.specs.declared.worker_step.WorkerStep.{WorkerStep}
use Rattle.script_text.specs.Grammar.{StepFits, step_text, spaced}
use Rattle.script_text.specs.Reading.{cut, number_then, line_at}
use Rattle.script_text.specs.Workers.{wait_text, worker_text, WorkerFits, SpellsWorker, waits_in, step_in, words_at, worker_at}
use Rattle.script_text.proofs.ByteLemmas.{Free, Free-append, free_text}
use Rattle.script_text.proofs.NumberLaws.{guarded, bound, cut_says, cut-free, number_then_says, number_then-decimal, decimal_free}
use Rattle.script_text.proofs.GrammarLaws.{verb_is, with_verb, line_at_says, line_at-spelling, Free-spelling}
use Rattle.script_text.proofs.PlanLaws.{front_is}

-- the words of the step stand behind the word that says that it waits
wait_in_says : (o : Option (List ℕ × List ℕ)) (words : List ℕ) → cut words ≡ o → words ≡ wait_text (waits_in o words).0 ++ (waits_in o words).1
wait_in_says None words h = refl
wait_in_says (Some parts) words h = tested (bytes_eq parts.0 (codes "wait")) refl
  where
    tested : (b : Bool) → bytes_eq parts.0 (codes "wait") ≡ b → words ≡ wait_text (cond {A = Bool × List ℕ} b (true, parts.1) (false, words)).0 ++ (cond {A = Bool × List ℕ} b (true, parts.1) (false, words)).1
    tested true e = cut_says words parts.0 parts.1 h ∙ ap (λ w. w ++ 32 ∷ parts.1) (verb_is parts.0 (codes "wait") e)
    tested false e = refl

-- a worker's step is the step of a line
step_of_says : (worker : ℕ) (wait : Bool) (o : Option Line) (line : WorkerStep) → step_in worker wait o ≡ Some line
    → (o ≡ Some (Do line.step)) × (line.worker ≡ worker) × (line.wait ≡ wait)
step_of_says worker wait None line h = absurd (none-some line h)
step_of_says worker wait (Some VacuumFinish) line h = absurd (none-some line h)
step_of_says worker wait (Some Ids) line h = absurd (none-some line h)
step_of_says worker wait (Some (Page p)) line h = absurd (none-some line h)
step_of_says worker wait (Some (Entries i)) line h = absurd (none-some line h)
step_of_says worker wait (Some (Do step)) line h = rw (← same_Some _ line h) (refl, refl, refl)

words_at_says : (worker : ℕ) (words : List ℕ) (line : WorkerStep) → words_at worker words ≡ Some line
    → (line.worker ≡ worker) × StepFits line.step × (words ≡ wait_text line.wait ++ step_text line.step)
unfolding words_at
words_at_says worker words line h =
    let is = step_of_says worker _ _ line h in
    let says = line_at_says _ _ is.0 in
    (is.1, says.0, wait_in_says (cut words) words refl ∙ rw (sym is.2, says.1) refl)

worker_at_says : (text : List ℕ) (line : WorkerStep) → worker_at text ≡ Some line → WorkerFits line × (text ≡ worker_text line)
unfolding worker_at
worker_at_says text line h =
    let g = guarded (eqb (get_or text 0 0) 64) _ line h in
    let p = bound (number_then 7 (drop 1 text)) _ line g.1 in
    let number = number_then_says 7 (drop 1 text) p.0.0 p.0.1 (omega arith) p.1 in
    let words = words_at_says p.0.0 p.0.1 line p.2 in (
      (omega (arith, number.1, words.0), words.1),
      front_is text 63 g.0 ∙ ap (λ r. 64 ∷ r) (number.0 ∙ ap (λ w. decimal w ++ 32 ∷ p.0.1) (sym words.0) ∙ ap (λ r. decimal line.worker ++ 32 ∷ r) words.2),
    )

-- no line begins with the word that says that a step waits
no_wait : (words : List ℕ) (l : Line) (o : Option (List ℕ × List ℕ)) → cut words ≡ o → line_at words ≡ Some l → waits_in o words ≡ (false, words)
no_wait words l None e h = refl
no_wait words l (Some parts) e h = tested (bytes_eq parts.0 (codes "wait")) refl
  where
    tested : (b : Bool) → bytes_eq parts.0 (codes "wait") ≡ b → cond {A = Bool × List ℕ} b (true, parts.1) (false, words) ≡ (false, words)
    tested true t =
        let begins : words ≡ codes "wait" ++ 32 ∷ parts.1 = cut_says words parts.0 parts.1 e ∙ ap (λ w. w ++ 32 ∷ parts.1) (verb_is parts.0 (codes "wait") t) in
        let none : line_at (codes "wait" ++ 32 ∷ parts.1) ≡ None = with_verb (codes "wait") parts.1 None (free_text 32 (codes "wait") refl) refl refl in
        absurd (none-some l (sym none ∙ ap line_at (sym begins) ∙ h))
    tested false t = refl

words_at-spelled : (worker : ℕ) (wait : Bool) (step : Step) → StepFits step → words_at worker (wait_text wait ++ step_text step) ≡ Some (record { worker = worker; wait = wait; step = step })
unfolding words_at
words_at-spelled worker true step fits = rw (cut-free (codes "wait") (step_text step) (free_text 32 (codes "wait") refl), line_at-spelling (Do step) fits) refl
words_at-spelled worker false step fits =
    let read = line_at-spelling (Do step) fits in
    rw (no_wait (step_text step) (Do step) (cut (step_text step)) refl read, read) refl

worker_at-spelled : (line : WorkerStep) → WorkerFits line → worker_at (worker_text line) ≡ Some line
unfolding worker_at
worker_at-spelled line fits =
    rw (number_then-decimal 7 line.worker (wait_text line.wait ++ step_text line.step) (omega (arith, fits.0)) (omega arith))
    (words_at-spelled line.worker line.wait line.step fits.1)

spells : (text : List ℕ) (o : Option WorkerStep) → o ≡ worker_at text → SpellsWorker text o
spells text None e = λ line fits is. none-some line (e ∙ ap worker_at is ∙ worker_at-spelled line fits)
spells text (Some line) e = worker_at_says text line (sym e)

pub spells_read : {E : Type 0} (r : Result (Option WorkerStep) E) (text : List ℕ) → IfOk r (λ o. o ≡ worker_at text) → IfOk r (λ o. SpellsWorker text o)
spells_read (Ok o) text h = spells text o h
spells_read (Err e) text h = tt

wait_free : (wait : Bool) → Free 10 (wait_text wait)
wait_free true = free_text 10 (codes "wait ") refl
wait_free false = tt

-- no line feed is in a line's text
pub Free-worker : (line : WorkerStep) → WorkerFits line → Free 10 (worker_text line)
Free-worker line fits = (
  refl,
  Free-append 10 (decimal line.worker) (spaced (wait_text line.wait ++ step_text line.step)) (decimal_free 10 line.worker (omega arith) (omega (arith, fits.0)))
      (refl, Free-append 10 (wait_text line.wait) (step_text line.step) (wait_free line.wait) (Free-spelling (Do line.step) fits.1)),
)
