-- The lines of a script for threads, as they are read.
use Rattle.std.proofs.Common.{◌≡◌, ℕ, ◌+◌, ◌<◌, ◌≤◌, List, [], ◌∷◌, ◌++◌, length, map, take, drop, ap, append_assoc, length-append, ◌∙◌, sym, subst, arith, Option, None, Some, Result, Ok, Err, position, IfSome}
use Rattle.std.specs.Bool.{◌==◌}
use Rattle.std.specs.List.{AllByRecursion}
use Rattle.std.proofs.lemmas.Option.{IfSome_then}
use Rattle.std.proofs.lemmas.List.{append-nil, length-take-le}
use Rattle.std.proofs.lemmas.Grind.{flat_map-append}
use Rattle.std.specs.Io.KnownBytes.{Appends}
use Rattle.script_text.specs.Grammar.{with_feed}
use Rattle.script_text.specs.Workers.{worker_text, WorkerFits, IsWorkerAllowed}
use Rattle.script_text.specs.declared.worker_step.WorkerStep.{WorkerStep}
use Rattle.script_text.proofs.ByteLemmas.{position_found}
use Rattle.script_text.proofs.WorkerLaws.{Free-worker}
use Rattle.shared_heap.specs.declared.line.WorkerLine.{WorkerLine}
use Rattle.script.specs.Pieces.{TakesText, GivesText, HasNoLine}
use Rattle.script.specs.Refusals.{Refusals, IsRefused}
use Rattle.script.specs.Steps.{Uses}
use Rattle.script.specs.Threads.{lists_for, with_work, workers_text, IsBadWorkerLine}
use Rattle.script.specs.Reading.{EndsReading, IsRead}
use Rattle.script.specs.declared.fault.ShellFault.{ShellFault}
use Rattle.script.specs.declared.fault.ShellFault.TheVariants.{BadLine, BadPage, Input, Output, NoMemory, TooManyLines}
use Rattle.script.proofs.PiecesLemmas.{Appends-Appends}
use Rattle.script.proofs.RunLemmas.{Uses-Takes, Uses-prefix, Uses-known, position-split, no_text, text_is}
use Rattle.script.proofs.FirstLemmas.{nothing_given}
use Rattle.script.proofs.ListLemmas.{lists_for-put}

-- how far the lines are read
pub record LinesRead (before now : Option (List ℕ)) (old new : List ℕ) (w0 w1 : Option (List ℕ)) (text : List ℕ) (lists : List (List WorkerLine)) (number : ℕ) : Type 0 where
  pub lines : List WorkerStep
  pub allowed : AllByRecursion IsWorkerAllowed lines
  pub uses : Uses before now old (workers_text lines) new
  pub quiet : Appends w0 w1 []
  pub silent : text ≡ []
  pub lists_are : lists ≡ lists_for lines
  pub number_is : number ≡ length lines + 2

nil_back : (xs ys : List ℕ) → [] ≡ xs ++ ys → ys ≡ []
nil_back [] ys e = sym e
nil_back (x ∷ xs) ys e = absurd (cc e)

-- of no text nothing is left
pub nothing_left : (a b : Option (List ℕ)) (text left : List ℕ) → text ≡ [] → GivesText a b text left → left ≡ []
nothing_left a b text left none h = nil_back h.0 left (sym none ∙ h.2)

-- more is read
pub LinesRead-more : (before now now' : Option (List ℕ)) (old new new' : List ℕ) (w0 w1 w2 : Option (List ℕ)) (text text' : List ℕ) (lists : List (List WorkerLine)) (number : ℕ)
    → LinesRead before now old new w0 w1 text lists number → TakesText now now' new new' → GivesText w1 w2 text text' → LinesRead before now' old new' w0 w2 text' lists number
LinesRead-more before now now' old new new' w0 w1 w2 text text' lists number h t g = record {
  lines = h.lines;
  allowed = h.allowed;
  uses = Uses-Takes before now now' old (workers_text h.lines) new new' h.uses t;
  quiet = Appends-Appends w0 w1 w2 [] [] h.quiet (nothing_given w1 w2 text text' h.silent g);
  silent = nothing_left w1 w2 text text' h.silent g;
  lists_are = h.lists_are;
  number_is = h.number_is;
}

allowed-push : (lines : List WorkerStep) (line : WorkerStep) → AllByRecursion IsWorkerAllowed lines → IsWorkerAllowed line → AllByRecursion IsWorkerAllowed (lines ++ line ∷ [])
allowed-push [] line h k = (k, tt)
allowed-push (x ∷ xs) line h k = (h.0, allowed-push xs line h.1 k)

text-push : (lines : List WorkerStep) (line : WorkerStep) → workers_text (lines ++ line ∷ []) ≡ workers_text lines ++ with_feed (worker_text line)
text-push lines line =
    flat_map-append (λ (line : WorkerStep). with_feed (worker_text line)) lines (line ∷ []) ∙ ap (λ x. workers_text lines ++ x) (append-nil (with_feed (worker_text line)))

-- a line is used, and stands at the end of its worker's list
pub LinesRead-line : (before now : Option (List ℕ)) (old new : List ℕ) (w0 w1 : Option (List ℕ)) (text : List ℕ) (lists lists' : List (List WorkerLine)) (number n : ℕ) (line : WorkerStep)
    → LinesRead before now old new w0 w1 text lists number → position (λ b. b == 10) new ≡ Some n → n ≤ 4096 → n < length new
    → WorkerFits line × (take n new ≡ worker_text line) → lists' ≡ with_work lists line
    → LinesRead before now old (drop (n + 1) new) w0 w1 text lists' (number + 1)
LinesRead-line before now old new w0 w1 text lists lists' number n line h at short within says put =
    let size : length (take n new) ≡ n = length-take-le n new (omega arith) in
    record {
      lines = h.lines ++ line ∷ [];
      allowed = allowed-push h.lines line h.allowed (record { fits = says.0; short = subst (λ (xs : List ℕ). length xs ≤ 4096) says.1 (omega arith) });
      uses = rw (text-push h.lines line) (Uses-prefix before now old (workers_text h.lines) new (with_feed (worker_text line)) (drop (n + 1) new) (position-split new n at ∙ ap (λ x. with_feed x ++ drop (n + 1) new) says.1) h.uses);
      quiet = h.quiet;
      silent = h.silent;
      lists_are = put ∙ ap (λ (xs : List (List WorkerLine)). with_work xs line) h.lists_are ∙ sym (lists_for-put h.lines line says.0.0);
      number_is = ap (λ k. k + 1) h.number_is ∙ omega (arith, length-append h.lines (line ∷ []));
    }

-- the reading ends
pub reading_ends : (before now : Option (List ℕ)) (old new : List ℕ) (w0 w1 : Option (List ℕ)) (text : List ℕ) (lists lists' : List (List WorkerLine)) (number : ℕ) (r : Result (Unit {0}) ShellFault)
    → (h : LinesRead before now old new w0 w1 text lists number) → ((rest : List ℕ) → now ≡ Some rest → EndsReading r h.lines (new ++ rest) lists')
    → IfSome before (λ bytes. IsRead (old ++ bytes) lists' r)
reading_ends before now old new w0 w1 text lists lists' number r h ends =
    IfSome_then before (Uses-known before now old (workers_text h.lines) new h.uses) (λ input k. record {
      lines = h.lines;
      allowed = h.allowed;
      left = new ++ k.0;
      text = k.2;
      ends = ends k.0 k.1;
    })

-- a refusal ends it
pub refusal_ends : (e : ShellFault) (log : Refusals) (lines : List WorkerStep) (left : List ℕ) (lists : List (List WorkerLine)) → IsRefused e log → EndsReading (Err e) lines left lists
refusal_ends (BadLine n) log lines left lists f = absurd f
refusal_ends (BadPage fault) log lines left lists f = absurd f
refusal_ends Input log lines left lists f = tt
refusal_ends Output log lines left lists f = tt
refusal_ends NoMemory log lines left lists f = tt
refusal_ends TooManyLines log lines left lists f = absurd f

pub bad_from_none : (p rest : List ℕ) → HasNoLine p (Some rest) → IsBadWorkerLine (p ++ rest)
bad_from_none p rest h = record {
  some = rw (length-append p rest) (omega (arith, h.0));
  bad = λ line more allowed e. no_text p rest (worker_text line) more h (Free-worker line allowed.fits) allowed.short e;
}

pub bad_from_line : (p rest : List ℕ) (n : ℕ) → position (λ b. b == 10) p ≡ Some n → ((line : WorkerStep) → WorkerFits line → take n p ≡ worker_text line → ⊥) → IsBadWorkerLine (p ++ rest)
bad_from_line p rest n at h =
    let f = position_found 10 p n at in
    record {
      some = rw (length-append p rest) (omega (arith, f.0));
      bad = λ line more allowed e. h line allowed.fits (text_is p rest n (worker_text line) more at (Free-worker line allowed.fits) e);
    }
