-- Bytes that are read as those of a page.
use Rattle.std.proofs.Common.{◌≡◌, ℕ, ◌+◌, ◌<◌, ◌≤◌, ◌⊎◌, inl, inr, List, [], ◌++◌, length, ap, length-append, ◌∙◌, sym, subst, arith, Option, None, Some, Result, Ok, Err, IfSome, IfErr, OnOk}
use Rattle.std.proofs.lemmas.List.{append-nil}
use Rattle.std.proofs.lemmas.Option.{IfSome_then}
use Rattle.std.specs.Io.KnownBytes.{Appends, IsAtEnd}
use Rattle.page_slots.specs.Faults.{page_fault}
use Rattle.page_slots.specs.Reading.{page_of}
use Rattle.page_slots.specs.View.{PageView}
use Rattle.page_layout.specs.declared.faults.PageFault.TheVariants.{Length}
use Rattle.page_layout.proofs.FirstLemmas.{none-some}
use Rattle.script_text.proofs.PageLemmas.{long_fault, page_length}
use Rattle.script_text.specs.Grammar.{with_feed}
use Rattle.script.specs.PageText.{inspected_text}
use Rattle.script.specs.Inspected.{PageOutcome, page_lines}
use Rattle.script.specs.Pieces.{TakesText}
use Rattle.script.specs.Refusals.{Refusals, IsRefused}
use Rattle.script.specs.Script.{WritesBeginning}
use Rattle.script.specs.declared.fault.ShellFault.{ShellFault}
use Rattle.script.specs.declared.fault.ShellFault.TheVariants.{BadLine, BadPage, Input, Output, NoMemory, TooManyLines}
use Rattle.script.proofs.FirstLemmas.{first_known}

-- Outcomes.

-- after a refusal
pub refused_page : (e : ShellFault) (log : Refusals) (input : List ℕ) (w0 w1 : Option (List ℕ)) → IsRefused e log
    → Appends w0 w1 [] ⊎ ((page_fault input ≡ None) × WritesBeginning w0 w1 (page_lines input)) → PageOutcome (Err e) input w0 w1
refused_page (BadLine n) log input w0 w1 f h = absurd f
refused_page (BadPage fault) log input w0 w1 f h = absurd f
refused_page Input log input w0 w1 f h = h
refused_page Output log input w0 w1 f h = h
refused_page NoMemory log input w0 w1 f h = h
refused_page TooManyLines log input w0 w1 f h = absurd f

-- more than a page is no page, however much more it is
long_either : (p input : List ℕ) (w0 w1 : Option (List ℕ)) → 8192 < length p
    → Appends w0 w1 [] ⊎ ((page_fault p ≡ None) × WritesBeginning w0 w1 (page_lines p)) → Appends w0 w1 []
long_either p input w0 w1 long (inl quiet) = quiet
long_either p input w0 w1 long (inr page) = absurd (none-some Length (sym page.0 ∙ long_fault p long))

same_long : (r : Result (Unit {0}) ShellFault) (p input : List ℕ) (w0 w1 : Option (List ℕ)) → 8192 < length p → 8192 < length input
    → PageOutcome r p w0 w1 → PageOutcome r input w0 w1
same_long (Ok u) p input w0 w1 long more h = absurd (none-some Length (sym h.0 ∙ long_fault p long))
same_long (Err (BadPage fault)) p input w0 w1 long more h = (long_fault input more ∙ sym (long_fault p long) ∙ h.0, h.1)
same_long (Err (BadLine n)) p input w0 w1 long more h = absurd h
same_long (Err TooManyLines) p input w0 w1 long more h = absurd h
same_long (Err Input) p input w0 w1 long more h = inl (long_either p input w0 w1 long h)
same_long (Err Output) p input w0 w1 long more h = inl (long_either p input w0 w1 long h)
same_long (Err NoMemory) p input w0 w1 long more h = inl (long_either p input w0 w1 long h)

known_page : (r : Result (Unit {0}) ShellFault) (p rest input : List ℕ) (w0 w1 : Option (List ℕ)) → input ≡ p ++ rest
    → (8192 < length p) ⊎ (rest ≡ []) → PageOutcome r p w0 w1 → PageOutcome r input w0 w1
known_page r p rest input w0 w1 e (inl long) h =
    let size : length input ≡ length p + length rest = ap (λ (xs : List ℕ). length xs) e ∙ length-append p rest in
    same_long r p input w0 w1 long (omega arith) h
known_page r p rest input w0 w1 e (inr none) h =
    subst (λ (xs : List ℕ). PageOutcome r xs w0 w1) (sym (append-nil p) ∙ ap (λ xs. p ++ xs) (sym none) ∙ sym e) h

at_end : (now : Option (List ℕ)) (p rest : List ℕ) → now ≡ Some rest → (8192 < length p) ⊎ IsAtEnd now → (8192 < length p) ⊎ (rest ≡ [])
at_end now p rest e h = rw e at h

-- what was read is the input, or both are longer than a page
pub read_outcome : (before now : Option (List ℕ)) (old p : List ℕ) (r : Result (Unit {0}) ShellFault) (w0 w1 : Option (List ℕ)) → old ≡ []
    → TakesText before now old p → (8192 < length p) ⊎ IsAtEnd now → PageOutcome r p w0 w1 → IfSome before (λ input. PageOutcome r input w0 w1)
read_outcome before now old p r w0 w1 none t end h =
    IfSome_then before (first_known before now old p none t) (λ input k.
    known_page r p k.0 input w0 w1 k.2 (at_end now p k.0 k.1 end) h)

-- bytes without a fault are at least as many as a page has
pub whole_page : (bytes : List ℕ) → page_fault bytes ≡ None → 8192 ≤ length bytes
whole_page bytes none = let size = page_length bytes none in omega arith

-- what is told of a page that was checked, in an empty text, is the lines of its bytes
pub page_text : (bytes text empty : List ℕ) (page : PageView) → page ≡ page_of bytes → empty ≡ []
    → text ≡ empty ++ with_feed (inspected_text page bytes) → text ≡ page_lines bytes
page_text bytes text empty page is none e = rw (none, is) at e

-- the lines of a page were written, or a beginning of them
pub told_outcome : (r : Result (Unit {0}) ShellFault) (log : Refusals) (bytes text : List ℕ) (w0 w1 : Option (List ℕ)) → page_fault bytes ≡ None → text ≡ page_lines bytes
    → OnOk r (Appends w0 w1 text) → WritesBeginning w0 w1 text → IfErr r (λ e. IsRefused e log) → PageOutcome r bytes w0 w1
told_outcome (Ok u) log bytes text w0 w1 none e all begun f = (none, subst (λ (t : List ℕ). Appends w0 w1 t) e all)
told_outcome (Err x) log bytes text w0 w1 none e all begun f =
    refused_page x log bytes w0 w1 f (inr (none, subst (λ (t : List ℕ). WritesBeginning w0 w1 t) e begun))
