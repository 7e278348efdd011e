-- The outcome of a script for threads.
use Rattle.std.proofs.Common.{◌≡◌, ℕ, ◌+◌, ◌<◌, ◌≤◌, ◌⊎◌, inl, inr, List, [], ◌∷◌, ◌++◌, length, take, drop, refl, ap, append_assoc, ◌∙◌, sym, subst, arith, get_or, Option, None, Some, Result, Ok, Err, IfSome, IfErr}
use Rattle.std.specs.Prelude.{OnOk}
use Rattle.std.specs.List.{flat_map}
use Rattle.std.proofs.lemmas.Option.{IfSome_then}
use Rattle.std.proofs.lemmas.List.{append-nil, take-append-drop, take_more}
use Rattle.std.proofs.lemmas.Grind.{flat_map-append}
use Rattle.std.specs.Io.KnownBytes.{Appends}
use Rattle.calls.specs.Words.{AreSettings}
use Rattle.calls.specs.declared.reply.Reply.{Reply}
use Rattle.calls.specs.declared.settings.Settings.{Settings}
use Rattle.calls.specs.declared.step.Step.{Step}
use Rattle.shared_heap.specs.Books.{BookView, IsBookOf}
use Rattle.shared_heap.specs.Merge.{IsMerge}
use Rattle.shared_heap.specs.declared.line.WorkerLine.{WorkerLine}
use Rattle.shared_heap.proofs.Running.{IsBookOf-run}
use Rattle.script_text.specs.Grammar.{heading, with_feed}
use Rattle.script_text.specs.declared.worker_step.WorkerStep.{WorkerStep}
use Rattle.script.specs.Pieces.{GivesText}
use Rattle.script.specs.Refusals.{Refusals, IsRefused, IsCaused}
use Rattle.script.specs.Script.{WritesBeginning}
use Rattle.script.specs.Steps.{Uses, MatchesHeading}
use Rattle.script.specs.Threads.{lists_for, workers_text, threads_script, lines_of_entry, journal_text, AreThreadsLines, AreDone, ThreadsOutcome}
use Rattle.script.specs.Reading.{IsRead, ReadsLines}
use Rattle.script.specs.declared.fault.ShellFault.{ShellFault}
use Rattle.script.specs.declared.fault.ShellFault.TheVariants.{BadLine, BadPage, Input, Output, NoMemory, TooManyLines}
use Rattle.script.proofs.PiecesLemmas.{Appends-Appends, Gives-Gives}
use Rattle.script.proofs.RunLemmas.{Uses-known, Gives-push, caused_by}
use Rattle.script.proofs.FirstLemmas.{no_heading, begun_first}

-- what was refused causes the fault
pub if_caused : (r : Result (Unit {0}) ShellFault) (log : Refusals) → IfErr r (λ e. IsRefused e log) → IfErr r (λ e. IsCaused e log)
if_caused (Ok u) log f = tt
if_caused (Err e) log f = caused_by e log f

-- no settings were read
pub outcome_of_none : (e : ShellFault) (input w0 w1 : Option (List ℕ)) → MatchesHeading e input → Appends w0 w1 [] → IfSome input (λ bytes. ThreadsOutcome (Err e) bytes w0 w1)
outcome_of_none e None w0 w1 h quiet = tt
outcome_of_none (BadLine n) (Some bytes) w0 w1 h quiet = (quiet, inl (h.0, h.1))
outcome_of_none (BadPage fault) (Some bytes) w0 w1 h quiet = absurd h
outcome_of_none Input (Some bytes) w0 w1 h quiet = inl quiet
outcome_of_none Output (Some bytes) w0 w1 h quiet = inl quiet
outcome_of_none NoMemory (Some bytes) w0 w1 h quiet = inl quiet
outcome_of_none TooManyLines (Some bytes) w0 w1 h quiet = absurd h

-- a refusal before anything is written
pub outcome_of_refusal : (e : ShellFault) (log : Refusals) (input w0 w1 : Option (List ℕ)) → IsRefused e log → Appends w0 w1 [] → IfSome input (λ bytes. ThreadsOutcome (Err e) bytes w0 w1)
outcome_of_refusal e log input w0 w1 f quiet = outcome_of_none e input w0 w1 (no_heading e log input f) quiet

lines_are : (s : Settings) (input bytes : List ℕ) (lists : List (List WorkerLine)) (r : Result (Unit {0}) ShellFault) → (h : IsRead bytes lists r) → input ≡ with_feed (heading s) ++ bytes
    → input ≡ threads_script s h.lines ++ h.left
lines_are s input bytes lists r h e = e ∙ ap (λ x. with_feed (heading s) ++ x) h.text ∙ sym (append_assoc (with_feed (heading s)) (workers_text h.lines) h.left)

stopped_is : (s : Settings) (input bytes : List ℕ) (w0 w1 : Option (List ℕ)) (lists : List (List WorkerLine)) (e : ShellFault) → AreSettings s → length s.indexed ≡ 4 → Appends w0 w1 []
    → input ≡ with_feed (heading s) ++ bytes → IsRead bytes lists (Err e) → ThreadsOutcome (Err e) input w0 w1
stopped_is s input bytes w0 w1 lists (BadLine n) fits columns quiet is h =
    (quiet, inr (s, h.lines, h.left, record { in_range = fits; columns = columns; allowed = h.allowed }, lines_are s input bytes lists _ h is, h.ends.1, h.ends.0))
stopped_is s input bytes w0 w1 lists (BadPage fault) fits columns quiet is h = absurd h.ends
stopped_is s input bytes w0 w1 lists Input fits columns quiet is h = inl quiet
stopped_is s input bytes w0 w1 lists Output fits columns quiet is h = inl quiet
stopped_is s input bytes w0 w1 lists NoMemory fits columns quiet is h = inl quiet
stopped_is s input bytes w0 w1 lists TooManyLines fits columns quiet is h =
    (quiet, (s, h.lines, h.left, record { in_range = fits; columns = columns; allowed = h.allowed }, lines_are s input bytes lists _ h is, h.ends))

-- the reading of the lines ended with a fault
pub outcome_of_stop : (before now : Option (List ℕ)) (p : List ℕ) (s : Settings) (w0 w1 w2 : Option (List ℕ)) (lists : List (List WorkerLine)) (e : ShellFault) → Uses before now [] (with_feed (heading s)) p
    → AreSettings s → length s.indexed ≡ 4 → Appends w0 w1 [] → Appends w1 w2 [] → ReadsLines now p lists (Err e) → IfSome before (λ input. ThreadsOutcome (Err e) input w0 w2)
outcome_of_stop before now p s w0 w1 w2 lists e u fits columns q q' h =
    IfSome_then before (Uses-known before now [] (with_feed (heading s)) p u) (λ input k.
    stopped_is s input (p ++ k.0) w0 w2 lists e fits columns (Appends-Appends w0 w1 w2 [] [] q q') k.2 (rw k.1 at h))

-- the workers did their lists
done_is : (s : Settings) (lines : List WorkerStep) (book : BookView) → IsBookOf s book → IsMerge (lists_for lines) book.journal → AreDone s lines book.journal
done_is s lines book made merge = record { merge = merge; run = (IsBookOf-run s book made).run; book = book; made = made; noted = refl }

written_is : (s : Settings) (lines : List WorkerStep) (input : List ℕ) (journal : List (Step × Reply)) (w0 w1 w2 : Option (List ℕ)) (r : Result (Unit {0}) ShellFault) (log : Refusals)
    → AreThreadsLines s lines → input ≡ threads_script s lines → AreDone s lines journal → Appends w0 w1 []
    → OnOk r (Appends w1 w2 (journal_text journal)) → WritesBeginning w1 w2 (journal_text journal) → IfErr r (λ e. IsRefused e log) → ThreadsOutcome r input w0 w2
written_is s lines input journal w0 w1 w2 (Ok u) log are is done q all begins f = (s, lines, journal, are, is, done, Appends-Appends w0 w1 w2 [] (journal_text journal) q all)
written_is s lines input journal w0 w1 w2 (Err (BadLine n)) log are is done q all begins f = absurd f
written_is s lines input journal w0 w1 w2 (Err (BadPage fault)) log are is done q all begins f = absurd f
written_is s lines input journal w0 w1 w2 (Err Input) log are is done q all begins f = inr (s, lines, journal, are, is, done, begun_first w0 w1 w2 (journal_text journal) q begins)
written_is s lines input journal w0 w1 w2 (Err Output) log are is done q all begins f = inr (s, lines, journal, are, is, done, begun_first w0 w1 w2 (journal_text journal) q begins)
written_is s lines input journal w0 w1 w2 (Err NoMemory) log are is done q all begins f = inr (s, lines, journal, are, is, done, begun_first w0 w1 w2 (journal_text journal) q begins)
written_is s lines input journal w0 w1 w2 (Err TooManyLines) log are is done q all begins f = absurd f

read_whole : (s : Settings) (input bytes : List ℕ) (lists : List (List WorkerLine)) → (h : IsRead bytes lists (Ok tt)) → input ≡ with_feed (heading s) ++ bytes → input ≡ threads_script s h.lines
read_whole s input bytes lists h is = lines_are s input bytes lists (Ok tt) h is ∙ ap (λ x. threads_script s h.lines ++ x) h.ends.0 ∙ append-nil (threads_script s h.lines)

-- all lines were read and done, and the journal was written, or a beginning of it
pub outcome_of_run : (before now : Option (List ℕ)) (p : List ℕ) (s : Settings) (w0 w1 w2 w3 : Option (List ℕ)) (lists : List (List WorkerLine)) (book : BookView) (r : Result (Unit {0}) ShellFault) (log : Refusals)
    → Uses before now [] (with_feed (heading s)) p → AreSettings s → length s.indexed ≡ 4 → Appends w0 w1 [] → Appends w1 w2 [] → ReadsLines now p lists (Ok tt)
    → IsBookOf s book → IsMerge lists book.journal → (shown : List (Step × Reply)) → shown ≡ book.journal
    → OnOk r (Appends w2 w3 (journal_text shown)) → WritesBeginning w2 w3 (journal_text shown) → IfErr r (λ e. IsRefused e log) → IfSome before (λ input. ThreadsOutcome r input w0 w3)
outcome_of_run before now p s w0 w1 w2 w3 lists book r log u fits columns q q' read made merge shown is all begins f =
    IfSome_then before (Uses-known before now [] (with_feed (heading s)) p u) (λ input k.
    let h : IsRead (p ++ k.0) lists (Ok tt) = rw k.1 at read in
    written_is s h.lines input book.journal w0 w2 w3 r log (record { in_range = fits; columns = columns; allowed = h.allowed }) (read_whole s input (p ++ k.0) lists h k.2)
    (done_is s h.lines book made (subst (λ (xs : List (List WorkerLine)). IsMerge xs book.journal) h.ends.1 merge)) (Appends-Appends w0 w1 w2 [] [] q q')
    (subst (λ (j : List (Step × Reply)). OnOk r (Appends w2 w3 (journal_text j))) is all) (subst (λ (j : List (Step × Reply)). WritesBeginning w2 w3 (journal_text j)) is begins) f)

-- one entry more is told
pub journal_text-push : (entries : List (Step × Reply)) (entry : Step × Reply) → journal_text (entries ++ entry ∷ []) ≡ journal_text entries ++ lines_of_entry entry
journal_text-push entries entry = flat_map-append lines_of_entry entries (entry ∷ []) ∙ ap (λ x. journal_text entries ++ x) (append-nil (lines_of_entry entry))

journal_split : (journal : List (Step × Reply)) (n : ℕ) → journal_text journal ≡ journal_text (take n journal) ++ journal_text (drop n journal)
journal_split journal n = ap (λ (j : List (Step × Reply)). journal_text j) (sym (take-append-drop n journal)) ∙ flat_map-append lines_of_entry (take n journal) (drop n journal)

-- what was written of the first entries is a beginning of the whole
pub beginning_is : (a b : Option (List ℕ)) (journal : List (Step × Reply)) (n : ℕ) (left : List ℕ) → GivesText a b (journal_text (take n journal)) left → WritesBeginning a b (journal_text journal)
beginning_is a b journal n left h =
    (left ++ journal_text (drop n journal), rw (journal_split journal n) (Gives-push a b (journal_text (take n journal)) left (journal_text (drop n journal)) (left ++ journal_text (drop n journal)) h refl))

-- and what is written after that
pub beginning_then : (a b c : Option (List ℕ)) (journal : List (Step × Reply)) (n : ℕ) (text : List ℕ) → GivesText a b (journal_text (take n journal)) text → WritesBeginning b c text → WritesBeginning a c (journal_text journal)
beginning_then a b c journal n text h k = beginning_is a c journal n k.0 (Gives-Gives a b c (journal_text (take n journal)) text k.0 h k.1)

-- an entry is told behind the others
pub told : (a b : Option (List ℕ)) (journal : List (Step × Reply)) (i : ℕ) (entry : Step × Reply) (text text' : List ℕ) → i < length journal → entry ≡ get_or journal i entry
    → GivesText a b (journal_text (take i journal)) text → text' ≡ text ++ lines_of_entry entry → GivesText a b (journal_text (take (i + 1) journal)) text'
told a b journal i entry text text' within is h e =
    let more : take (i + 1) journal ≡ take i journal ++ entry ∷ [] = take_more journal i entry within ∙ ap (λ (x : Step × Reply). take i journal ++ x ∷ []) (sym is) in
    let text_is : journal_text (take (i + 1) journal) ≡ journal_text (take i journal) ++ lines_of_entry entry = ap (λ (j : List (Step × Reply)). journal_text j) more ∙ journal_text-push (take i journal) entry in
    rw text_is (Gives-push a b (journal_text (take i journal)) text (lines_of_entry entry) text' h e)
