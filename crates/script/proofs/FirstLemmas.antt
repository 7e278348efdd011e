-- The first line.
use Rattle.std.proofs.Common.{◌≡◌, subst, ℕ, ◌+◌, inl, inr, List, [], ◌∷◌, ◌++◌, length, take, drop, refl, ap, append_assoc, ◌∙◌, sym, Option, Some, None, Result, Ok, Err, position, IfSome}
use Rattle.std.specs.Bool.{◌==◌}
use Rattle.std.specs.List.{AllByRecursion}
use Rattle.std.proofs.lemmas.Option.{IfSome_then}
use Rattle.std.proofs.lemmas.List.{append-nil}
use Rattle.std.specs.Io.KnownBytes.{Appends}
use Rattle.calls.specs.Words.{AreSettings}
use Rattle.calls.specs.declared.settings.Settings.{Settings}
use Rattle.script.specs.Engine.{WaitingView, IsNewWaiting, beginning}
use Rattle.script_text.specs.Grammar.{IsAllowed, SettingsFit, heading, with_feed}
use Rattle.script.specs.Pieces.{TakesText, GivesText}
use Rattle.script.specs.Script.{Event, ScriptOutcome, IsBadHeading, IsScriptRun, EventsLead, WritesBeginning, line_of, answers_of, lines_of}
use Rattle.script.specs.Refusals.{Refusals, IsRefused}
use Rattle.script.specs.Steps.{Uses, Advance, Advances, MatchesHeading}
use Rattle.script.specs.Next.{IsNext}
use Rattle.script.specs.declared.run.Front.{Front}
use Rattle.script.specs.declared.run.Front.TheVariants.{Line, Bad, End}
use Rattle.script.specs.declared.fault.ShellFault.{ShellFault}
use Rattle.script.specs.declared.fault.ShellFault.TheVariants.{BadLine, BadPage, Input, Output, NoMemory, TooManyLines}
use Rattle.script.proofs.PiecesLemmas.{Appends-Appends}
use Rattle.script_text.proofs.HeadingLaws.{heading_once, settings_fit, Free-heading}
use Rattle.script.proofs.RunLemmas.{Leads-run, Uses-refl, Uses-Takes, Uses-prefix, Uses-known, no_text, text_is, position-split}

pub first_known : (before now : Option (List ℕ)) (old p : List ℕ) → old ≡ [] → TakesText before now old p → IfSome before (λ input. (rest : List ℕ) × (now ≡ Some rest) × (input ≡ p ++ rest))
first_known before now old p none t =
    IfSome_then before (Uses-known before now old [] p (Uses-Takes before before now old [] old p (Uses-refl before old) t))
    (λ input k. (k.0, k.1, sym (ap (λ r. r ++ input) none) ∙ k.2))

empty_case : (s : Settings) (more : List ℕ) → [] ≡ with_feed (heading s) ++ more → ⊥
empty_case s more e = cc

bad_if : (next : Front) (p rest input : List ℕ) → IsNext next p (Some rest) → ((n : ℕ) → next ≡ Line n → ⊥) → input ≡ p ++ rest → IsBadHeading input
bad_if (Line n) p rest input h other e = absurd (other n refl)
bad_if Bad p rest input h other e = λ s more fits flags short f. no_text p rest (heading s) more h (Free-heading s fits) short (sym e ∙ f)
bad_if End p rest input h other e = λ s more fits flags short f. empty_case s more (sym h.1 ∙ sym (ap (λ r. r ++ rest) h.0) ∙ sym e ∙ f)

pub bad_first : (before now : Option (List ℕ)) (old p : List ℕ) (next : Front) → old ≡ [] → TakesText before now old p → IsNext next p now → ((n : ℕ) → next ≡ Line n → ⊥) → IfSome before (λ input. IsBadHeading input)
bad_first before now old p next none t h other =
    IfSome_then before (first_known before now old p none t) (λ input k. bad_if next p k.0 input (rw k.1 at h) other k.2)

pub bad_text : (before now : Option (List ℕ)) (old p : List ℕ) (n : ℕ) → old ≡ [] → TakesText before now old p → position (λ b. b == 10) p ≡ Some n
    → ((s : Settings) → AreSettings s → SettingsFit s → take n p ≡ heading s → ⊥) → IfSome before (λ input. IsBadHeading input)
bad_text before now old p n none t at other =
    IfSome_then before (first_known before now old p none t) (λ input k. λ s more fits flags short f.
    other s fits (settings_fit s fits flags) (text_is p k.0 n (heading s) more at (Free-heading s fits) (sym k.2 ∙ f)))

pub first_used : (before now : Option (List ℕ)) (old p : List ℕ) (n : ℕ) (s : Settings) → old ≡ [] → TakesText before now old p → position (λ b. b == 10) p ≡ Some n → take n p ≡ heading s
    → Uses before now [] (with_feed (heading s)) (drop (n + 1) p)
first_used before now old p n s none t at h =
    let u = Uses-prefix before now old [] p (with_feed (heading s)) (drop (n + 1) p) (position-split p n at ∙ ap (λ x. with_feed x ++ drop (n + 1) p) h) (Uses-Takes before before now old [] old p (Uses-refl before old) t) in
    subst (λ (o : List ℕ). Uses before now o (with_feed (heading s)) (drop (n + 1) p)) none u

pub nothing_first : (a b c : Option (List ℕ)) (x : List ℕ) → Appends a b [] → Appends b c x → Appends a c x
nothing_first a b c x h k = Appends-Appends a b c [] x h k

pub begun_first : (a b c : Option (List ℕ)) (x : List ℕ) → Appends a b [] → WritesBeginning b c x → WritesBeginning a c x
begun_first a b c x h k = (k.0, (k.1.0, nothing_first a b c k.1.0 h k.1.1, k.1.2))

-- a new engine of the settings, which a first line can spell, leads on
pub ran_from : (s : Settings) (from : WaitingView) (events : List Event) (last : WaitingView) → AreSettings s → length s.indexed ≡ 4 → IsNewWaiting s from
    → AllByRecursion (λ e. IsAllowed (line_of e)) events → EventsLead from events last → IsScriptRun s events
ran_from s from events last fits columns new allowed led = record {
  in_range = fits;
  columns = columns;
  allowed = allowed;
  run = Leads-run (beginning s.indexed) from events last new.agrees led;
  first = from;
  new = new;
  last = last;
  leads = led;
}

outcome_is : (s : Settings) (from : WaitingView) (input bytes : List ℕ) (w0 w1 w2 : Option (List ℕ)) (r : Result (Unit {0}) ShellFault) → AreSettings s → length s.indexed ≡ 4 → IsNewWaiting s from
    → Appends w0 w1 [] → input ≡ with_feed (heading s) ++ bytes → Advance from bytes w1 w2 [] r → ScriptOutcome r input w0 w2
outcome_is s from input bytes w0 w1 w2 (Ok u) fits columns new q e h = (
  s,
  h.events,
  ran_from s from h.events h.last fits columns new h.allowed h.leads,
  e ∙ ap (λ x. with_feed (heading s) ++ x) (h.lines ∙ ap (λ x. lines_of h.events ++ x) h.ends.0 ∙ append-nil (lines_of h.events)),
  nothing_first w0 w1 w2 (answers_of h.events) q h.ends.1,
)
outcome_is s from input bytes w0 w1 w2 (Err (BadLine n)) fits columns new q e h =
    inr (
      s,
      h.events,
      h.left,
      ran_from s from h.events h.last fits columns new h.allowed h.leads,
      e ∙ ap (λ x. with_feed (heading s) ++ x) h.lines ∙ sym (append_assoc (with_feed (heading s)) (lines_of h.events) h.left),
      h.ends.1,
      h.ends.0,
      nothing_first w0 w1 w2 (answers_of h.events) q h.ends.2,
    )
outcome_is s from input bytes w0 w1 w2 (Err (BadPage fault)) fits columns new q e h = absurd h.ends
outcome_is s from input bytes w0 w1 w2 (Err Input) fits columns new q e h =
    inr (
      s,
      h.events,
      h.left,
      ran_from s from h.events h.last fits columns new h.allowed h.leads,
      e ∙ ap (λ x. with_feed (heading s) ++ x) h.lines ∙ sym (append_assoc (with_feed (heading s)) (lines_of h.events) h.left),
      begun_first w0 w1 w2 (answers_of h.events) q h.ends,
    )
outcome_is s from input bytes w0 w1 w2 (Err Output) fits columns new q e h =
    inr (
      s,
      h.events,
      h.left,
      ran_from s from h.events h.last fits columns new h.allowed h.leads,
      e ∙ ap (λ x. with_feed (heading s) ++ x) h.lines ∙ sym (append_assoc (with_feed (heading s)) (lines_of h.events) h.left),
      begun_first w0 w1 w2 (answers_of h.events) q h.ends,
    )
outcome_is s from input bytes w0 w1 w2 (Err NoMemory) fits columns new q e h =
    inr (
      s,
      h.events,
      h.left,
      ran_from s from h.events h.last fits columns new h.allowed h.leads,
      e ∙ ap (λ x. with_feed (heading s) ++ x) h.lines ∙ sym (append_assoc (with_feed (heading s)) (lines_of h.events) h.left),
      begun_first w0 w1 w2 (answers_of h.events) q h.ends,
    )
outcome_is s from input bytes w0 w1 w2 (Err TooManyLines) fits columns new q e h = (
  s,
  h.events,
  h.left,
  ran_from s from h.events h.last fits columns new h.allowed h.leads,
  e ∙ ap (λ x. with_feed (heading s) ++ x) h.lines ∙ sym (append_assoc (with_feed (heading s)) (lines_of h.events) h.left),
  h.ends.0,
  begun_first w0 w1 w2 (answers_of h.events) q h.ends.1,
)

pub outcome_from : (before now : Option (List ℕ)) (p text : List ℕ) (from : WaitingView) (s : Settings) (w0 w1 w2 : Option (List ℕ)) (r : Result (Unit {0}) ShellFault)
    → Uses before now [] (with_feed (heading s)) p → AreSettings s → length s.indexed ≡ 4 → Appends w0 w1 [] → IsNewWaiting s from → text ≡ [] → Advances from now w1 w2 p text r → IfSome before (λ input. ScriptOutcome r input w0 w2)
outcome_from before now p text from s w0 w1 w2 r u fits columns q new none h =
    IfSome_then before (Uses-known before now [] (with_feed (heading s)) p u) (λ input k.
    outcome_is s from input (p ++ k.0) w0 w1 w2 r fits columns new q k.2 (rw (k.1, none) at h))

-- a refusal says nothing of the first line
pub no_heading : (e : ShellFault) (log : Refusals) (input : Option (List ℕ)) → IsRefused e log → MatchesHeading e input
no_heading (BadLine n) log input f = absurd f
no_heading (BadPage fault) log input f = absurd f
no_heading Input log input f = tt
no_heading Output log input f = tt
no_heading NoMemory log input f = tt
no_heading TooManyLines log input f = absurd f

-- no line was read, but perhaps a bad first one
pub outcome_of_none : (e : ShellFault) (input w0 w1 : Option (List ℕ)) → MatchesHeading e input → Appends w0 w1 [] → IfSome input (λ bytes. ScriptOutcome (Err e) bytes w0 w1)
outcome_of_none e None w0 w1 h quiet = tt
outcome_of_none (BadLine n) (Some bytes) w0 w1 h quiet = inl (h.0, quiet, h.1)
outcome_of_none (BadPage fault) (Some bytes) w0 w1 h quiet = absurd h
outcome_of_none Input (Some bytes) w0 w1 h quiet = inl quiet
outcome_of_none Output (Some bytes) w0 w1 h quiet = inl quiet
outcome_of_none NoMemory (Some bytes) w0 w1 h quiet = inl quiet
outcome_of_none TooManyLines (Some bytes) w0 w1 h quiet = absurd h

pub bad_settings : (before now : Option (List ℕ)) (old p : List ℕ) (n : ℕ) (s : Settings) → old ≡ [] → TakesText before now old p → position (λ b. b == 10) p ≡ Some n
    → SettingsFit s × (take n p ≡ heading s) → (AreSettings s → ⊥) → IfSome before (λ input. IsBadHeading input)
bad_settings before now old p n s none t at read outside =
    bad_text before now old p n none t at (λ s' fits fit e. outside (subst AreSettings (sym (heading_once s s' read.0 fit (sym read.1 ∙ e))) fits))

nil_front : (xs ys : List ℕ) → [] ≡ xs ++ ys → xs ≡ []
nil_front [] ys e = refl
nil_front (x ∷ xs) ys e = cc

pub nothing_given : (a b : Option (List ℕ)) (text left : List ℕ) → text ≡ [] → GivesText a b text left → Appends a b []
nothing_given a b text left none h = rw (← nil_front h.0 left (sym none ∙ h.2)) h.1
