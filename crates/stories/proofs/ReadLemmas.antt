-- Lines behind the first, read one after another, while nothing is written.
use Rattle.std.proofs.Common.{◌≡◌, ℕ, ◌+◌, ◌<◌, ◌≤◌, inl, inr, List, [], ◌∷◌, ◌++◌, length, take, drop, refl, ap, length-append, ◌∙◌, sym, subst, arith, Option, None, Some, Ok, Err, position, IfSome}
use Rattle.std.specs.Bool.{◌==◌}
use Rattle.std.specs.List.{AllByRecursion}
use Rattle.std.proofs.lemmas.List.{length-take-le}
use Rattle.std.proofs.lemmas.Option.{IfSome_then}
use Rattle.std.proofs.KnownBytes.{Appends-nil, Appends-trans}
use Rattle.std.specs.Io.KnownBytes.{Appends, IsAtEnd}
use Rattle.script.specs.Engine.{WaitingView}
use Rattle.script_text.specs.Grammar.{with_feed}
use Rattle.script.specs.Pieces.{TakesText, HasNoLine}
use Rattle.script.specs.Refusals.{Refusals, IsRefused}
use Rattle.script.specs.Steps.{Uses}
use Rattle.script.specs.declared.fault.ShellFault.{ShellFault}
use Rattle.script.specs.declared.fault.ShellFault.TheVariants.{BadLine, BadPage, Input, Output, NoMemory, TooManyLines as NumbersRanOut}
use Rattle.script.proofs.RunLemmas.{Uses-refl, Uses-Takes, Uses-prefix, Uses-known, position-split}
use Rattle.viewing.specs.Viewing.{ViewEvent, view_line, view_lines, IsViewAllowed, ViewMoves, ViewsLead, IsBadView}
use Rattle.viewing.specs.Steps.{ViewFits, IsNoView}
use Rattle.viewing.proofs.RunLemmas.{bad_from_none, bad_from_line, Leads-push, all-push, lines-push, allowed_from}
use Rattle.stories.specs.declared.draw_fault.DrawFault.{DrawFault}
use Rattle.stories.specs.declared.draw_fault.DrawFault.TheVariants.{Script, TooManyPages, NoSuchPage}
use Rattle.stories.specs.DrawOutcomes.{LinesRead, IsBadNext, IsFromOutside, IsReadFault, RunsTo}

-- One more event.

-- How far the lines have come.

pub record ReadSoFar (from state : WaitingView) (before now : Option (List ℕ)) (old new : List ℕ) (w0 w1 : Option (List ℕ)) (n : ℕ) : Type 0 where
  pub events : List ViewEvent
  pub allowed : AllByRecursion IsViewAllowed events
  pub leads : ViewsLead from events state
  pub uses : Uses before now old (view_lines events) new
  pub quiet : Appends w0 w1 []
  pub count : n ≡ length events

abbrev pub read-nothing : (e : WaitingView) (before : Option (List ℕ)) (old : List ℕ) (w : Option (List ℕ)) → ReadSoFar e e before before old old w w 0
read-nothing e before old w = record {
  events = [];
  allowed = tt;
  leads = refl;
  uses = Uses-refl before old;
  quiet = Appends-nil w;
  count = refl;
}

-- more is read
abbrev pub read-more : (from state : WaitingView) (before now now' : Option (List ℕ)) (old new new' : List ℕ) (w0 w1 w2 : Option (List ℕ)) (n : ℕ) → ReadSoFar from state before now old new w0 w1 n
    → TakesText now now' new new' → Appends w1 w2 [] → ReadSoFar from state before now' old new' w0 w2 n
read-more from state before now now' old new new' w0 w1 w2 n h t q = record {
  events = h.events;
  allowed = h.allowed;
  leads = h.leads;
  uses = Uses-Takes before now now' old (view_lines h.events) new new' h.uses t;
  quiet = Appends-trans w0 w1 w2 [] [] h.quiet q;
  count = h.count;
}

-- a line is used
abbrev pub read-line : (from state state' : WaitingView) (before now : Option (List ℕ)) (old new : List ℕ) (w0 w1 : Option (List ℕ)) (n k : ℕ) (e : ViewEvent)
    → ReadSoFar from state before now old new w0 w1 n → position (λ b. b == 10) new ≡ Some k → k ≤ 4096 → k < length new
    → ViewFits e → take k new ≡ view_line e → ViewMoves state e state' → ReadSoFar from state' before now old (drop (k + 1) new) w0 w1 (n + 1)
read-line from state state' before now old new w0 w1 n k e h at short within fits line moves =
    let size : length (take k new) ≡ k = length-take-le k new (omega arith) in
    record {
      events = h.events ++ e ∷ [];
      allowed = all-push h.events e h.allowed (allowed_from e fits (rw (← line) (omega arith)));
      leads = Leads-push from h.events state e state' h.leads moves;
      uses = rw (lines-push h.events e) (Uses-prefix before now old (view_lines h.events) new (with_feed (view_line e)) (drop (k + 1) new)
          (position-split new k at ∙ ap (λ x. with_feed x ++ drop (k + 1) new) line) h.uses);
      quiet = h.quiet;
      count = ap (λ m. m + 1) h.count ∙ sym (length-append h.events (e ∷ []));
    }

-- Ends.

abbrev pub read-lines : (from state : WaitingView) (before now : Option (List ℕ)) (old new : List ℕ) (w0 w1 : Option (List ℕ)) (n : ℕ) (h : ReadSoFar from state before now old new w0 w1 n)
    (input rest : List ℕ) → old ++ input ≡ view_lines h.events ++ (new ++ rest) → LinesRead from (old ++ input)
read-lines from state before now old new w0 w1 n h input rest all = record {
  events = h.events;
  allowed = h.allowed;
  last = state;
  leads = h.leads;
  rest = new ++ rest;
  all = all;
}

-- what is so of all that was read and of what is left is so of the input
pub read-known : (P : List ℕ → Type 0) (from state : WaitingView) (before now : Option (List ℕ)) (old new : List ℕ) (w0 w1 : Option (List ℕ)) (n : ℕ) (h : ReadSoFar from state before now old new w0 w1 n)
    → ((input rest : List ℕ) → now ≡ Some rest → old ++ input ≡ view_lines h.events ++ (new ++ rest) → P (old ++ input)) → IfSome before (λ input. P (old ++ input))
read-known P from state before now old new w0 w1 n h then =
    IfSome_then before (Uses-known before now old (view_lines h.events) new h.uses) (λ input k. then input k.0 k.1 k.2)

pub nothing-left : (new rest : List ℕ) (now : Option (List ℕ)) → now ≡ Some rest → (new ≡ []) × IsAtEnd now → new ++ rest ≡ []
nothing-left new rest now is end = let at_end = rw is at end.1 in rw (end.0, at_end) refl

-- the next line is bad
pub bad-next : (from state : WaitingView) (before now : Option (List ℕ)) (old new : List ℕ) (w0 w1 : Option (List ℕ)) (n number : ℕ) → ReadSoFar from state before now old new w0 w1 n
    → number ≡ n + 2 → ((rest : List ℕ) → now ≡ Some rest → IsBadView (new ++ rest)) → IfSome before (λ input. IsBadNext from (old ++ input) number)
bad-next from state before now old new w0 w1 n number h is bad =
    read-known (λ input. IsBadNext from input number) from state before now old new w0 w1 n h (λ input rest e all.
    (read-lines from state before now old new w0 w1 n h input rest all, bad rest e, is ∙ ap (λ k. k + 2) h.count))

pub no-line : (new : List ℕ) (now : Option (List ℕ)) → HasNoLine new now → (rest : List ℕ) → now ≡ Some rest → IsBadView (new ++ rest)
no-line new now h rest e = bad_from_none new rest (rw e at h)

pub no-view : (new : List ℕ) (k : ℕ) → position (λ b. b == 10) new ≡ Some k → IsNoView (take k new) → (rest : List ℕ) → IsBadView (new ++ rest)
no-view new k at none rest = bad_from_line new rest k at none

-- a refusal
pub is-from_outside : (f : ShellFault) (log : Refusals) → IsRefused f log → IsFromOutside f
is-from_outside (BadLine n) log r = r
is-from_outside (BadPage fault) log r = r
is-from_outside Input log r = tt
is-from_outside Output log r = tt
is-from_outside NoMemory log r = tt
is-from_outside NumbersRanOut log r = r

pub always : (o : Option (List ℕ)) (P : List ℕ → Type 0) → ((xs : List ℕ) → P xs) → IfSome o P
always None P p = tt
always (Some xs) P p = p xs

pub refused-run : (from to : WaitingView) (most : ℕ) (f : DrawFault) (log : Refusals) → IsReadFault f log → (input : List ℕ) → RunsTo from to most input (Err f)
refused-run from to most (Script (BadLine n)) log r input = absurd r
refused-run from to most (Script (BadPage fault)) log r input = absurd r
refused-run from to most (Script Input) log r input = tt
refused-run from to most (Script Output) log r input = tt
refused-run from to most (Script NoMemory) log r input = tt
refused-run from to most (Script NumbersRanOut) log r input = absurd r
refused-run from to most TooManyPages log r input = absurd r
refused-run from to most (NoSuchPage p) log r input = absurd r

-- Runs.

pub runs-all : (from state : WaitingView) (before now : Option (List ℕ)) (old new : List ℕ) (w0 w1 : Option (List ℕ)) (n most : ℕ) → ReadSoFar from state before now old new w0 w1 n
    → n ≤ most → (new ≡ []) × IsAtEnd now → IfSome before (λ input. RunsTo from state most (old ++ input) (Ok tt))
runs-all from state before now old new w0 w1 n most h within end =
    read-known (λ input. RunsTo from state most input (Ok tt)) from state before now old new w0 w1 n h (λ input rest e all.
    (read-lines from state before now old new w0 w1 n h input rest all, refl, inr (subst (λ k. k ≤ most) h.count within, nothing-left new rest now e end)))

pub runs-most : (from state : WaitingView) (before now : Option (List ℕ)) (old new : List ℕ) (w0 w1 : Option (List ℕ)) (n most : ℕ) → ReadSoFar from state before now old new w0 w1 n
    → n ≡ most → IfSome before (λ input. RunsTo from state most (old ++ input) (Ok tt))
runs-most from state before now old new w0 w1 n most h whole =
    read-known (λ input. RunsTo from state most input (Ok tt)) from state before now old new w0 w1 n h (λ input rest e all.
    (read-lines from state before now old new w0 w1 n h input rest all, refl, inl (sym h.count ∙ whole)))
