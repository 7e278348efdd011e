-- Lines behind the first that are told, one after another.
use Rattle.std.proofs.Common.{◌≡◌, ℕ, ◌+◌, ◌<◌, ◌≤◌, List, [], ◌∷◌, ◌++◌, length, take, drop, refl, ap, append_assoc, length-append, ◌∙◌, sym, subst, arith, Option, None, Some, Result, Ok, Err, position, IfSome}
use Rattle.std.specs.Bool.{◌==◌}
use Rattle.std.proofs.lemmas.List.{append-nil}
use Rattle.std.proofs.lemmas.Grind.{flat_map-append}
use Rattle.std.proofs.lemmas.Option.{IfSome_then}
use Rattle.std.specs.Io.KnownBytes.{Appends, IsAtEnd}
use Rattle.script.specs.Engine.{WaitingView}
use Rattle.script_text.specs.Grammar.{with_feed}
use Rattle.script.specs.Pieces.{TakesText}
use Rattle.script.specs.Refusals.{Refusals}
use Rattle.script.specs.declared.fault.ShellFault.TheVariants.{BadLine, BadPage, Input, Output, NoMemory, TooManyLines as NumbersRanOut}
use Rattle.script.proofs.RunLemmas.{Uses-refl, Uses-Takes, Uses-known}
use Rattle.viewing.specs.Viewing.{ViewEvent, view_line, view_answer, ViewMoves}
use Rattle.stories.specs.declared.fault.StoryFault.{StoryFault}
use Rattle.stories.specs.declared.fault.StoryFault.TheVariants.{Drawing, TooManyLines}
use Rattle.stories.specs.declared.draw_fault.DrawFault.{DrawFault}
use Rattle.stories.specs.declared.draw_fault.DrawFault.TheVariants.{Script, TooManyPages, NoSuchPage}
use Rattle.stories.specs.DrawOutcomes.{IsReadFault}
use Rattle.stories.proofs.ReadLemmas.{ReadSoFar, read-nothing, read-more, read-line, read-lines, read-known, nothing-left, is-from_outside, always}
use Rattle.stories.specs.Html.{item_html, items_html}
use Rattle.stories.specs.Telling.{IsTold, AreTold, TellsLine, IsTellFault}
use Rattle.stories.specs.Outcomes.{TellsAll, EndsHere}

told-push : (from : WaitingView) (events : List ViewEvent) (mid : WaitingView) (text : List ℕ) (e : ViewEvent) (to : WaitingView) (one : List ℕ) → AreTold from events mid text
    → ViewMoves mid e to → IsTold mid to (view_line e) one → AreTold from (events ++ e ∷ []) to (text ++ one)
told-push from [] mid text e to one told moves is = (
  to,
  one,
  [],
  subst (λ (st : WaitingView). ViewMoves st e to) (sym told.0) moves,
  subst (λ (st : WaitingView). IsTold st to (view_line e) one) (sym told.0) is,
  (refl, refl),
  ap (λ x. x ++ one) told.1 ∙ sym (append-nil one),
)
told-push from (x ∷ xs) mid text e to one told moves is =
    (told.0, told.1, told.2 ++ one, told.3, told.4, told-push told.0 xs mid told.2 e to one told.5 moves is, ap (λ r. r ++ one) told.6 ∙ append_assoc told.1 told.2 one)

items-push : (events : List ViewEvent) (e : ViewEvent) → items_html (events ++ e ∷ []) ≡ items_html events ++ item_html (view_line e) (with_feed (view_answer e))
items-push events e =
    flat_map-append (λ e. item_html (view_line e) (with_feed (view_answer e))) events (e ∷ []) ∙ ap (λ x. items_html events ++ x) (append-nil (item_html (view_line e) (with_feed (view_answer e))))

pub record ToldSoFar (from state : WaitingView) (before now : Option (List ℕ)) (old new : List ℕ) (w0 w1 : Option (List ℕ)) (items items' told told' : List ℕ) (n : ℕ) : Type 0 where
  pub read : ReadSoFar from state before now old new w0 w1 n
  pub text : List ℕ
  pub are_told : AreTold from read.events state text
  pub told_is : told' ≡ told ++ text
  pub items_is : items' ≡ items ++ items_html read.events

pub told-nothing : (e : WaitingView) (before : Option (List ℕ)) (old : List ℕ) (w : Option (List ℕ)) (items told : List ℕ) → ToldSoFar e e before before old old w w items items told told 0
told-nothing e before old w items told = record {
  read = read-nothing e before old w;
  text = [];
  are_told = (refl, refl);
  told_is = sym (append-nil told);
  items_is = sym (append-nil items);
}

pub told-more : (from state : WaitingView) (before now now' : Option (List ℕ)) (old new new' : List ℕ) (w0 w1 w2 : Option (List ℕ)) (items items' told told' : List ℕ) (n : ℕ)
    → ToldSoFar from state before now old new w0 w1 items items' told told' n → TakesText now now' new new' → Appends w1 w2 [] → ToldSoFar from state before now' old new' w0 w2 items items' told told' n
told-more from state before now now' old new new' w0 w1 w2 items items' told told' n h t q = record {
  read = read-more from state before now now' old new new' w0 w1 w2 n h.read t q;
  text = h.text;
  are_told = h.are_told;
  told_is = h.told_is;
  items_is = h.items_is;
}

pub told-line : (from state state' : WaitingView) (before now : Option (List ℕ)) (old new : List ℕ) (w0 w1 : Option (List ℕ)) (items items' items'' told told' told'' : List ℕ) (n k : ℕ)
    → ToldSoFar from state before now old new w0 w1 items items' told told' n → position (λ b. b == 10) new ≡ Some k → k ≤ 4096 → k < length new
    → TellsLine (take k new) state state' items' items'' told' told'' → ToldSoFar from state' before now old (drop (k + 1) new) w0 w1 items items'' told told'' (n + 1)
told-line from state state' before now old new w0 w1 items items' items'' told told' told'' n k h at short within t = record {
  read = read-line from state state' before now old new w0 w1 n k t.event h.read at short within t.fits t.line_is t.moves;
  text = h.text ++ t.one;
  are_told = told-push from h.read.events state h.text t.event state' t.one h.are_told t.moves (subst (λ line. IsTold state state' line t.one) t.line_is t.one_told);
  told_is = t.told_behind ∙ ap (λ x. x ++ t.one) h.told_is ∙ append_assoc told h.text t.one;
  items_is = t.items_behind ∙ ap (λ line. items' ++ item_html line (with_feed (view_answer t.event))) t.line_is
      ∙ ap (λ x. x ++ item_html (view_line t.event) (with_feed (view_answer t.event))) h.items_is
      ∙ append_assoc items (items_html h.read.events) (item_html (view_line t.event) (with_feed (view_answer t.event)))
      ∙ ap (λ x. items ++ x) (sym (items-push h.read.events t.event));
}

-- Ends.

pub tells-all : (from state : WaitingView) (before now : Option (List ℕ)) (old new : List ℕ) (w0 w1 : Option (List ℕ)) (items items' told told' : List ℕ) (n : ℕ)
    → ToldSoFar from state before now old new w0 w1 items items' told told' n → n + 1 ≤ 2000 → IfSome now (λ rest. new ++ rest ≡ [])
    → IfSome before (λ input. TellsAll from state items items' told told' (old ++ input) (Ok tt))
tells-all from state before now old new w0 w1 items items' told told' n h within end =
    read-known (λ input. TellsAll from state items items' told told' input (Ok tt)) from state before now old new w0 w1 n h.read (λ input rest e all. (
      read-lines from state before now old new w0 w1 n h.read input rest all,
      refl,
      rw e at end,
      subst (λ k. k + 1 ≤ 2000) h.read.count within,
      h.items_is,
      record { text = h.text; is = h.are_told; behind = h.told_is },
    ))

pub at-end : (now : Option (List ℕ)) (new : List ℕ) → (new ≡ []) × IsAtEnd now → IfSome now (λ rest. new ++ rest ≡ [])
at-end None new end = tt
at-end (Some rest) new end = rw (end.0, end.1) refl

-- there are too many lines
pub tells-too-many : (from state : WaitingView) (before now : Option (List ℕ)) (old new : List ℕ) (w0 w1 : Option (List ℕ)) (items items' told told' : List ℕ) (n : ℕ)
    → ToldSoFar from state before now old new w0 w1 items items' told told' n → n + 1 ≡ 2000 → IfSome now (λ rest. 0 < length (new ++ rest))
    → IfSome before (λ input. TellsAll from state items items' told told' (old ++ input) (Err TooManyLines))
tells-too-many from state before now old new w0 w1 items items' told told' n h whole more =
    read-known (λ input. TellsAll from state items items' told told' input (Err TooManyLines)) from state before now old new w0 w1 n h.read (λ input rest e all.
    (read-lines from state before now old new w0 w1 n h.read input rest all, sym (ap (λ k. k + 1) h.read.count) ∙ whole, rw e at more))

-- or behind a line too many pages
pub tells-too-wide : (from state state' : WaitingView) (before now : Option (List ℕ)) (old new : List ℕ) (w0 w1 : Option (List ℕ)) (items items' items'' told told' told'' : List ℕ) (n k : ℕ)
    → ToldSoFar from state before now old new w0 w1 items items' told told' n → position (λ b. b == 10) new ≡ Some k → k ≤ 4096 → k < length new
    → IsTellFault (take k new) state state' TooManyPages → IfSome before (λ input. TellsAll from state' items items'' told told'' (old ++ input) (Err (Drawing TooManyPages)))
tells-too-wide from state state' before now old new w0 w1 items items' items'' told told' told'' n k h at short within t =
    let read = read-line from state state' before now old new w0 w1 n k t.0 h.read at short within t.1 t.2 t.3 in
    read-known (λ input. TellsAll from state' items items'' told told'' input (Err (Drawing TooManyPages))) from state' before now old (drop (k + 1) new) w0 w1 (n + 1) read (λ input rest e all.
    (read-lines from state' before now old (drop (k + 1) new) w0 w1 (n + 1) read input rest all, t.4))

pub refused-telling : (from to : WaitingView) (items items' told told' : List ℕ) (f : DrawFault) (log : Refusals) → IsReadFault f log → (input : List ℕ) → TellsAll from to items items' told told' input (Err (Drawing f))
refused-telling from to items items' told told' (Script (BadLine n)) log r input = absurd r
refused-telling from to items items' told told' (Script (BadPage fault)) log r input = absurd r
refused-telling from to items items' told told' (Script Input) log r input = tt
refused-telling from to items items' told told' (Script Output) log r input = tt
refused-telling from to items items' told told' (Script NoMemory) log r input = tt
refused-telling from to items items' told told' (Script NumbersRanOut) log r input = absurd r
refused-telling from to items items' told told' TooManyPages log r input = absurd r
refused-telling from to items items' told told' (NoSuchPage p) log r input = absurd r

-- why a line was not told
pub untold : (from state state' : WaitingView) (before now : Option (List ℕ)) (old new : List ℕ) (w0 w1 : Option (List ℕ)) (items items' items'' told told' told'' : List ℕ) (n k : ℕ) (f : DrawFault)
    → ToldSoFar from state before now old new w0 w1 items items' told told' n → position (λ b. b == 10) new ≡ Some k → k ≤ 4096 → k < length new
    → IsTellFault (take k new) state state' f → IfSome before (λ input. TellsAll from state' items items'' told told'' (old ++ input) (Err (Drawing f)))
untold from state state' before now old new w0 w1 items items' items'' told told' told'' n k TooManyPages h at short within t =
    tells-too-wide from state state' before now old new w0 w1 items items' items'' told told' told'' n k h at short within t
untold from state state' before now old new w0 w1 items items' items'' told told' told'' n k (Script NoMemory) h at short within t = always before _ (λ input. tt)
untold from state state' before now old new w0 w1 items items' items'' told told' told'' n k f h at short within t = absurd t

-- what is left at the end
pub ends-telling : (from state : WaitingView) (before now : Option (List ℕ)) (old new : List ℕ) (w0 w1 : Option (List ℕ)) (items items' told told' : List ℕ) (n : ℕ) (r : Result (Unit {0}) StoryFault)
    → ToldSoFar from state before now old new w0 w1 items items' told told' n → n + 1 ≡ 2000 → IfSome now (λ rest. EndsHere (new ++ rest) r)
    → IfSome before (λ input. TellsAll from state items items' told told' (old ++ input) r)
ends-telling from state before now old new w0 w1 items items' told told' n (Ok tt) h whole end =
    tells-all from state before now old new w0 w1 items items' told told' n h (omega (arith, whole)) end
ends-telling from state before now old new w0 w1 items items' told told' n (Err TooManyLines) h whole end = tells-too-many from state before now old new w0 w1 items items' told told' n h whole end
ends-telling from state before now old new w0 w1 items items' told told' n (Err (Drawing f)) h whole end =
    read-known (λ input. TellsAll from state items items' told told' input (Err (Drawing f))) from state before now old new w0 w1 n h.read (λ input rest e all. refusal f (old ++ input) (new ++ rest) (rw e at end))
  where
    refusal : (f : DrawFault) (input rest : List ℕ) → EndsHere rest (Err (Drawing f)) → TellsAll from state items items' told told' input (Err (Drawing f))
    refusal (Script (BadLine m)) input rest end = absurd end
    refusal (Script (BadPage b)) input rest end = absurd end
    refusal (Script NumbersRanOut) input rest end = absurd end
    refusal (Script Input) input rest end = tt
    refusal (Script Output) input rest end = tt
    refusal (Script NoMemory) input rest end = tt
    refusal TooManyPages input rest end = absurd end
    refusal (NoSuchPage p) input rest end = absurd end

-- What is left behind the last line.

refused-end : (f : DrawFault) (log : Refusals) → IsReadFault f log → (input : List ℕ) → EndsHere input (Err (Drawing f))
refused-end (Script f) log r input = is-from_outside f log r
refused-end TooManyPages log r input = absurd r
refused-end (NoSuchPage p) log r input = absurd r

pub refused-here : (before : Option (List ℕ)) (old : List ℕ) (f : DrawFault) (log : Refusals) → IsReadFault f log → IfSome before (λ input. EndsHere (old ++ input) (Err (Drawing f)))
refused-here before old f log r = always before _ (λ input. refused-end f log r (old ++ input))

ends-known : (P : List ℕ → Type 0) (before now : Option (List ℕ)) (old new : List ℕ) → TakesText before now old new → ((rest : List ℕ) → now ≡ Some rest → P (new ++ rest)) → IfSome before (λ input. P (old ++ input))
ends-known P before now old new t then =
    IfSome_then before (Uses-known before now old [] new (Uses-Takes before before now old [] old new (Uses-refl before old) t)) (λ input k. subst P (sym k.2) (then k.0 k.1))

pub ended-here : (before now : Option (List ℕ)) (old new : List ℕ) → TakesText before now old new → (new ≡ []) × IsAtEnd now → IfSome before (λ input. EndsHere (old ++ input) (Ok tt))
ended-here before now old new t end = ends-known (λ input. input ≡ []) before now old new t (λ rest e. nothing-left new rest now e end)

pub more-here : (before now : Option (List ℕ)) (old new : List ℕ) → TakesText before now old new → 0 < length new → IfSome before (λ input. EndsHere (old ++ input) (Err TooManyLines))
more-here before now old new t some = ends-known (λ input. 0 < length input) before now old new t (λ rest e. rw (length-append new rest) (omega (arith, some)))
