-- Lines that are used, one after another, be they a script's or looks.
use Rattle.std.proofs.Common.{◌≡◌, ℕ, ◌+◌, ◌<◌, ◌≤◌, ◌⊎◌, inl, inr, Bool, true, false, List, [], ◌∷◌, ◌++◌, length, take, drop, refl, ap, append_assoc, length-append, ◌∙◌, sym, subst, arith, codes, Option, None, Some, Result, Ok, Err, position, IfSome, IfErr, IsErrAnd}
use Rattle.std.specs.Bool.{◌==◌}
use Rattle.std.specs.List.{AllByRecursion}
use Rattle.std.proofs.lemmas.List.{append-nil, length-take-le, take_at}
use Rattle.std.proofs.lemmas.Grind.{flat_map-append}
use Rattle.std.proofs.lemmas.Option.{IfSome_then}
use Rattle.std.specs.Io.KnownBytes.{Appends}
use Rattle.calls.specs.Words.{AreSettings}
use Rattle.calls.specs.declared.settings.Settings.{Settings}
use Rattle.script.specs.Engine.{WaitingView, IsNewWaiting}
use Rattle.script_text.specs.Grammar.{IsAllowed, LineFits, spelling, heading, with_feed}
use Rattle.script_text.specs.declared.line.Line.{Line}
use Rattle.script_text.proofs.ByteLemmas.{position_found}
use Rattle.script_text.proofs.GrammarLaws.{Free-spelling}
use Rattle.script.specs.Pieces.{TakesText, GivesText, HasNoLine}
use Rattle.script.specs.Script.{Event, line_of, EventsLead, IsScriptRun, WritesBeginning}
use Rattle.script.specs.Refusals.{Refusals, IsRefused, IsCaused}
use Rattle.script.specs.Steps.{Uses, MatchesHeading, DoesLine}
use Rattle.script.specs.declared.fault.ShellFault.{ShellFault}
use Rattle.script.specs.declared.fault.ShellFault.TheVariants.{BadLine, BadPage, Input, Output, NoMemory, TooManyLines}
use Rattle.script.proofs.PiecesLemmas.{Gives-Gives}
use Rattle.script.proofs.RunLemmas.{Uses-Takes, Uses-prefix, Uses-known, Gives-push, Gives-rest, position-split, no_text, text_is}
use Rattle.script.proofs.FirstLemmas.{nothing_first, begun_first, ran_from}
use Rattle.view_text.specs.declared.look.Look.{Look}
use Rattle.view_text.specs.Looks.{LookFits, IsLookAllowed, look_text}
use Rattle.view_text.proofs.LookLaws.{look_free}
use Rattle.viewing.specs.Viewing.{ViewEvent, scripted, looked, view_line, view_answer, line_noted, view_lines, view_answers, IsViewAllowed, ViewMoves, ViewsLead, done_of, IsViewRun, view_script, IsBadView, ViewOutcome}
use Rattle.viewing.specs.Showing.{Answers}
use Rattle.viewing.specs.Steps.{ViewFits, ShowsLook, NotesView, DoesView, IsNoView, EndsViews, ViewAdvance, ViewAdvances}

-- One more event.

pub Leads-push : (old : WaitingView) (events : List ViewEvent) (mid : WaitingView) (e : ViewEvent) (new : WaitingView) → ViewsLead old events mid → ViewMoves mid e new → ViewsLead old (events ++ e ∷ []) new
Leads-push old [] mid e new led moves = (new, subst (λ (st : WaitingView). ViewMoves st e new) (sym led) moves, refl)
Leads-push old (x ∷ xs) mid e new led moves = (led.0, led.1, Leads-push led.0 xs mid e new led.2 moves)

pub all-push : (events : List ViewEvent) (e : ViewEvent) → AllByRecursion IsViewAllowed events → IsViewAllowed e → AllByRecursion IsViewAllowed (events ++ e ∷ [])
all-push [] e h k = (k, tt)
all-push (x ∷ xs) e h k = (h.0, all-push xs e h.1 k)

pub lines-push : (events : List ViewEvent) (e : ViewEvent) → view_lines (events ++ e ∷ []) ≡ view_lines events ++ with_feed (view_line e)
lines-push events e = flat_map-append (λ e. with_feed (view_line e)) events (e ∷ []) ∙ ap (λ x. view_lines events ++ x) (append-nil (with_feed (view_line e)))

-- what is written for one line
abbrev pub written : Bool → ViewEvent → List ℕ
written notes e = line_noted notes (view_line e) ++ with_feed (view_answer e)

answers-push : (notes : Bool) (events : List ViewEvent) (e : ViewEvent) → view_answers notes (events ++ e ∷ []) ≡ view_answers notes events ++ written notes e
answers-push notes events e = flat_map-append (λ e. written notes e) events (e ∷ []) ∙ ap (λ x. view_answers notes events ++ x) (append-nil (written notes e))

-- a look changes nothing: without looks the engine is led to the same state
pub without_looks : (old : WaitingView) (events : List ViewEvent) (new : WaitingView) → ViewsLead old events new → EventsLead old (done_of events) new
without_looks old [] new led = led
without_looks old (scripted e ∷ events) new led = (led.0, led.1, without_looks led.0 events new led.2)
without_looks old (looked look text ∷ events) new led = subst (λ (st : WaitingView). EventsLead st (done_of events) new) (sym led.1.0) (without_looks led.0 events new led.2)

pub allowed_lines : (events : List ViewEvent) → AllByRecursion IsViewAllowed events → AllByRecursion (λ e. IsAllowed (line_of e)) (done_of events)
allowed_lines [] h = tt
allowed_lines (scripted e ∷ events) h = (h.0, allowed_lines events h.1)
allowed_lines (looked look text ∷ events) h = allowed_lines events h.1

-- How far the lines have come.

pub record ViewProgress (notes : Bool) (from : WaitingView) (state : WaitingView) (before now : Option (List ℕ)) (old new : List ℕ) (w0 w1 : Option (List ℕ)) (text left : List ℕ) (number : ℕ) : Type 0 where
  pub events : List ViewEvent
  pub allowed : AllByRecursion IsViewAllowed events
  pub leads : ViewsLead from events state
  pub uses : Uses before now old (view_lines events) new
  pub gives : GivesText w0 w1 (text ++ view_answers notes events) left
  pub number_is : number ≡ length events + 2

-- more is read, and some of the text is written
pub Progress-more : (notes : Bool) (from state : WaitingView) (before now now' : Option (List ℕ)) (old new new' : List ℕ) (w0 w1 w2 : Option (List ℕ)) (text left left' : List ℕ) (number : ℕ)
    → ViewProgress notes from state before now old new w0 w1 text left number → TakesText now now' new new' → GivesText w1 w2 left left' → ViewProgress notes from state before now' old new' w0 w2 text left' number
Progress-more notes from state before now now' old new new' w0 w1 w2 text left left' number h t g = record {
  events = h.events;
  allowed = h.allowed;
  leads = h.leads;
  uses = Uses-Takes before now now' old (view_lines h.events) new new' h.uses t;
  gives = Gives-Gives w0 w1 w2 (text ++ view_answers notes h.events) left left' h.gives g;
  number_is = h.number_is;
}

pub allowed_from : (e : ViewEvent) → ViewFits e → length (view_line e) ≤ 4096 → IsViewAllowed e
allowed_from (scripted e) fits short = record { fits = fits; short = short }
allowed_from (looked look text) fits short = record { fits = fits; short = short }

-- a line is used, and what it gives stands behind the text
pub Progress-line : (notes : Bool) (from state state' : WaitingView) (before now : Option (List ℕ)) (old new : List ℕ) (w0 w1 : Option (List ℕ)) (text left left' : List ℕ) (number n : ℕ)
    → ViewProgress notes from state before now old new w0 w1 text left number → position (λ b. b == 10) new ≡ Some n → n ≤ 4096 → n < length new → NotesView notes (take n new) state state' left left'
    → ViewProgress notes from state' before now old (drop (n + 1) new) w0 w1 text left' (number + 1)
Progress-line notes from state state' before now old new w0 w1 text left left' number n h at short within d =
    let e = d.0 in
    let size : length (take n new) ≡ n = length-take-le n new (omega arith) in
    record {
      events = h.events ++ e ∷ [];
      allowed = all-push h.events e h.allowed (allowed_from e d.1 (rw (← d.2) (omega arith)));
      leads = Leads-push from h.events state e state' h.leads d.3;
      uses = rw (lines-push h.events e) (Uses-prefix before now old (view_lines h.events) new (with_feed (view_line e)) (drop (n + 1) new) (position-split new n at ∙ ap (λ x. with_feed x ++ drop (n + 1) new) d.2) h.uses);
      gives = rw (answers-push notes h.events e) (rw (← append_assoc text (view_answers notes h.events) (written notes e)) (Gives-push w0 w1 (text ++ view_answers notes h.events) left (written notes e) left' h.gives d.4));
      number_is = ap (λ k. k + 1) h.number_is ∙ omega (arith, length-append h.events (e ∷ []));
    }

-- Bad lines.

pub bad_from_none : (p rest : List ℕ) → HasNoLine p (Some rest) → IsBadView (p ++ rest)
bad_from_none p rest h = record {
  some = rw (length-append p rest) (omega (arith, h.0));
  line = λ l more allowed e. no_text p rest (spelling l) more h (Free-spelling l allowed.fits) allowed.short e;
  look = λ l more allowed e. no_text p rest (look_text l) more h (look_free l allowed.fits) allowed.short e;
}

pub bad_from_line : (p rest : List ℕ) (n : ℕ) → position (λ b. b == 10) p ≡ Some n → IsNoView (take n p) → IsBadView (p ++ rest)
bad_from_line p rest n at h =
    let f = position_found 10 p n at in
    record {
      some = rw (length-append p rest) (omega (arith, f.0));
      line = λ l more allowed e. h.line l allowed.fits (text_is p rest n (spelling l) more at (Free-spelling l allowed.fits) e);
      look = λ l more allowed e. h.look l allowed.fits (text_is p rest n (look_text l) more at (look_free l allowed.fits) e);
    }

-- Ends.

ends_fault : (e : ShellFault) (log : Refusals) → IsRefused e log → (k : ℕ) (left : List ℕ) (before after : Option (List ℕ)) (text : List ℕ) → WritesBeginning before after text → EndsViews (Err e) k left before after text
ends_fault (BadLine n) log f k left before after text b = absurd f
ends_fault (BadPage fault) log f k left before after text b = absurd f
ends_fault Input log f k left before after text b = b
ends_fault Output log f k left before after text b = b
ends_fault NoMemory log f k left before after text b = b
ends_fault TooManyLines log f k left before after text b = absurd f

pub adv_fault : (notes : Bool) (from state : WaitingView) (before now : Option (List ℕ)) (old new : List ℕ) (w0 w1 w2 : Option (List ℕ)) (text left : List ℕ) (number : ℕ) (e : ShellFault) (log : Refusals)
    → ViewProgress notes from state before now old new w0 w1 text left number → IsRefused e log → WritesBeginning w1 w2 left → IfSome before (λ bytes. ViewAdvance notes from (old ++ bytes) w0 w2 text (Err e))
adv_fault notes from state before now old new w0 w1 w2 text left number e log h f b =
    IfSome_then before (Uses-known before now old (view_lines h.events) new h.uses) (λ input k. record {
      events = h.events;
      allowed = h.allowed;
      last = state;
      leads = h.leads;
      left = new ++ k.0;
      lines = k.2;
      ends = ends_fault e log f (length h.events) (new ++ k.0) w0 w2 (text ++ view_answers notes h.events) (b.0, Gives-Gives w0 w1 w2 (text ++ view_answers notes h.events) left b.0 h.gives b.1);
    })

-- the numbers of lines ran out
pub adv_over : (notes : Bool) (from state : WaitingView) (before now : Option (List ℕ)) (old new : List ℕ) (w0 w1 : Option (List ℕ)) (text left : List ℕ) (number : ℕ)
    → ViewProgress notes from state before now old new w0 w1 text left number → number ≡ 18446744073709551615 → IfSome before (λ bytes. ViewAdvance notes from (old ++ bytes) w0 w1 text (Err TooManyLines))
adv_over notes from state before now old new w0 w1 text left number h last =
    IfSome_then before (Uses-known before now old (view_lines h.events) new h.uses) (λ input k. record {
      events = h.events;
      allowed = h.allowed;
      last = state;
      leads = h.leads;
      left = new ++ k.0;
      lines = k.2;
      ends = (sym h.number_is ∙ last, (left, h.gives));
    })

closed_fault : (notes : Bool) (from state : WaitingView) (before now : Option (List ℕ)) (old new : List ℕ) (w0 w1 w2 : Option (List ℕ)) (text left : List ℕ) (number : ℕ) (r : Result (Unit {0}) ShellFault) (log : Refusals)
    → ViewProgress notes from state before now old new w0 w1 text left number → IsErrAnd r (λ e. IsRefused e log) → WritesBeginning w1 w2 left → IfSome before (λ bytes. ViewAdvance notes from (old ++ bytes) w0 w2 text r)
closed_fault notes from state before now old new w0 w1 w2 text left number (Ok u) log h f b = absurd f
closed_fault notes from state before now old new w0 w1 w2 text left number (Err e) log h f b = adv_fault notes from state before now old new w0 w1 w2 text left number e log h f b

pub adv_close : (notes : Bool) (from state : WaitingView) (before now : Option (List ℕ)) (old new : List ℕ) (w0 w1 w2 : Option (List ℕ)) (text left : List ℕ) (number : ℕ) (end r : Result (Unit {0}) ShellFault) (log : Refusals)
    → (h : ViewProgress notes from state before now old new w0 w1 text left number)
    → ((r ≡ end) × Appends w1 w2 left) ⊎ (IsErrAnd r (λ e. IsRefused e log) × WritesBeginning w1 w2 left)
    → ((rest : List ℕ) (T : List ℕ) → now ≡ Some rest → Appends w0 w2 T → EndsViews end (length h.events) (new ++ rest) w0 w2 T)
    → IfSome before (λ bytes. ViewAdvance notes from (old ++ bytes) w0 w2 text r)
adv_close notes from state before now old new w0 w1 w2 text left number end r log h c ends = elim c [
  | inl whole ↦ rw whole.0 (IfSome_then before (Uses-known before now old (view_lines h.events) new h.uses) (λ input k. record {
    events = h.events;
    allowed = h.allowed;
    last = state;
    leads = h.leads;
    left = new ++ k.0;
    lines = k.2;
    ends = ends k.0 (text ++ view_answers notes h.events) k.1 (Gives-rest w0 w1 w2 (text ++ view_answers notes h.events) left h.gives whole.1);
  }))
  | inr fault ↦ closed_fault notes from state before now old new w0 w1 w2 text left number r log h fault.0 fault.1
]

-- From the first line on.

abbrev pub ran_views : (s : Settings) (from : WaitingView) (events : List ViewEvent) (last : WaitingView) → AreSettings s → length s.indexed ≡ 4 → IsNewWaiting s from
    → AllByRecursion IsViewAllowed events → ViewsLead from events last → IsViewRun s events
ran_views s from events last fits columns new allowed led = record {
  run = ran_from s from (done_of events) last fits columns new (allowed_lines events allowed) (without_looks from events last led);
  allowed = allowed;
  first = from;
  new = new;
  last = last;
  leads = led;
}

-- the whole input, where lines at the front of the bytes behind the first were run
whole : (s : Settings) (notes : Bool) (from : WaitingView) (input bytes : List ℕ) (w0 w1 : Option (List ℕ)) (r : Result (Unit {0}) ShellFault) (h : ViewAdvance notes from bytes w0 w1 [] r)
    → input ≡ with_feed (heading s) ++ bytes → input ≡ view_script s h.events ++ h.left
whole s notes from input bytes w0 w1 r h e = e ∙ ap (λ x. with_feed (heading s) ++ x) h.lines ∙ sym (append_assoc (with_feed (heading s)) (view_lines h.events) h.left)

-- after a refusal
begun : (s : Settings) (notes : Bool) (from : WaitingView) (input bytes : List ℕ) (w0 w1 w2 : Option (List ℕ)) (r : Result (Unit {0}) ShellFault) → AreSettings s → length s.indexed ≡ 4 → IsNewWaiting s from
    → Appends w0 w1 [] → input ≡ with_feed (heading s) ++ bytes → (h : ViewAdvance notes from bytes w1 w2 [] r) → WritesBeginning w1 w2 (view_answers notes h.events)
    → Appends w0 w2 [] ⊎ ((settings : Settings) × (events : List ViewEvent) × (rest : List ℕ) × IsViewRun settings events
    × (input ≡ view_script settings events ++ rest) × WritesBeginning w0 w2 (view_answers notes events))
begun s notes from input bytes w0 w1 w2 r fits columns new q e h ends = inr (
  s,
  h.events,
  h.left,
  ran_views s from h.events h.last fits columns new h.allowed h.leads,
  whole s notes from input bytes w1 w2 r h e,
  begun_first w0 w1 w2 (view_answers notes h.events) q ends,
)

outcome_is : (s : Settings) (notes : Bool) (from : WaitingView) (input bytes : List ℕ) (w0 w1 w2 : Option (List ℕ)) (r : Result (Unit {0}) ShellFault) → AreSettings s → length s.indexed ≡ 4 → IsNewWaiting s from
    → Appends w0 w1 [] → input ≡ with_feed (heading s) ++ bytes → ViewAdvance notes from bytes w1 w2 [] r → ViewOutcome notes r input w0 w2
outcome_is s notes from input bytes w0 w1 w2 (Ok u) fits columns new q e h = (
  s,
  h.events,
  ran_views s from h.events h.last fits columns new h.allowed h.leads,
  whole s notes from input bytes w1 w2 (Ok u) h e ∙ ap (λ x. view_script s h.events ++ x) h.ends.0 ∙ append-nil (view_script s h.events),
  nothing_first w0 w1 w2 (view_answers notes h.events) q h.ends.1,
)
outcome_is s notes from input bytes w0 w1 w2 (Err (BadLine n)) fits columns new q e h =
    inr (
      s,
      h.events,
      h.left,
      ran_views s from h.events h.last fits columns new h.allowed h.leads,
      whole s notes from input bytes w1 w2 (Err (BadLine n)) h e,
      h.ends.1,
      h.ends.0,
      nothing_first w0 w1 w2 (view_answers notes h.events) q h.ends.2,
    )
outcome_is s notes from input bytes w0 w1 w2 (Err (BadPage fault)) fits columns new q e h = absurd h.ends
outcome_is s notes from input bytes w0 w1 w2 (Err Input) fits columns new q e h = begun s notes from input bytes w0 w1 w2 (Err Input) fits columns new q e h h.ends
outcome_is s notes from input bytes w0 w1 w2 (Err Output) fits columns new q e h = begun s notes from input bytes w0 w1 w2 (Err Output) fits columns new q e h h.ends
outcome_is s notes from input bytes w0 w1 w2 (Err NoMemory) fits columns new q e h = begun s notes from input bytes w0 w1 w2 (Err NoMemory) fits columns new q e h h.ends
outcome_is s notes from input bytes w0 w1 w2 (Err TooManyLines) fits columns new q e h = (
  s,
  h.events,
  h.left,
  ran_views s from h.events h.last fits columns new h.allowed h.leads,
  whole s notes from input bytes w1 w2 (Err TooManyLines) h e,
  h.ends.0,
  begun_first w0 w1 w2 (view_answers notes h.events) q h.ends.1,
)

pub outcome_from : (notes : Bool) (before now : Option (List ℕ)) (p text : List ℕ) (from : WaitingView) (s : Settings) (w0 w1 w2 : Option (List ℕ)) (r : Result (Unit {0}) ShellFault)
    → Uses before now [] (with_feed (heading s)) p → AreSettings s → length s.indexed ≡ 4 → Appends w0 w1 [] → IsNewWaiting s from → text ≡ [] → ViewAdvances notes from now w1 w2 p text r
    → IfSome before (λ input. ViewOutcome notes r input w0 w2)
outcome_from notes before now p text from s w0 w1 w2 r u fits columns q new none h =
    IfSome_then before (Uses-known before now [] (with_feed (heading s)) p u) (λ input k.
    outcome_is s notes from input (p ++ k.0) w0 w1 w2 r fits columns new q k.2 (rw (k.1, none) at h))

-- no line was read, but perhaps a bad first one
pub outcome_of_none : (notes : Bool) (e : ShellFault) (input w0 w1 : Option (List ℕ)) → MatchesHeading e input → Appends w0 w1 [] → IfSome input (λ bytes. ViewOutcome notes (Err e) bytes w0 w1)
outcome_of_none notes e None w0 w1 h quiet = tt
outcome_of_none notes (BadLine n) (Some bytes) w0 w1 h quiet = inl (h.0, quiet, h.1)
outcome_of_none notes (BadPage fault) (Some bytes) w0 w1 h quiet = absurd h
outcome_of_none notes Input (Some bytes) w0 w1 h quiet = inl quiet
outcome_of_none notes Output (Some bytes) w0 w1 h quiet = inl quiet
outcome_of_none notes NoMemory (Some bytes) w0 w1 h quiet = inl quiet
outcome_of_none notes TooManyLines (Some bytes) w0 w1 h quiet = absurd h

-- Lines that are done.

-- a line of a script, or a look, is done
pub did_line : (line : List ℕ) (from to : WaitingView) (old new : List ℕ) → DoesLine line from to old new → DoesView line from to old new
did_line line from to old new d = (scripted d.0, d.1, d.2, d.3, d.4)

pub did_look : (line : List ℕ) (from to : WaitingView) (old mid new : List ℕ) (look : Look) → LookFits look × (line ≡ look_text look) → to ≡ from → mid ≡ old → ShowsLook to look mid new
    → DoesView line from to old new
did_look line from to old mid new look says kept same shown = (
  looked look shown.0,
  says.0,
  says.1,
  (sym kept, subst (λ (st : WaitingView). Answers st look shown.0) kept shown.1),
  shown.2 ∙ ap (λ (t : List ℕ). t ++ with_feed shown.0) same,
)

-- a line is noted, and then done
pub noted : (notes : Bool) (line : List ℕ) (from to : WaitingView) (old mid new : List ℕ) → mid ≡ old ++ line_noted notes line → DoesView line from to mid new → NotesView notes line from to old new
noted notes line from to old mid new first d = (
  d.0,
  d.1,
  d.2,
  d.3,
  d.4 ∙ ap (λ (t : List ℕ). t ++ with_feed (view_answer d.0)) (first ∙ ap (λ (l : List ℕ). old ++ line_noted notes l) d.2)
      ∙ append_assoc old (line_noted notes (view_line d.0)) (with_feed (view_answer d.0)),
)

-- what was noted of a bad line is taken back
pub taken_back : (old noted mid after : List ℕ) (n : ℕ) → n ≡ length old → mid ≡ old ++ noted → after ≡ take n mid → after ≡ old
taken_back old noted mid after n size first is = is ∙ ap (λ (t : List ℕ). take n t) first ∙ take_at old noted n (sym size)
