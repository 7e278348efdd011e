-- Lines that are used, one after another.
use Rattle.std.proofs.Common.{◌≡◌, ℕ, ◌+◌, ◌<◌, ◌≤◌, ◌⊎◌, inl, inr, List, [], ◌∷◌, ◌++◌, length, take, drop, refl, ap, append_assoc, length-append, ◌∙◌, sym, subst, arith, Option, None, Some, Result, Ok, Err, position, IfSome, IfErr, IsErrAnd, true}
use Rattle.std.specs.Bool.{◌==◌}
use Rattle.std.specs.List.{AllByRecursion}
use Rattle.std.proofs.lemmas.List.{append-nil, length-take-le}
use Rattle.std.proofs.lemmas.Grind.{flat_map-append}
use Rattle.std.specs.Io.KnownBytes.{Appends}
use Rattle.script.specs.Engine.{World, WaitingView, after_reply, IsRun, after, WaitingAgrees}
use Rattle.script_text.specs.Grammar.{IsAllowed, LineFits, spelling, with_feed}
use Rattle.script.specs.Pieces.{TakesText, GivesText, HasNoLine}
use Rattle.script.specs.Script.{Event, did, finished, vacuum_steps, vacuum_replies, showed_ids, showed_page, showed_entries, line_of, answer_of, steps_of, replies_of, lines_of, answers_of, Moves, EventsLead, IsBadLine, WritesBeginning}
use Rattle.script.specs.Refusals.{Refusals, IsRefused, IsCaused}
use Rattle.script.specs.Steps.{EndsLines, Advance, Uses, DoesLine}
use Rattle.calls.specs.declared.step.Step.{Step}
use Rattle.calls.specs.declared.reply.Reply.{Reply}
use Rattle.session_core.proofs.Running.{Leads-run as Replies-run}
use Rattle.script_text.specs.declared.line.Line.{Line}
use Rattle.script.specs.declared.fault.ShellFault.{ShellFault}
use Rattle.script.specs.declared.fault.ShellFault.TheVariants.{BadLine, BadPage, Input, Output, NoMemory, TooManyLines}
use Rattle.script_text.proofs.ByteLemmas.{place, Free, place-free, place-append_found, place-append_past, place-split, position_found, position_none}
use Rattle.script_text.proofs.GrammarLaws.{Free-spelling}
use Rattle.std.proofs.lemmas.Option.{IfSome_then}
use Rattle.std.proofs.Math.Seq.{take-append_seam}
use Rattle.std.proofs.lemmas.List.{take-append-le}
use Rattle.script.proofs.PiecesLemmas.{Consumes-Consumes, Appends-Appends, Keeps-nothing, Keeps-refl, Gives-Gives}

pub Uses-refl : (a : Option (List ℕ)) (p : List ℕ) → Uses a a p [] p
Uses-refl a p = ([], Keeps-nothing a a (Keeps-refl a), append-nil p)

-- more is read
pub Uses-Takes : (a b c : Option (List ℕ)) (old used p q : List ℕ) → Uses a b old used p → TakesText b c p q → Uses a c old used q
Uses-Takes a b c old used p q h k = (
  h.0 ++ k.0,
  Consumes-Consumes a b c h.0 k.0 h.1 k.1,
  sym (append_assoc old h.0 k.0) ∙ ap (λ r. r ++ k.0) h.2 ∙ append_assoc used p k.0 ∙ ap (λ r. used ++ r) (sym k.2),
)

-- a prefix of what is pending is used
pub Uses-prefix : (a b : Option (List ℕ)) (old used p prefix q : List ℕ) → p ≡ prefix ++ q → Uses a b old used p → Uses a b old (used ++ prefix) q
Uses-prefix a b old used p prefix q e h = (h.0, h.1, h.2 ∙ ap (λ r. used ++ r) e ∙ sym (append_assoc used prefix q))

-- what is known of the input
pub Uses-known : (a b : Option (List ℕ)) (old used p : List ℕ) → Uses a b old used p
    → IfSome a (λ input. (rest : List ℕ) × (b ≡ Some rest) × (old ++ input ≡ used ++ (p ++ rest)))
Uses-known None b old used p h = tt
Uses-known (Some xs) None old used p h = absurd h.1
Uses-known (Some xs) (Some ys) old used p h =
    (ys, refl, ap (λ r. old ++ r) h.1 ∙ sym (append_assoc old h.0 ys) ∙ ap (λ r. r ++ ys) h.2 ∙ append_assoc used p ys)

pub Gives-push : (a b : Option (List ℕ)) (text left more new : List ℕ) → GivesText a b text left → new ≡ left ++ more → GivesText a b (text ++ more) new
Gives-push a b text left more new h e = (h.0, h.1, ap (λ r. r ++ more) h.2 ∙ append_assoc h.0 left more ∙ ap (λ r. h.0 ++ r) (sym e))

-- one more event
Leads-push : (old : WaitingView) (events : List Event) (mid : WaitingView) (e : Event) (new : WaitingView) → EventsLead old events mid → Moves mid e new → EventsLead old (events ++ e ∷ []) new
Leads-push old [] mid e new led moves = (new, subst (λ (st : WaitingView). Moves st e new) (sym led) moves, refl)
Leads-push old (x ∷ xs) mid e new led moves = (led.0, led.1, Leads-push led.0 xs mid e new led.2 moves)

-- one run after another is a run
IsRun-append : (w : World) (steps more : List Step) (replies others : List Reply) → IsRun w steps replies → IsRun (after w steps replies) more others → IsRun w (steps ++ more) (replies ++ others)
IsRun-append w [] more [] others h k = k
IsRun-append w [] more (r ∷ rs) others h k = absurd h
IsRun-append w (s ∷ ss) more [] others h k = absurd h
IsRun-append w (s ∷ ss) more (r ∷ rs) others h k = (h.0, IsRun-append (after_reply w s r) ss more rs others h.1 k)

-- of an engine that agrees with a world, the steps and replies are a run from there
pub Leads-run : (w : World) (old : WaitingView) (events : List Event) (new : WaitingView) → WaitingAgrees old w → EventsLead old events new → IsRun w (steps_of events) (replies_of events)
Leads-run w old [] new agrees led = tt
Leads-run w old (did step reply ∷ events) new agrees led =
    let now = led.1.0 w agrees in
    (now.0, Leads-run (after_reply w step reply) led.0 events new now.1 led.2)
Leads-run w old (finished pieces last ∷ events) new agrees led =
    let now = Replies-run w old (vacuum_steps pieces) (vacuum_replies pieces last) led.0 agrees led.1.0 in
    IsRun-append w (vacuum_steps pieces) (steps_of events) (vacuum_replies pieces last) (replies_of events) now.0
    (Leads-run (after w (vacuum_steps pieces) (vacuum_replies pieces last)) led.0 events new now.1 led.2)
Leads-run w old (showed_ids n below ∷ events) new agrees led = Leads-run w led.0 events new (subst (λ (st : WaitingView). WaitingAgrees st w) led.1.0 agrees) led.2
Leads-run w old (showed_page p shown ∷ events) new agrees led = Leads-run w led.0 events new (subst (λ (st : WaitingView). WaitingAgrees st w) led.1.0 agrees) led.2
Leads-run w old (showed_entries i entries ∷ events) new agrees led = Leads-run w led.0 events new (subst (λ (st : WaitingView). WaitingAgrees st w) led.1.0 agrees) led.2

pub allowed-push : (events : List Event) (e : Event) → AllByRecursion (λ e. IsAllowed (line_of e)) events → IsAllowed (line_of e) → AllByRecursion (λ e. IsAllowed (line_of e)) (events ++ e ∷ [])
allowed-push [] e h k = (k, tt)
allowed-push (x ∷ xs) e h k = (h.0, allowed-push xs e h.1 k)

pub lines_of-push : (events : List Event) (e : Event) → lines_of (events ++ e ∷ []) ≡ lines_of events ++ with_feed (spelling (line_of e))
lines_of-push events e = flat_map-append (λ e. with_feed (spelling (line_of e))) events (e ∷ []) ∙ ap (λ x. lines_of events ++ x) (append-nil (with_feed (spelling (line_of e))))

pub answers_of-push : (events : List Event) (e : Event) → answers_of (events ++ e ∷ []) ≡ answers_of events ++ with_feed (answer_of e)
answers_of-push events e = flat_map-append (λ e. with_feed (answer_of e)) events (e ∷ []) ∙ ap (λ x. answers_of events ++ x) (append-nil (with_feed (answer_of e)))

-- how far the lines have come
pub record Progress (from : WaitingView) (state : WaitingView) (before now : Option (List ℕ)) (old new : List ℕ) (w0 w1 : Option (List ℕ)) (text left : List ℕ) (number : ℕ) : Type 0 where
  pub events : List Event
  pub allowed : AllByRecursion (λ e. IsAllowed (line_of e)) events
  pub leads : EventsLead from events state
  pub uses : Uses before now old (lines_of events) new
  pub gives : GivesText w0 w1 (text ++ answers_of events) left
  pub number_is : number ≡ length events + 2

-- more is read, and some of the text is written
pub Progress-more : (from state : WaitingView) (before now now' : Option (List ℕ)) (old new new' : List ℕ) (w0 w1 w2 : Option (List ℕ)) (text left left' : List ℕ) (number : ℕ)
    → Progress from state before now old new w0 w1 text left number → TakesText now now' new new' → GivesText w1 w2 left left' → Progress from state before now' old new' w0 w2 text left' number
Progress-more from state before now now' old new new' w0 w1 w2 text left left' number h t g = record {
  events = h.events;
  allowed = h.allowed;
  leads = h.leads;
  uses = Uses-Takes before now now' old (lines_of h.events) new new' h.uses t;
  gives = Gives-Gives w0 w1 w2 (text ++ answers_of h.events) left left' h.gives g;
  number_is = h.number_is;
}

pub position-split : (p : List ℕ) (n : ℕ) → position (λ b. b == 10) p ≡ Some n → p ≡ with_feed (take n p) ++ drop (n + 1) p
position-split p n h =
    let f = position_found 10 p n h in
    let s = rw f.1 at (place-split 10 p (rw f.1 f.0)) in
    s ∙ sym (append_assoc (take n p) (10 ∷ []) (drop (n + 1) p))

-- a line is used, and its answer stands behind the text
pub Progress-line : (from state state' : WaitingView) (before now : Option (List ℕ)) (old new : List ℕ) (w0 w1 : Option (List ℕ)) (text left left' : List ℕ) (number n : ℕ)
    → Progress from state before now old new w0 w1 text left number → position (λ b. b == 10) new ≡ Some n → n ≤ 4096 → n < length new → DoesLine (take n new) state state' left left'
    → Progress from state' before now old (drop (n + 1) new) w0 w1 text left' (number + 1)
Progress-line from state state' before now old new w0 w1 text left left' number n h at short within d =
    let e = d.0 in
    let size : length (take n new) ≡ n = length-take-le n new (omega arith) in
    record {
      events = h.events ++ e ∷ [];
      allowed = allowed-push h.events e h.allowed (record { fits = d.1; short = rw (← d.2) (omega arith) });
      leads = Leads-push from h.events state e state' h.leads d.3;
      uses = rw (lines_of-push h.events e) (Uses-prefix before now old (lines_of h.events) new (with_feed (spelling (line_of e))) (drop (n + 1) new) (position-split new n at ∙ ap (λ x. with_feed x ++ drop (n + 1) new) d.2) h.uses);
      gives = rw (answers_of-push h.events e) (rw (← append_assoc text (answers_of h.events) (with_feed (answer_of e))) (Gives-push w0 w1 (text ++ answers_of h.events) left (with_feed (answer_of e)) left' h.gives d.4));
      number_is = ap (λ k. k + 1) h.number_is ∙ omega (arith, length-append h.events (e ∷ []));
    }

-- a line at the front ends at the first line feed
first_feed : (s : List ℕ) (all more : List ℕ) → Free 10 s → all ≡ with_feed s ++ more → place 10 all ≡ length s
first_feed s all more free e = ap (λ xs. place 10 xs) (e ∙ append_assoc s (10 ∷ []) more) ∙ place-free 10 s more free

long_case : (p rest : List ℕ) (k : ℕ) → 4096 < length p → ((n : ℕ) → position (λ b. b == 10) p ≡ Some n → 4096 < n) → place 10 (p ++ rest) ≡ k → k ≤ 4096 → (o : Option ℕ) → position (λ b. b == 10) p ≡ o → ⊥
long_case p rest k long h first short None e = let past = place-append_past 10 p rest (position_none 10 p e) in omega arith
long_case p rest k long h first short (Some n) e =
    let f = position_found 10 p n e in
    let same = place-append_found 10 p rest (rw f.1 f.0) in
    let far = h n e in
    omega (arith, f.1)

torn_case : (p s more : List ℕ) → position (λ b. b == 10) p ≡ None → Free 10 s → p ≡ with_feed s ++ more → ⊥
torn_case p s more none free e =
    let first = first_feed s p more free e in
    let past = position_none 10 p none in
    let size : length p ≡ length s + 1 + length more = ap (λ (xs : List ℕ). length xs) e ∙ length-append (with_feed s) more ∙ ap (λ k. k + length more) (length-append s (10 ∷ [])) in
    omega arith

pub no_text : (p rest s more : List ℕ) → HasNoLine p (Some rest) → Free 10 s → length s ≤ 4096 → p ++ rest ≡ with_feed s ++ more → ⊥
no_text p rest s more h free short e = elim h.1 [
  | inl long ↦ long_case p rest (length s) long.0 long.1 (first_feed s (p ++ rest) more free e) short (position (λ b. b == 10) p) refl
  | inr torn ↦ torn_case p s more torn.0 free (sym (append-nil p) ∙ ap (λ r. p ++ r) (sym torn.1) ∙ e)
]

pub text_is : (p rest : List ℕ) (n : ℕ) (s more : List ℕ) → position (λ b. b == 10) p ≡ Some n → Free 10 s → p ++ rest ≡ with_feed s ++ more → take n p ≡ s
text_is p rest n s more at free e =
    let f = position_found 10 p n at in
    let first = first_feed s (p ++ rest) more free e in
    let same = place-append_found 10 p rest (rw f.1 f.0) in
    let size : n ≡ length s = sym f.1 ∙ sym same ∙ first in
    let prefix : take n (p ++ rest) ≡ take n p = take-append-le n p rest (omega (arith, f.0)) in
    sym prefix ∙ ap (λ xs. take n xs) (e ∙ append_assoc s (10 ∷ []) more) ∙ ap (λ k. take k (s ++ (10 ∷ more))) size ∙ take-append_seam s (10 ∷ more)

pub bad_from_none : (p rest : List ℕ) → HasNoLine p (Some rest) → IsBadLine (p ++ rest)
bad_from_none p rest h = record {
  some = rw (length-append p rest) (omega (arith, h.0));
  bad = λ l more allowed e. no_text p rest (spelling l) more h (Free-spelling l allowed.fits) allowed.short e;
}

pub bad_from_line : (p rest : List ℕ) (n : ℕ) → position (λ b. b == 10) p ≡ Some n → ((l : Line) → LineFits l → take n p ≡ spelling l → ⊥) → IsBadLine (p ++ rest)
bad_from_line p rest n at h =
    let f = position_found 10 p n at in
    record {
      some = rw (length-append p rest) (omega (arith, f.0));
      bad = λ l more allowed e. h l allowed.fits (text_is p rest n (spelling l) more at (Free-spelling l allowed.fits) e);
    }

ends_fault : (e : ShellFault) (log : Refusals) → IsRefused e log → (k : ℕ) (left : List ℕ) (before after : Option (List ℕ)) (text : List ℕ) → WritesBeginning before after text → EndsLines (Err e) k left before after text
ends_fault (BadLine n) log f k left before after text b = absurd f
ends_fault (BadPage fault) log f k left before after text b = absurd f
ends_fault Input log f k left before after text b = b
ends_fault Output log f k left before after text b = b
ends_fault NoMemory log f k left before after text b = b
ends_fault TooManyLines log f k left before after text b = absurd f

-- a refusal causes its fault
pub caused_by : (e : ShellFault) (log : Refusals) → IsRefused e log → IsCaused e log
caused_by (BadLine n) log f = absurd f
caused_by (BadPage fault) log f = absurd f
caused_by Input log f = f
caused_by Output log f = f
caused_by NoMemory log f = f
caused_by TooManyLines log f = absurd f

err_caused : (r : Result (Unit {0}) ShellFault) (log : Refusals) → IsErrAnd r (λ e. IsRefused e log) → IfErr r (λ e. IsCaused e log)
err_caused (Ok u) log f = absurd f
err_caused (Err e) log f = caused_by e log f

-- the end is given, or a refusal of the last write
pub closed_caused : {A B : Type 0} (r end : Result (Unit {0}) ShellFault) (log : Refusals) → ((r ≡ end) × A) ⊎ (IsErrAnd r (λ e. IsRefused e log) × B) → IfErr end (λ e. IsCaused e log) → IfErr r (λ e. IsCaused e log)
closed_caused r end log c caused = elim c [
  | inl h ↦ rw h.0 caused
  | inr h ↦ err_caused r log h.0
]

-- that a growth was refused is noted
pub refused_growth : (e : ShellFault) (log : Refusals) → e ≡ NoMemory → log.memory ≡ true → IsRefused e log
refused_growth e log is noted = rw is noted

pub adv_fault : (from state : WaitingView) (before now : Option (List ℕ)) (old new : List ℕ) (w0 w1 w2 : Option (List ℕ)) (text left : List ℕ) (number : ℕ) (e : ShellFault) (log : Refusals)
    → Progress from state before now old new w0 w1 text left number → IsRefused e log → WritesBeginning w1 w2 left → IfSome before (λ bytes. Advance from (old ++ bytes) w0 w2 text (Err e))
adv_fault from state before now old new w0 w1 w2 text left number e log h f b =
    IfSome_then before (Uses-known before now old (lines_of h.events) new h.uses) (λ input k. record {
      events = h.events;
      allowed = h.allowed;
      last = state;
      leads = h.leads;
      left = new ++ k.0;
      lines = k.2;
      ends = ends_fault e log f (length h.events) (new ++ k.0) w0 w2 (text ++ answers_of h.events) (b.0, Gives-Gives w0 w1 w2 (text ++ answers_of h.events) left b.0 h.gives b.1);
    })

-- the numbers of lines ran out
pub adv_over : (from state : WaitingView) (before now : Option (List ℕ)) (old new : List ℕ) (w0 w1 : Option (List ℕ)) (text left : List ℕ) (number : ℕ)
    → Progress from state before now old new w0 w1 text left number → number ≡ 18446744073709551615 → IfSome before (λ bytes. Advance from (old ++ bytes) w0 w1 text (Err TooManyLines))
adv_over from state before now old new w0 w1 text left number h last =
    IfSome_then before (Uses-known before now old (lines_of h.events) new h.uses) (λ input k. record {
      events = h.events;
      allowed = h.allowed;
      last = state;
      leads = h.leads;
      left = new ++ k.0;
      lines = k.2;
      ends = (sym h.number_is ∙ last, (left, h.gives));
    })

pub Gives-rest : (a b c : Option (List ℕ)) (text left : List ℕ) → GivesText a b text left → Appends b c left → Appends a c text
Gives-rest a b c text left h k = rw h.2 (Appends-Appends a b c h.0 left h.1 k)

closed_fault : (from state : WaitingView) (before now : Option (List ℕ)) (old new : List ℕ) (w0 w1 w2 : Option (List ℕ)) (text left : List ℕ) (number : ℕ) (r : Result (Unit {0}) ShellFault) (log : Refusals)
    → Progress from state before now old new w0 w1 text left number → IsErrAnd r (λ e. IsRefused e log) → WritesBeginning w1 w2 left → IfSome before (λ bytes. Advance from (old ++ bytes) w0 w2 text r)
closed_fault from state before now old new w0 w1 w2 text left number (Ok u) log h f b = absurd f
closed_fault from state before now old new w0 w1 w2 text left number (Err e) log h f b = adv_fault from state before now old new w0 w1 w2 text left number e log h f b

pub adv_close : (from state : WaitingView) (before now : Option (List ℕ)) (old new : List ℕ) (w0 w1 w2 : Option (List ℕ)) (text left : List ℕ) (number : ℕ) (end r : Result (Unit {0}) ShellFault) (log : Refusals)
    → (h : Progress from state before now old new w0 w1 text left number)
    → ((r ≡ end) × Appends w1 w2 left) ⊎ (IsErrAnd r (λ e. IsRefused e log) × WritesBeginning w1 w2 left)
    → ((rest : List ℕ) (T : List ℕ) → now ≡ Some rest → Appends w0 w2 T → EndsLines end (length h.events) (new ++ rest) w0 w2 T)
    → IfSome before (λ bytes. Advance from (old ++ bytes) w0 w2 text r)
adv_close from state before now old new w0 w1 w2 text left number end r log h c ends = elim c [
  | inl whole ↦ rw whole.0 (IfSome_then before (Uses-known before now old (lines_of h.events) new h.uses) (λ input k. record {
    events = h.events;
    allowed = h.allowed;
    last = state;
    leads = h.leads;
    left = new ++ k.0;
    lines = k.2;
    ends = ends k.0 (text ++ answers_of h.events) k.1 (Gives-rest w0 w1 w2 (text ++ answers_of h.events) left h.gives whole.1);
  }))
  | inr fault ↦ closed_fault from state before now old new w0 w1 w2 text left number r log h fault.0 fault.1
]
