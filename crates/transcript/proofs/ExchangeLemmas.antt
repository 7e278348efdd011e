-- Exchanges that are judged, one after another.
use Rattle.std.proofs.Common.{◌≡◌, ℕ, ◌+◌, ◌-◌, ◌<◌, ◌≤◌, List, [], ◌∷◌, ◌++◌, length, take, drop, refl, ap, append_assoc, length-append, length-drop, ◌∙◌, sym, subst, arith, Option, None, Some, false, Bool, inl, inr, codes, Result, Ok, Err}
use Rattle.std.specs.List.{AllByRecursion}
use Rattle.std.proofs.lemmas.Option.{none-some, same_Some}
use Rattle.std.proofs.lemmas.List.{append-nil, take-append-drop, length-take-le}
use Rattle.std.proofs.lemmas.Grind.{flat_map-append}
use Rattle.std.proofs.Math.Seq.{take-append_seam, drop-append-add}
use Rattle.history.specs.World.{World}
use Rattle.calls.specs.declared.step.Step.{Step}
use Rattle.calls.specs.declared.reply.Reply.{Reply}
use Rattle.refinement.specs.Allowed.{AllowsReply, after_reply, IsRun, after}
use Rattle.script_text.specs.Grammar.{with_feed}
use Rattle.judge.specs.declared.due.Due.{Due}
use Rattle.judge.specs.declared.why.Why.{Why}
use Rattle.judge.specs.Reasons.{Breaks, TellsDue}
use Rattle.judge.proofs.RunsLemmas.{run-push, after-push}
use Rattle.transcript.specs.declared.begins.Begins.{Begins}
use Rattle.transcript.specs.declared.exchanges.Heard.TheVariants.{Went, Wrong}
use Rattle.transcript.specs.declared.exchanges.Past.{Past}
use Rattle.transcript.specs.declared.ruling.Verdict.TheVariants as verdict
use Rattle.transcript.specs.declared.showing.Shown.{Shown}
use Rattle.transcript.specs.Showing.{ShowsWhy}
use Rattle.transcript.specs.declared.fault.Fault.{Fault}
use Rattle.transcript.specs.declared.fault.Fault.TheVariants as fault
use Rattle.transcript.specs.declared.question.Question.{Question}
use Rattle.transcript.specs.declared.question.Question.TheVariants as question
use Rattle.transcript.specs.Transcripts.{Exchange, IsExchange, IsQuestion, IsWrong, MayBe, judged_as, exchange_text, exchanges_text, is_next_or_end, step_said, reply_said, step_judged, reply_judged, steps_judged, replies_judged, IsAllowedExchange, CountsLetOff, IsHeard, right, amiss, AreHeard, nothing, further, wrong_text, line_ends}
use Rattle.transcript.specs.Cutting.{question_in, answer_in}
use Rattle.transcript.specs.Judging.{IsAskedBy, JudgesAnswer, GoesOnAs, GoesOnBy, IsNextExchange, IsPastExchange, MatchesExchange, EndsExchanges, AreExchanges}
use Rattle.transcript.proofs.CuttingLaws.{question_says, question_in-text, answer_says, answer_in-text}
use Rattle.transcript.proofs.AskingLemmas.{no_look, is_question}

-- Where an exchange stands in the text.

exchange_behind : (asked answer rest : List ℕ) → codes "> " ++ (with_feed asked ++ (with_feed answer ++ rest)) ≡ exchange_text asked answer ++ rest
exchange_behind asked answer rest = ap (λ r. codes "> " ++ r) (sym (append_assoc (with_feed asked) (with_feed answer) rest))

pub exchange_is : (text asked left answer rest : List ℕ) → question_in text ≡ Some (asked, left) → answer_in left ≡ Some (answer, rest) → text ≡ exchange_text asked answer ++ rest
exchange_is text asked left answer rest q a =
    (question_says text asked left q).0 ∙ ap (λ r. codes "> " ++ (with_feed asked ++ r)) (answer_says left answer rest a).0 ∙ exchange_behind asked answer rest

-- the rest stands where its length says
pub rest_at : (text front rest : List ℕ) (at next : ℕ) → at ≤ length text → drop at text ≡ front ++ rest → next ≡ length text - length rest → (drop next text ≡ rest) × (next ≤ length text)
rest_at text front rest at next within is next_is =
    let whole : text ≡ (take at text ++ front) ++ rest = sym (take-append-drop at text) ∙ ap (λ r. take at text ++ r) is ∙ sym (append_assoc (take at text) front rest) in
    let sizes : length text ≡ length (take at text ++ front) + length rest = ap (λ (xs : List ℕ). length xs) whole ∙ length-append (take at text ++ front) rest in
    let place : next ≡ length (take at text ++ front) + 0 = omega arith in
    (ap (λ xs. drop next xs) whole ∙ ap (λ n. drop n ((take at text ++ front) ++ rest)) place ∙ drop-append-add (take at text ++ front) rest 0, omega arith)

-- what stands before it, and how far that is
moved : (text front : List ℕ) (at next : ℕ) → at ≤ length text → next ≤ length text → drop at text ≡ front ++ drop next text → (take next text ≡ take at text ++ front) × (next ≡ at + length front)
moved text front at next within within' is =
    let whole : text ≡ (take at text ++ front) ++ drop next text = sym (take-append-drop at text) ∙ ap (λ r. take at text ++ r) is ∙ sym (append_assoc (take at text) front (drop next text)) in
    let sizes : length text ≡ length (take at text ++ front) + length (drop next text) = ap (λ (xs : List ℕ). length xs) whole ∙ length-append (take at text ++ front) (drop next text) in
    let left : length (drop next text) ≡ length text - next = length-drop next text in
    let before : length (take at text) ≡ at = length-take-le at text within in
    let front_is : length (take at text ++ front) ≡ at + length front = length-append (take at text) front ∙ ap (λ n. n + length front) before in
    let place : next ≡ length (take at text ++ front) = omega arith in
    (ap (λ xs. take next xs) whole ∙ ap (λ n. take n ((take at text ++ front) ++ drop next text)) place ∙ take-append_seam (take at text ++ front) (drop next text), place ∙ front_is)

pub rest_fits : (text asked left answer rest : List ℕ) (at : ℕ) → question_in (drop at text) ≡ Some (asked, left) → answer_in left ≡ Some (answer, rest) → length rest ≤ length text
rest_fits text asked left answer rest at q a =
    let is = exchange_is (drop at text) asked left answer rest q a in
    let sizes : length (drop at text) ≡ length (exchange_text asked answer) + length rest = ap (λ (xs : List ℕ). length xs) is ∙ length-append (exchange_text asked answer) rest in
    let dropped = length-drop at text in
    omega arith

-- what is no step is a look
pub look_of : (begins : Begins) (asked : List ℕ) (q : Question) → IsAskedBy begins asked (Some q) → ((s : Step) → q ≡ question.Step s → ⊥) → IsAskedBy begins asked (Some question.Look)
look_of begins asked (question.Step s) a h = absurd (h s refl)
look_of begins asked question.Look a h = a

-- What is said of the exchange at a place.

pub look_goes : (begins : Begins) (w : World) (text asked left answer rest old : List ℕ) (at next : ℕ) → at ≤ length text → question_in (drop at text) ≡ Some (asked, left) → answer_in left ≡ Some (answer, rest)
    → IsAskedBy begins asked (Some question.Look) → next ≡ length text - length rest → IsNextExchange begins w text at (Went next 0 0) w old old
look_goes begins w text asked left answer rest old at next within q a asks next_is =
    let is = exchange_is (drop at text) asked left answer rest q a in
    let to = rest_at text (exchange_text asked answer) rest at next within is next_is in
    let x : Exchange = record { asked = asked; answer = answer; judged = None } in
    let good : IsExchange begins x = record { one_line = (question_says (drop at text) asked left q).1; one_answer = (answer_says left answer rest a).2; judged = asks } in
    (x, good, (refl, refl), refl, (is ∙ ap (λ r. exchange_text asked answer ++ r) (sym to.0), to.1), refl)

pub step_goes : (begins : Begins) (w new : World) (step : Step) (text asked left answer rest old : List ℕ) (at next open_ : ℕ) → at ≤ length text → question_in (drop at text) ≡ Some (asked, left) → answer_in left ≡ Some (answer, rest)
    → IsAskedBy begins asked (Some (question.Step step)) → next ≡ length text - length rest → JudgesAnswer w step answer (Some (verdict.Allowed open_)) new → IsNextExchange begins w text at (Went next 1 open_) new old old
step_goes begins w new step text asked left answer rest old at next open_ within q a asks next_is told =
    let is = exchange_is (drop at text) asked left answer rest q a in
    let to = rest_at text (exchange_text asked answer) rest at next within is next_is in
    let x : Exchange = record { asked = asked; answer = answer; judged = Some (step, told.0) } in
    let good : IsExchange begins x = record { one_line = (question_says (drop at text) asked left q).1; one_answer = (answer_says left answer rest a).2; judged = (asks, told.1) } in
    (x, good, (told.2.0, refl, told.2.2), (told.2.0, told.2.1), (is ∙ ap (λ r. exchange_text asked answer ++ r) (sym to.0), to.1), refl)

pub answer_wrong : (begins : Begins) (w new : World) (step : Step) (text asked left answer rest old out : List ℕ) (at next : ℕ) (why : Why) (shown : Option Shown) → at ≤ length text → question_in (drop at text) ≡ Some (asked, left)
    → answer_in left ≡ Some (answer, rest) → IsAskedBy begins asked (Some (question.Step step)) → next ≡ length text - length rest → JudgesAnswer w step answer (Some (verdict.Wrong why)) new → ShowsWhy new step shown
    → out ≡ old ++ wrong_text (line_ends (take at text) + 1) asked answer why shown → IsNextExchange begins w text at (Wrong next step why.due) new old out
answer_wrong begins w new step text asked left answer rest old out at next why shown within q a asks next_is told shows out_is =
    let is = exchange_is (drop at text) asked left answer rest q a in
    let to = rest_at text (exchange_text asked answer) rest at next within is next_is in
    let says = answer_says left answer rest a in
    let wrong : IsWrong begins w asked answer why shown = record {
      one_line = (question_says (drop at text) asked left q).1;
      one_answer = says.2;
      own = asks.0;
      asks = asks.1;
      reply = told.0;
      some = told.1;
      never = subst (λ (s : Step). (reply : Reply) → MayBe answer reply → ¬ AllowsReply w s reply) asks.2 told.2;
      rule = subst (λ (s : Step). Breaks why.rule w s told.0) asks.2 told.3.2;
      due = subst (λ (s : Step). TellsDue w s why.due) asks.2 told.3.3;
      shows = subst (λ (s : Step). ShowsWhy w s shown) asks.2 (subst (λ (v : World). ShowsWhy v step shown) told.3.1 shows);
    } in
    (asked, answer, why, shown, wrong, asks.2, refl, told.3.1, (is ∙ ap (λ r. exchange_text asked answer ++ r) (sym to.0), to.1), ap is_next_or_end to.0 ∙ says.1, out_is)

some_left : (text : List ℕ) (at : ℕ) → at < length text → 0 < length (drop at text)
some_left text at h = let size = length-drop at text in omega arith

pub no_question : (text : List ℕ) (at n : ℕ) → at < length text → question_in (drop at text) ≡ None → n ≡ line_ends (take at text) + 1 → MatchesExchange text at (fault.BadLine n)
no_question text at n within none n_is =
    inl (
      n_is,
      record {
        some = some_left text at within;
        bad = λ asked more line question e. none-some (asked, more) (sym none ∙ ap question_in e ∙ question_in-text asked more line);
      },
    )

pub bad_question : (begins : Begins) (text asked left : List ℕ) (at n : ℕ) → at < length text → question_in (drop at text) ≡ Some (asked, left) → IsAskedBy begins asked None → n ≡ line_ends (take at text) + 1
    → MatchesExchange text at (fault.BadLine n)
bad_question begins text asked left at n within q asks n_is =
    inl (
      n_is,
      record {
        some = some_left text at within;
        bad = λ other more line question e.
            let same = same_Some (asked, left) (other, more) (sym q ∙ ap question_in e ∙ question_in-text other more line) in
            asks (subst (λ (xs : List ℕ). IsQuestion xs) (sym (ap (λ (p : List ℕ × List ℕ). p.0) same)) question);
      },
    )

pub no_answer : (begins : Begins) (text asked left : List ℕ) (q : Question) (at n : ℕ) → question_in (drop at text) ≡ Some (asked, left) → IsAskedBy begins asked (Some q) → answer_in left ≡ None → n ≡ line_ends (take at text) + 1 + 1
    → MatchesExchange text at (fault.BadLine n)
no_answer begins text asked left q at n is asks none n_is =
    inr (
      omega arith,
      record {
        asked = asked;
        left = left;
        is = (question_says (drop at text) asked left is).0;
        question = is_question begins asked q asks;
        bad = λ answer more one ends to e. none-some (answer, more) (sym none ∙ ap answer_in e ∙ answer_in-text answer more one ends);
      },
    )

pub bad_answer : (begins : Begins) (w new : World) (step : Step) (text asked left answer rest : List ℕ) (at n : ℕ) → question_in (drop at text) ≡ Some (asked, left) → IsAskedBy begins asked (Some (question.Step step))
    → answer_in left ≡ Some (answer, rest) → JudgesAnswer w step answer None new → n ≡ line_ends (take at text) + 1 + 1 → MatchesExchange text at (fault.BadLine n)
bad_answer begins w new step text asked left answer rest at n is asks a told n_is =
    inr (
      omega arith,
      record {
        asked = asked;
        left = left;
        is = (question_says (drop at text) asked left is).0;
        question = inl (asks.0, asks.1);
        bad = λ other more one ends to e.
            let same = same_Some (answer, rest) (other, more) (sym a ∙ ap answer_in e ∙ answer_in-text other more one ends) in
            elim to [
              | inl look ↦ no_look asked asks.0 asks.1 look
              | inr some ↦ told some.0 (subst (λ (xs : List ℕ). MayBe xs some.0) (sym (ap (λ (p : List ℕ × List ℕ). p.0) same)) some.1)
            ];
      },
    )

-- A run, one exchange further.

run-more : (w now new : World) (steps : List Step) (replies : List Reply) (judged : Option (Step × Reply)) → IsRun w steps replies → now ≡ after w steps replies → GoesOnBy now judged new
    → IsRun w (steps ++ step_said judged) (replies ++ reply_said judged) × (new ≡ after w (steps ++ step_said judged) (replies ++ reply_said judged))
run-more w now new steps replies None run is goes = rw (append-nil steps, append-nil replies) (run, goes ∙ is)
run-more w now new steps replies (Some (s, r)) run is goes = (
  run-push w steps replies s r run (subst (λ (v : World). AllowsReply v s r) is goes.0),
  goes.1 ∙ ap (λ (v : World). after_reply v s r) is ∙ sym (after-push w steps replies s r run),
)

each-push : (begins : Begins) (xs : List Exchange) (x : Exchange) → AllByRecursion (λ x. IsExchange begins x) xs → IsExchange begins x → AllByRecursion (λ x. IsExchange begins x) (xs ++ x ∷ [])
each-push begins [] x h k = (k, tt)
each-push begins (y ∷ ys) x h k = (h.0, each-push begins ys x h.1 k)

steps-push : (xs : List Exchange) (x : Exchange) → steps_judged (xs ++ x ∷ []) ≡ steps_judged xs ++ step_judged x
steps-push xs x = flat_map-append step_judged xs (x ∷ []) ∙ ap (λ r. steps_judged xs ++ r) (append-nil (step_judged x))

replies-push : (xs : List Exchange) (x : Exchange) → replies_judged (xs ++ x ∷ []) ≡ replies_judged xs ++ reply_judged x
replies-push xs x = flat_map-append reply_judged xs (x ∷ []) ∙ ap (λ r. replies_judged xs ++ r) (append-nil (reply_judged x))

text-push : (xs : List Exchange) (x : Exchange) → exchanges_text (xs ++ x ∷ []) ≡ exchanges_text xs ++ exchange_text x.asked x.answer
text-push xs x = flat_map-append (λ (x : Exchange). exchange_text x.asked x.answer) xs (x ∷ []) ∙ ap (λ r. exchanges_text xs ++ r) (append-nil (exchange_text x.asked x.answer))

exchange_some : (asked answer : List ℕ) → 2 ≤ length (exchange_text asked answer)
exchange_some asked answer = omega arith

-- What is past.

pub went_past : (begins : Begins) (w new : World) (text old out : List ℕ) (at next allowed open_ : ℕ) → IsNextExchange begins w text at (Went next allowed open_) new old out
    → IsPastExchange begins w text at (record { next = next; allowed = allowed; wrong = 0; left_open = open_ }) new old out
went_past begins w new text old out at next allowed open_ n = (n.0, [], right allowed open_ n.1 n.2, n.3, n.4, n.5 ∙ sym (append-nil old))

moved_on : (w mid new : World) (step own : Step) (due own_due : Due) → mid ≡ w → step ≡ own → due ≡ own_due → GoesOnAs mid step due new → GoesOnAs w own own_due new
moved_on w mid new step own due own_due e f g h =
    subst (λ (u : World). GoesOnAs u own own_due new) e (subst (λ (s : Step). GoesOnAs mid s own_due new) f (subst (λ (d : Due). GoesOnAs mid step d new) g h))

-- what is due, in the world that stayed
pub due_there : (begins : Begins) (w mid : World) (step : Step) (due : Due) (text old out : List ℕ) (at next : ℕ) → IsNextExchange begins w text at (Wrong next step due) mid old out → TellsDue mid step due
due_there begins w mid step due text old out at next n =
    subst (λ (u : World). TellsDue u step due) (sym n.7) (subst (λ (s : Step). TellsDue w s due) (sym n.5) (subst (λ (d : Due). TellsDue w (judged_as begins n.4.own) d) (sym n.6) n.4.due))

pub wrong_past : (begins : Begins) (w mid new : World) (step : Step) (due : Due) (text old out : List ℕ) (at next : ℕ) → IsNextExchange begins w text at (Wrong next step due) mid old out → GoesOnAs mid step due new
    → IsPastExchange begins w text at (record { next = next; allowed = 0; wrong = 1; left_open = 0 }) new old out
wrong_past begins w mid new step due text old out at next n goes =
    let why : Why = n.2 in
    let is = n.4 in
    let own = judged_as begins is.own in
    let on = moved_on w mid new step own due why.due n.7 n.5 n.6 goes in
    let x : Exchange = record { asked = n.0; answer = n.1; judged = Some (own, on.0) } in
    (x, wrong_text (line_ends (take at text) + 1) n.0 n.1 why n.3, amiss why n.3 on.0 is refl on.1, (on.2, on.3), n.8, n.10)

counts_allowed : (w : World) (judged : Option (Step × Reply)) (allowed open_ : ℕ) → IsAllowedExchange w judged allowed open_ → (allowed ≡ length (step_said judged)) × (allowed ≤ 1) × (open_ ≤ allowed)
counts_allowed w None allowed open_ h = (h.0, let e = h.0 in omega arith, let e = h.0 in let f = h.1 in omega arith)
counts_allowed w (Some (s, r)) allowed open_ h = (h.1, let e = h.1 in omega arith, few h.2)
  where
    few : CountsLetOff w s r open_ → open_ ≤ allowed
    few (inl one) = let e = h.1 in let f = one.1 in omega arith
    few (inr none) = let f = none.1 in omega arith

counts_heard : (begins : Begins) (w : World) (number : ℕ) (x : Exchange) (allowed wrong open_ : ℕ) (told : List ℕ) → IsHeard begins w number x allowed wrong open_ told
    → (allowed + wrong ≡ length (step_judged x)) × (allowed + wrong ≤ 1) × (open_ ≤ allowed)
counts_heard begins w number x allowed wrong open_ told (right _ _ is h) =
    let c = counts_allowed w x.judged allowed open_ h in
    let few = c.1 in
    (let e = c.0 in omega arith, omega arith, c.2)
counts_heard begins w number x allowed wrong open_ told (amiss why shown given is e stands) =
    (sym (ap (λ (j : Option (Step × Reply)). length (step_said j)) e), omega arith, omega arith)

-- where none is wrong, all are allowed, and nothing is told
right_of : (begins : Begins) (w : World) (number : ℕ) (x : Exchange) (allowed wrong open_ : ℕ) (told : List ℕ) → IsHeard begins w number x allowed wrong open_ told → wrong ≡ 0 → IsExchange begins x × (told ≡ [])
right_of begins w number x allowed wrong open_ told (right _ _ is h) none = (is, refl)
right_of begins w number x allowed wrong open_ told (amiss why shown given is e stands) none = absurd (omega (arith, none))

pub heard_right : (begins : Begins) (w : World) (before : List ℕ) (xs : List Exchange) (allowed wrong open_ : ℕ) (told : List ℕ) → AreHeard begins w before xs allowed wrong open_ told → wrong ≡ 0
    → AllByRecursion (λ x. IsExchange begins x) xs × (told ≡ [])
heard_right begins w before xs allowed wrong open_ told nothing none = (tt, refl)
heard_right begins w before xs allowed wrong open_ told (further ys x a wr o a' wr' o' said said' h one) none =
    let earlier = heard_right begins w before ys a wr o said h (omega (arith, none)) in
    let last = right_of begins _ _ x a' wr' o' said' one (omega (arith, none)) in
    (each-push begins ys x earlier.0 last.0, rw (earlier.1, last.1) refl)

-- how far the exchanges have come
pub record Progress (begins : Begins) (w now : World) (text : List ℕ) (from at allowed wrong open_ : ℕ) (told : List ℕ) : Type 0 where
  pub xs : List Exchange
  pub heard : AreHeard begins w (take from text) xs allowed wrong open_ told
  pub run : IsRun w (steps_judged xs) (replies_judged xs)
  pub now_is : now ≡ after w (steps_judged xs) (replies_judged xs)
  pub text_is : take at text ≡ take from text ++ exchanges_text xs
  pub within : at ≤ length text
  pub count : allowed + wrong ≡ length (steps_judged xs)
  pub few : allowed + wrong ≤ at
  pub fewer : open_ ≤ allowed

pub Progress-start : (begins : Begins) (w : World) (text : List ℕ) (from : ℕ) → from ≤ length text → Progress begins w w text from from 0 0 0 []
Progress-start begins w text from within =
    record { xs = []; heard = nothing; run = tt; now_is = refl; text_is = sym (append-nil (take from text)); within = within; count = refl; few = omega arith; fewer = omega arith }

-- the next is heard in the world and at the line where those before end
heard_there : (begins : Begins) (now v : World) (front before : List ℕ) (x : Exchange) (allowed wrong open_ : ℕ) (told : List ℕ) → now ≡ v → front ≡ before → IsHeard begins now (line_ends front + 1) x allowed wrong open_ told
    → IsHeard begins v (line_ends before + 1) x allowed wrong open_ told
heard_there begins now v front before x allowed wrong open_ told e f h =
    subst (λ (u : World). IsHeard begins u (line_ends before + 1) x allowed wrong open_ told) e (subst (λ (xs : List ℕ). IsHeard begins now (line_ends xs + 1) x allowed wrong open_ told) f h)

pub Progress-past : (begins : Begins) (w now new : World) (text old out : List ℕ) (from at allowed wrong open_ : ℕ) (told : List ℕ) (past : Past) → Progress begins w now text from at allowed wrong open_ told
    → (p : IsPastExchange begins now text at past new old out) → Progress begins w new text from past.next (allowed + past.allowed) (wrong + past.wrong) (open_ + past.left_open) (told ++ p.1)
Progress-past begins w now new text old out from at allowed wrong open_ told past h p =
    let x : Exchange = p.0 in
    let to = moved text (exchange_text x.asked x.answer) at past.next h.within p.4.1 p.4.0 in
    let run = run-more w now new (steps_judged h.xs) (replies_judged h.xs) x.judged h.run h.now_is p.3 in
    let counts = counts_heard begins now (line_ends (take at text) + 1) x past.allowed past.wrong past.left_open p.1 p.2 in
    let some = exchange_some x.asked x.answer in
    let more : allowed + past.allowed + (wrong + past.wrong) ≡ length (steps_judged h.xs) + length (step_judged x) = let a = h.count in let b = counts.0 in omega arith in
    let count : allowed + past.allowed + (wrong + past.wrong) ≡ length (steps_judged (h.xs ++ x ∷ [])) =
    more ∙ sym (length-append (steps_judged h.xs) (step_judged x)) ∙ ap (λ (ss : List Step). length ss) (sym (steps-push h.xs x)) in
    record {
      xs = h.xs ++ x ∷ [];
      heard = further h.xs x allowed wrong open_ past.allowed past.wrong past.left_open told p.1 h.heard
          (heard_there begins now _ (take at text) (take from text ++ exchanges_text h.xs) x past.allowed past.wrong past.left_open p.1 h.now_is h.text_is p.2);
      run = rw (steps-push h.xs x, replies-push h.xs x) run.0;
      now_is = rw (steps-push h.xs x, replies-push h.xs x) run.1;
      text_is = to.0 ∙ ap (λ r. r ++ exchange_text x.asked x.answer) h.text_is ∙ append_assoc (take from text) (exchanges_text h.xs) (exchange_text x.asked x.answer) ∙ ap (λ r. take from text ++ r) (sym (text-push h.xs x));
      within = p.4.1;
      count = count;
      few = let few = h.few in let one = counts.1 in let at_is = to.1 in omega arith;
      fewer = let few = h.fewer in let one = counts.2 in omega arith;
    }

-- where it is allowed, nothing is told
pub Progress-went : (begins : Begins) (w now new : World) (text old out : List ℕ) (from at next allowed open_ judged more : ℕ) → Progress begins w now text from at allowed 0 open_ []
    → IsNextExchange begins now text at (Went next judged more) new old out → Progress begins w new text from next (allowed + judged) 0 (open_ + more) []
Progress-went begins w now new text old out from at next allowed open_ judged more h n =
    Progress-past begins w now new text old (old ++ []) from at allowed 0 open_ [] (record { next = next; allowed = judged; wrong = 0; left_open = more }) h (n.0, [], right judged more n.1 n.2, n.3, n.4, refl)

-- the exchange at a place of the text has a length
pub further_on : (text asked answer : List ℕ) (at next : ℕ) → at ≤ length text → (drop at text ≡ exchange_text asked answer ++ drop next text) × (next ≤ length text) → at < next
further_on text asked answer at next within stands =
    let to = moved text (exchange_text asked answer) at next within stands.1 stands.0 in
    let some = exchange_some asked answer in
    let next_is = to.1 in
    omega arith

-- Up to the first wrong answer.

pub exchanges_end : (begins : Begins) (w now : World) (text : List ℕ) (from at allowed open_ : ℕ) (result : Result Bool Fault) (old out : List ℕ) → (h : Progress begins w now text from at allowed 0 open_ [])
    → EndsExchanges begins (after w (steps_judged h.xs) (replies_judged h.xs)) text at (length (steps_judged h.xs)) open_ result old out → AreExchanges begins w text from result old out
exchanges_end begins w now text from at allowed open_ result old out h ends =
    let count : allowed ≡ length (steps_judged h.xs) = let c = h.count in omega arith in
    record { xs = h.xs; open_ = open_; heard = subst (λ (n : ℕ). AreHeard begins w (take from text) h.xs n 0 open_ []) count h.heard; run = h.run; at = at; text_is = h.text_is; ends = ends }

pub ends_wrong : (begins : Begins) (w now new : World) (text : List ℕ) (from at allowed open_ next : ℕ) (step : Step) (due : Due) (old out : List ℕ) → Progress begins w now text from at allowed 0 open_ []
    → IsNextExchange begins now text at (Wrong next step due) new old out → AreExchanges begins w text from (Ok false) old out
ends_wrong begins w now new text from at allowed open_ next step due old out h n =
    exchanges_end begins w now text from at allowed open_ (Ok false) old out h
    (n.0, n.1, drop next text, n.2, n.3, subst (λ (u : World). IsWrong begins u n.0 n.1 n.2 n.3) h.now_is n.4, n.8.0, n.9, n.10)

pub ends_fault : (begins : Begins) (w now : World) (text : List ℕ) (from at allowed open_ : ℕ) (e : Fault) (old out : List ℕ) → Progress begins w now text from at allowed 0 open_ [] → MatchesExchange text at e
    → AreExchanges begins w text from (Err e) old out
ends_fault begins w now text from at allowed open_ e old out h m = exchanges_end begins w now text from at allowed open_ (Err e) old out h m

-- To the end.
