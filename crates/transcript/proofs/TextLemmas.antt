-- A transcript from its first line to its end.
use Rattle.std.proofs.Common.{◌≡◌, ℕ, ◌+◌, ◌≤◌, List, [], ◌∷◌, ◌++◌, length, take, drop, refl, ap, length-append, ◌∙◌, sym, subst, arith, Option, None, Some, true, false, Bool, inr, Result, Ok, Err, IfSome}
use Rattle.std.proofs.lemmas.Option.{none-some, same_Some}
use Rattle.std.proofs.lemmas.List.{append-nil, take-append-drop}
use Rattle.std.proofs.Math.Seq.{take-append_seam}
use Rattle.history.specs.World.{World, beginning}
use Rattle.calls.specs.Words.{AreSettings}
use Rattle.calls.specs.declared.settings.Settings.{Settings}
use Rattle.refinement.specs.Allowed.{IsRun}
use Rattle.script_text.specs.Grammar.{SettingsFit, heading, with_feed}
use Rattle.script_text.specs.Reading.{cut_at}
use Rattle.script_text.proofs.HeadingLaws.{Free-heading, heading_once}
use Rattle.script_text.proofs.NumberLaws.{cut_at_says, cut_at-free}
use Rattle.transcript.specs.declared.begins.Begins.{Begins}
use Rattle.transcript.specs.declared.begins.Until.TheVariants.{FirstWrong, End}
use Rattle.transcript.specs.declared.fault.Fault.{Fault}
use Rattle.transcript.specs.declared.fault.Fault.TheVariants.{BadLine, Input, Output, NoMemory}
use Rattle.transcript.specs.Transcripts.{Exchange, AreAllowed, AreHeard, AreJudged, IsBadFirst, JudgesText, transcript_text, exchanges_text, allowed_text, line_ends, IsBadExchange, steps_judged, replies_judged}
use Rattle.transcript.specs.Judging.{AreExchanges, AreAllExchanges, MatchesExchange}
use Rattle.transcript.proofs.CuttingLaws.{feed_behind}
use Rattle.transcript.proofs.ExchangeLemmas.{heard_right}

cut_heading : (s : Settings) (more : List ℕ) → AreSettings s → cut_at 10 (with_feed (heading s) ++ more) ≡ Some (heading s, more)
cut_heading s more are = ap (cut_at 10) (feed_behind (heading s) more) ∙ cut_at-free 10 (heading s) more (Free-heading s are)

pub torn_first : (text : List ℕ) → cut_at 10 text ≡ None → IsBadFirst text
torn_first text none = λ s more are fits e. none-some (heading s, more) (sym none ∙ ap (cut_at 10) e ∙ cut_heading s more are)

pub bad_first : (text line rest : List ℕ) → cut_at 10 text ≡ Some (line, rest) → ((s : Settings) → AreSettings s → SettingsFit s → line ≡ heading s → ⊥) → IsBadFirst text
bad_first text line rest cut bad = λ s more are fits e.
    let same = same_Some (line, rest) (heading s, more) (sym cut ∙ ap (cut_at 10) e ∙ cut_heading s more are) in
    bad s are fits (ap (λ (p : List ℕ × List ℕ). p.0) same)

-- the settings of the first line are out of range
pub out_of_range : (text line rest : List ℕ) (own : Settings) → cut_at 10 text ≡ Some (line, rest) → SettingsFit own × (line ≡ heading own) → (AreSettings own → ⊥) → IsBadFirst text
out_of_range text line rest own cut read outside =
    bad_first text line rest cut (λ s are fits e. outside (subst (λ (x : Settings). AreSettings x) (sym (heading_once own s read.0 fits (sym read.1 ∙ e))) are))

-- where the second line begins
pub second_at : (text line rest : List ℕ) (s : Settings) → cut_at 10 text ≡ Some (line, rest) → line ≡ heading s → (take (length line + 1) text ≡ with_feed (heading s)) × (length line + 1 ≤ length text)
second_at text line rest s cut is =
    let text_is : text ≡ with_feed line ++ rest = cut_at_says 10 text line rest cut ∙ sym (feed_behind line rest) in
    let size : length line + 1 ≡ length (with_feed line) = sym (length-append line (10 ∷ [])) in
    let sizes : length text ≡ length (with_feed line) + length rest = ap (λ (xs : List ℕ). length xs) text_is ∙ length-append (with_feed line) rest in
    (ap (λ xs. take (length line + 1) xs) text_is ∙ ap (λ n. take n (with_feed line ++ rest)) size ∙ take-append_seam (with_feed line) rest ∙ ap with_feed is, omega arith)

-- what was heard, behind this first line
judged_is : (begins : Begins) (s : Settings) (w : World) (text : List ℕ) (from : ℕ) (xs : List Exchange) (allowed wrong open_ : ℕ) (told : List ℕ) → AreSettings s → SettingsFit s → w ≡ beginning s.indexed
    → take from text ≡ with_feed (heading s) → AreHeard begins w (take from text) xs allowed wrong open_ told → IsRun w (steps_judged xs) (replies_judged xs) → AreJudged begins s xs allowed wrong open_ told
judged_is begins s w text from xs allowed wrong open_ told are fits e first heard run = record {
  in_range = are;
  fits = fits;
  heard = subst (λ (v : World). AreHeard begins v (with_feed (heading s)) xs allowed wrong open_ told) e (subst (λ (b : List ℕ). AreHeard begins w b xs allowed wrong open_ told) first heard);
  run = subst (λ (v : World). IsRun v (steps_judged xs) (replies_judged xs)) e run;
}

-- and allowed, if none is wrong
allowed_is : (begins : Begins) (s : Settings) (xs : List Exchange) (allowed open_ : ℕ) (told : List ℕ) → AreJudged begins s xs allowed 0 open_ told → AreAllowed begins s xs
allowed_is begins s xs allowed open_ told h =
    record { in_range = h.in_range; fits = h.fits; each = (heard_right begins _ _ xs allowed 0 open_ told h.heard refl).0; run = h.run }

front_is : (s : Settings) (text : List ℕ) (from at : ℕ) (xs : List Exchange) → take at text ≡ take from text ++ exchanges_text xs → take from text ≡ with_feed (heading s) → take at text ≡ transcript_text s xs
front_is s text from at xs is first = is ∙ ap (λ x. x ++ exchanges_text xs) first

whole_is : (s : Settings) (text : List ℕ) (from at : ℕ) (xs : List Exchange) → take at text ≡ take from text ++ exchanges_text xs → take from text ≡ with_feed (heading s) → text ≡ transcript_text s xs ++ drop at text
whole_is s text from at xs is first = sym (take-append-drop at text) ∙ ap (λ x. x ++ drop at text) (front_is s text from at xs is first)

-- up to the end of the text
ended_is : (s : Settings) (text : List ℕ) (from at : ℕ) (xs : List Exchange) → take at text ≡ take from text ++ exchanges_text xs → take from text ≡ with_feed (heading s) → drop at text ≡ [] → text ≡ transcript_text s xs
ended_is s text from at xs is first over = whole_is s text from at xs is first ∙ ap (λ x. transcript_text s xs ++ x) over ∙ append-nil (transcript_text s xs)

pub judges_first : (begins : Begins) (s : Settings) (w : World) (text : List ℕ) (from : ℕ) (r : Result Bool Fault) (old out : List ℕ) → AreExchanges begins w text from r old out → AreSettings s → SettingsFit s
    → w ≡ beginning s.indexed → take from text ≡ with_feed (heading s) → old ≡ [] → JudgesText begins FirstWrong r text out
judges_first begins s w text from (Ok true) old out h are fits e first none =
    let judged = judged_is begins s w text from h.xs (length (steps_judged h.xs)) 0 h.open_ [] are fits e first h.heard h.run in
    (s, h.xs, h.open_, allowed_is begins s h.xs _ h.open_ [] judged, judged, ended_is s text from h.at h.xs h.text_is first h.ends.0, rw none at h.ends.1)
judges_first begins s w text from (Ok false) old out h are fits e first none =
    let n = h.ends in
    let front = front_is s text from h.at h.xs h.text_is first in
    let judged = judged_is begins s w text from h.xs (length (steps_judged h.xs)) 0 h.open_ [] are fits e first h.heard h.run in (
      s,
      h.xs,
      n.0,
      n.1,
      n.2,
      n.3,
      n.4,
      allowed_is begins s h.xs _ h.open_ [] judged,
      whole_is s text from h.at h.xs h.text_is first ∙ ap (λ x. transcript_text s h.xs ++ x) n.6,
      n.7,
      rw e at n.5,
      rw (none, front) at n.8,
    )
judges_first begins s w text from (Err (BadLine n)) old out h are fits e first none =
    let front = front_is s text from h.at h.xs h.text_is first in
    let judged = judged_is begins s w text from h.xs (length (steps_judged h.xs)) 0 h.open_ [] are fits e first h.heard h.run in
    let ends : MatchesExchange text h.at (BadLine n) = h.ends in
    inr (
      s,
      h.xs,
      drop h.at text,
      allowed_is begins s h.xs _ h.open_ [] judged,
      whole_is s text from h.at h.xs h.text_is first,
      subst (λ (x : List ℕ). IsBadExchange n (line_ends x) (drop h.at text)) front ends,
    )
judges_first begins s w text from (Err Input) old out h are fits e first none = absurd h.ends
judges_first begins s w text from (Err Output) old out h are fits e first none = absurd h.ends
judges_first begins s w text from (Err NoMemory) old out h are fits e first none = tt

-- none is wrong: what was told is nothing, and all were allowed
none_wrong : (begins : Begins) (s : Settings) (xs : List Exchange) (allowed wrong open_ : ℕ) (told out : List ℕ) → AreJudged begins s xs allowed wrong open_ told → allowed + wrong ≡ length (steps_judged xs) → wrong ≡ 0
    → out ≡ [] ++ told ++ allowed_text allowed open_ → AreJudged begins s xs (length (steps_judged xs)) 0 open_ [] × (out ≡ allowed_text (length (steps_judged xs)) open_)
none_wrong begins s xs allowed wrong open_ told out judged count none out_is =
    let silent = (heard_right begins _ _ xs allowed wrong open_ told judged.heard none).1 in
    let all : allowed ≡ length (steps_judged xs) = let c = count in omega (arith, none) in (
      subst (λ (n : ℕ). AreJudged begins s xs n 0 open_ []) all
          (subst (λ (n : ℕ). AreJudged begins s xs allowed n open_ []) none (subst (λ (t : List ℕ). AreJudged begins s xs allowed wrong open_ t) silent judged)),
      out_is ∙ ap (λ t. t ++ allowed_text allowed open_) silent ∙ ap (λ n. allowed_text n open_) all,
    )

pub judges_all : (begins : Begins) (s : Settings) (w : World) (text : List ℕ) (from : ℕ) (r : Result Bool Fault) (old out : List ℕ) → AreAllExchanges begins w text from r old out → AreSettings s → SettingsFit s
    → w ≡ beginning s.indexed → take from text ≡ with_feed (heading s) → old ≡ [] → JudgesText begins End r text out
judges_all begins s w text from (Ok true) old out h are fits e first none =
    let judged = judged_is begins s w text from h.xs h.allowed h.wrong h.open_ h.told are fits e first h.heard h.run in
    let silent = none_wrong begins s h.xs h.allowed h.wrong h.open_ h.told out judged h.count h.ends.1.0 (rw none at h.ends.1.1) in
    (s, h.xs, h.open_, allowed_is begins s h.xs _ h.open_ [] silent.0, silent.0, ended_is s text from h.at h.xs h.text_is first h.ends.0, silent.1)
judges_all begins s w text from (Ok false) old out h are fits e first none =
    let judged = judged_is begins s w text from h.xs h.allowed h.wrong h.open_ h.told are fits e first h.heard h.run in
    (s, h.xs, h.allowed, h.wrong, h.open_, h.told, judged, h.ends.1.0, ended_is s text from h.at h.xs h.text_is first h.ends.0, rw none at h.ends.1.1)
judges_all begins s w text from (Err (BadLine n)) old out h are fits e first none =
    let front = front_is s text from h.at h.xs h.text_is first in
    let judged = judged_is begins s w text from h.xs h.allowed h.wrong h.open_ h.told are fits e first h.heard h.run in
    let ends : MatchesExchange text h.at (BadLine n) = h.ends in
    inr (
      s,
      h.xs,
      drop h.at text,
      (h.allowed, h.wrong, h.open_, h.told, judged),
      whole_is s text from h.at h.xs h.text_is first,
      subst (λ (x : List ℕ). IsBadExchange n (line_ends x) (drop h.at text)) front ends,
    )
judges_all begins s w text from (Err Input) old out h are fits e first none = absurd h.ends
judges_all begins s w text from (Err Output) old out h are fits e first none = absurd h.ends
judges_all begins s w text from (Err NoMemory) old out h are fits e first none = tt

-- the input that was read is the text
pub known_text : (A : List ℕ → Type 0) (input : Option (List ℕ)) (old text : List ℕ) → old ≡ [] → IfSome input (λ xs. text ≡ old ++ xs) → A text → IfSome input (λ xs. A xs)
known_text A None old text none is a = tt
known_text A (Some xs) old text none is a = subst A (rw none at is) a
