-- What is said of an answer, by the replies that it may stand for.
use Rattle.std.proofs.Common.{◌≡◌, ℕ, ◌+◌, ◌<◌, List, refl, ◌∙◌, sym, subst, arith, None, Some, true, false, Bool, inl, inr, codes}
use Rattle.std.specs.Str.{bytes_eq}
use Rattle.std.proofs.lemmas.Bool.{cases_lt}
use Rattle.std.proofs.lemmas.Slice.Eq.{bytes_eq-Decides}
use Rattle.history.specs.World.{World}
use Rattle.calls.specs.declared.step.Step.{Step}
use Rattle.calls.specs.declared.reply.Reply.{Reply}
use Rattle.calls.specs.declared.reply.Reply.TheVariants as reply
use Rattle.calls.specs.declared.reply.Refusal.TheVariants as refusal
use Rattle.refinement.specs.Allowed.{AllowsReply}
use Rattle.judge.specs.declared.why.Why.{Why}
use Rattle.judge.specs.Reasons.{Breaks, TellsDue}
use Rattle.reply_text.specs.Replies.{SpellsReply}
use Rattle.reply_text.proofs.OnceLaws.{no_bare_busy, told_once}
use Rattle.transcript.specs.declared.ruling.Verdict.{Verdict}
use Rattle.transcript.specs.declared.ruling.Verdict.TheVariants as verdict
use Rattle.transcript.specs.Transcripts.{MayBe, IsLetOff, CountsLetOff}
use Rattle.one_answer.specs.OneAnswer.{IsLeftOpen}
use Rattle.judge.proofs.Reasoning.{not_of}
use Rattle.std.specs.Prelude.{IsTrue, ◌↔◌}
use Rattle.calls.specs.declared.reply.Refusal.{Refusal}
use Rattle.transcript.specs.Judging.{JudgesReply, JudgesAnswer, JudgesBusy, NamesBusy}
use Rattle.transcript.proofs.TellingLemmas.{allows_told}

pub says_why : (w v : World) (step : Step) (a : Reply) (why : Why) → v ≡ w → ¬ AllowsReply w step a → Breaks why.rule v step a → TellsDue v step why.due → JudgesReply w step a (verdict.Wrong why) v
says_why w v step a why e isnt breaks due = (isnt, e, subst (λ (u : World). Breaks why.rule u step a) e breaks, subst (λ (u : World). TellsDue u step why.due) e due)

-- by one session more it is not allowed
pub busy_more : (w : World) (step : Step) (s : ℕ) → ((t : ℕ) → t < s → ¬ AllowsReply w step (reply.Refused (refusal.Busy t))) → ¬ AllowsReply w step (reply.Refused (refusal.Busy s))
    → (t : ℕ) → t < s + 1 → ¬ AllowsReply w step (reply.Refused (refusal.Busy t))
busy_more w step s h k t l = elim (cases_lt t s) [
  | inl a ↦ h t a
  | inr g ↦
      let same : t ≡ s = omega arith in
      subst (λ (n : ℕ). ¬ AllowsReply w step (reply.Refused (refusal.Busy n))) (sym same) k
]

pub by_named : (w new : World) (step : Step) (s : ℕ) (v : Verdict) → NamesBusy w step s → JudgesReply w step (reply.Refused (refusal.Busy s)) v new → JudgesBusy w step v new
by_named w new step s (verdict.Allowed open_) named j = (s, named.0, j)
by_named w new step s (verdict.Wrong why) (l, inl allows) j = absurd (j.0 allows)
by_named w new step s (verdict.Wrong why) (l, inr none) j = (s, l, none, j)

-- a refusal that is not left open
pub not_let_off : (w : World) (step : Step) (a : Reply) (r : Refusal) (b : Bool) → a ≡ reply.Refused r → b ≡ false → (IsTrue b ↔ IsLeftOpen w step (reply.Refused r)) → CountsLetOff w step a 0
not_let_off w step a r b is isnt says = inr (subst (λ (x : Reply). ¬ IsLetOff w step x) (sym is) (not_of b isnt says), refl)

is_busy : (answer : List ℕ) → bytes_eq answer (codes "error 7 Busy") ≡ true → answer ≡ codes "error 7 Busy"
is_busy answer h = (bytes_eq-Decides answer (codes "error 7 Busy")).0 h

pub by_busy : (w new : World) (step : Step) (answer : List ℕ) (v : Verdict) → bytes_eq answer (codes "error 7 Busy") ≡ true → JudgesBusy w step v new → JudgesAnswer w step answer (Some v) new
by_busy w new step answer (verdict.Allowed open_) test h = (reply.Refused (refusal.Busy h.0), inr (is_busy answer test, h.0, h.1, refl), h.2)
by_busy w new step answer (verdict.Wrong why) test h =
    let is = is_busy answer test in
    (reply.Refused (refusal.Busy h.0), inr (is, h.0, h.1, refl), never is, h.3)
  where
    never : answer ≡ codes "error 7 Busy" → (r : Reply) → MayBe answer r → ¬ AllowsReply w step r
    never is r (inl spells) = absurd (no_bare_busy r spells.0 (sym is ∙ spells.1))
    never is r (inr b) = subst (λ (x : Reply). ¬ AllowsReply w step x) (sym b.3) (h.2 b.1 b.2)

not_busy : (answer : List ℕ) → bytes_eq answer (codes "error 7 Busy") ≡ false → answer ≡ codes "error 7 Busy" → ⊥
not_busy answer h is = let e : true ≡ false = sym ((bytes_eq-Decides answer (codes "error 7 Busy")).1 is) ∙ h in cc e

pub no_reply : (answer : List ℕ) → bytes_eq answer (codes "error 7 Busy") ≡ false → SpellsReply answer None → (r : Reply) → MayBe answer r → ⊥
no_reply answer test none r (inl spells) = none r spells.0 spells.1
no_reply answer test none r (inr b) = not_busy answer test b.0

pub by_reply : (w new : World) (step : Step) (answer : List ℕ) (a : Reply) (v : Verdict) → bytes_eq answer (codes "error 7 Busy") ≡ false → SpellsReply answer (Some a) → JudgesReply w step a v new
    → JudgesAnswer w step answer (Some v) new
by_reply w new step answer a (verdict.Allowed open_) test spells h = (a, inl spells, h)
by_reply w new step answer a (verdict.Wrong why) test spells h = (a, inl spells, never, h)
  where
    never : (r : Reply) → MayBe answer r → ¬ AllowsReply w step r
    never r (inl other) = λ allows. h.0 (allows_told w step r a (told_once r a other.0 spells.0 (sym other.1 ∙ spells.1)) allows)
    never r (inr b) = absurd (not_busy answer test b.0)

-- The history goes on by a reply that is allowed.
