-- The world after an answer.
use Rattle.std.proofs.Common.{◌≡◌, ℕ, None, Option, cond, nat_eq, sym, ap, ◌∙◌, subst, inl, inr}
use mathlib.Core.Path.{fun_ext}
use Rattle.std.specs.Prelude.{ℤ, Result, OnOk}
use Rattle.std.proofs.lemmas.Result.{on_ok_weaker}
use Rattle.std.proofs.lemmas.Bool.{cases_eq}
use Rattle.history.proofs.HistoryLemmas.{at_same, at_other}
use Rattle.history.specs.World.{World, by_index, by_keys}
use Rattle.history.specs.Moves.{stepped, change, opened}
use Rattle.calls.specs.declared.step.Step.TheVariants as step
use Rattle.calls.specs.declared.reply.Reply.{Reply}
use Rattle.calls.specs.declared.reply.Reply.TheVariants as reply
use Rattle.history.specs.Cursors.{rows_within}
use Rattle.refinement.specs.Allowed.{after_reply}
use Rattle.following.specs.Following.{with_wait}

-- a wait that ended, and is put back

put_back : (waits : ℕ → Option ℕ) (s t : ℕ) → cond (nat_eq t s) (waits s) (cond (nat_eq t s) None (waits t)) ≡ waits t
put_back waits s t = elim (cases_eq t s) [
  | inl same ↦ subst (λ t. cond (nat_eq t s) (waits s) (cond (nat_eq t s) None (waits t)) ≡ waits t) (sym same) (at_same s (waits s) (cond (nat_eq s s) None (waits s)))
  | inr ne ↦ at_other t s (waits s) (cond (nat_eq t s) None (waits t)) ne ∙ at_other t s None (waits t) ne
]

pub restored : (w mid after : World) (s : ℕ) (wait : Option ℕ) → wait ≡ w.waits_for s → mid ≡ stepped w s → after ≡ with_wait mid s wait → after ≡ w
restored w mid after s wait was ended back =
    back ∙ (ap (λ v. with_wait v s wait) ended ∙ (ap (with_wait (stepped w s) s) was ∙ ap (λ (waits : ℕ → Option ℕ). record w { waits_for = waits }) (fun_ext (put_back w.waits_for s))))

-- a cursor is opened within bounds, as they are passed on

pub open_index_after : {A E : Type 0} (r : Result A E) (w new : World) (s index : ℕ) (low high low' high' : ℤ) (a : Reply) → a ≡ reply.Done → low' ≡ low → high' ≡ high
    → OnOk r (new ≡ change w s (opened w.history (by_index index) (rows_within index low' high'))) → OnOk r (new ≡ after_reply w (step.OpenIndex s index low high) a)
open_index_after r w new s index low high low' high' a is same same' ok = on_ok_weaker r (λ e. e
    ∙ (ap (λ l. change w s (opened w.history (by_index index) (rows_within index l high'))) same ∙ (ap (λ h. change w s (opened w.history (by_index index) (rows_within index low h))) same'
    ∙ sym (ap (λ (a : Reply). after_reply w (step.OpenIndex s index low high) a) is)))) ok

pub open_keys_after : {A E : Type 0} (r : Result A E) (w new : World) (s : ℕ) (low high low' high' : ℤ) (a : Reply) → a ≡ reply.Done → low' ≡ low → high' ≡ high
    → OnOk r (new ≡ change w s (opened w.history by_keys (rows_within 0 low' high'))) → OnOk r (new ≡ after_reply w (step.OpenKeys s low high) a)
open_keys_after r w new s low high low' high' a is same same' ok = on_ok_weaker r (λ e. e
    ∙ (ap (λ l. change w s (opened w.history by_keys (rows_within 0 l high'))) same ∙ (ap (λ h. change w s (opened w.history by_keys (rows_within 0 low h))) same'
    ∙ sym (ap (λ (a : Reply). after_reply w (step.OpenKeys s low high) a) is)))) ok
