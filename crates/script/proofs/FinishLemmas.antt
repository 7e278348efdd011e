-- A vacuum that is finished goes on by one step.
use Rattle.std.proofs.Common.{◌≡◌, ℕ, ◌+◌, ◌<◌, List, [], ◌∷◌, ◌++◌, length, refl, sym, subst, ◌∙◌, ap, arith, length-append}
use Rattle.calls.specs.declared.reply.Reply.{Reply}
use Rattle.calls.specs.declared.reply.Reply.TheVariants as reply
use Rattle.calls.specs.declared.step.Step.TheVariants as step
use Rattle.calls.specs.declared.vacuum.Piece.{Piece}
use Rattle.script.specs.Engine.{WaitingView, WaitingFollows, WaitingExact, RepliesLead}
use Rattle.script.specs.Script.{vacuum_steps, vacuum_replies, finished, Moves}

-- so many steps led here: each but the last worked, and this is the last's reply
pub record HasWorked (from state : WaitingView) (last : Reply) (count : ℕ) : Type 0 where
  pub pieces : List Piece
  pub leads : RepliesLead from (vacuum_steps pieces) (vacuum_replies pieces last) state
  pub count_is : count ≡ length pieces + 1

pub HasWorked-first : (from state : WaitingView) (reply : Reply) → WaitingFollows from step.VacuumStep reply state → WaitingExact from step.VacuumStep reply state → HasWorked from state reply 1
HasWorked-first from state reply follows exact = record { pieces = []; leads = (state, follows, exact, refl); count_is = refl }

Leads-push : (from : WaitingView) (pieces : List Piece) (mid : WaitingView) (piece : Piece) (answer : Reply) (new : WaitingView) → RepliesLead from (vacuum_steps pieces) (vacuum_replies pieces (reply.Worked piece)) mid
    → WaitingFollows mid step.VacuumStep answer new → WaitingExact mid step.VacuumStep answer new → RepliesLead from (vacuum_steps (pieces ++ piece ∷ [])) (vacuum_replies (pieces ++ piece ∷ []) answer) new
Leads-push from [] mid piece reply new led follows exact = (
  led.0,
  led.1,
  led.2,
  (
    new,
    subst (λ (st : WaitingView). WaitingFollows st step.VacuumStep reply new) (sym led.3) follows,
    subst (λ (st : WaitingView). WaitingExact st step.VacuumStep reply new) (sym led.3) exact,
    refl,
  ),
)
Leads-push from (p ∷ pieces) mid piece reply new led follows exact =
    (led.0, led.1, led.2, Leads-push led.0 pieces mid piece reply new led.3 follows exact)

pub HasWorked-more : (from mid state : WaitingView) (piece : Piece) (last answer : Reply) (count : ℕ) → HasWorked from mid last count → last ≡ reply.Worked piece
    → WaitingFollows mid step.VacuumStep answer state → WaitingExact mid step.VacuumStep answer state → HasWorked from state answer (count + 1)
HasWorked-more from mid state piece last reply count h is follows exact =
    let led = subst (λ (r : Reply). RepliesLead from (vacuum_steps h.pieces) (vacuum_replies h.pieces r) mid) is h.leads in
    record {
      pieces = h.pieces ++ piece ∷ [];
      leads = Leads-push from h.pieces mid piece reply state led follows exact;
      count_is = ap (λ k. k + 1) h.count_is ∙ ap (λ k. k + 1) (sym (length-append h.pieces (piece ∷ [])));
    }

-- it ends: the last did no work, or no step is left
pub finished_by : (from state : WaitingView) (last : Reply) (count : ℕ) → HasWorked from state last count → count < 18446744073709551616 → ((piece : Piece) → last ≡ reply.Worked piece → count ≡ 18446744073709551615)
    → (pieces : List Piece) × Moves from (finished pieces last) state
finished_by from state last count h within ends =
    (h.pieces, (h.leads, (omega (arith, h.count_is), λ piece is. sym h.count_is ∙ ends piece is)))
