-- A run of the engine goes on by one step.
use Rattle.std.proofs.Common.{ℕ, ◌<◌, ◌≤◌, ◌+◌, List, [], ◌∷◌, ◌++◌, take, drop, get_or, length, refl, sym, subst, ap, ◌∙◌, ◌≡◌, arith, add-one, drop-cons, zero, suc, false, true}
use Rattle.std.proofs.lemmas.List.{take_more, take_all, take-append-drop}
use Rattle.calls.specs.declared.settings.Settings.{Settings}
use Rattle.calls.specs.declared.step.Step.{Step}
use Rattle.calls.specs.declared.reply.Reply.{Reply}
use Rattle.history.specs.World.{World, beginning}
use Rattle.refinement.specs.Allowed.{IsRun, after_reply, after}
use Rattle.session_core.specs.State.{WaitingView, WaitingAgrees}
use Rattle.session_core.specs.Clauses.{WaitingFollows, WaitingExact, IsNewWaiting}
use Rattle.session_core.specs.Runs.{RepliesLead, Ran}

-- a list before, at and behind a place
pub split_at : (steps : List Step) (i : ℕ) (x : Step) → i < length steps → x ≡ get_or steps i x → steps ≡ take i steps ++ x ∷ drop (i + 1) steps
split_at steps i x within is =
    let here : drop i steps ≡ get_or steps i x ∷ drop (i + 1) steps = rw (add-one, drop-cons steps i x) refl in
    sym (take-append-drop i steps) ∙ ap (λ r. take i steps ++ r) here ∙ ap (λ y. take i steps ++ y ∷ drop (i + 1) steps) (sym is)

pub positive : (n : ℕ) → (n ≡ 0 → false ≡ true) → 0 < n
positive zero some = absurd (let e = some refl in cc)
positive (suc n) some = omega arith

Leads-push : (old : WaitingView) (steps : List Step) (replies : List Reply) (mid : WaitingView) (step : Step) (reply : Reply) (new : WaitingView) → RepliesLead old steps replies mid
    → WaitingFollows mid step reply new → WaitingExact mid step reply new → RepliesLead old (steps ++ step ∷ []) (replies ++ reply ∷ []) new
Leads-push old [] [] mid step reply new led follows exact =
    (new, subst (λ (st : WaitingView). WaitingFollows st step reply new) (sym led) follows, subst (λ (st : WaitingView). WaitingExact st step reply new) (sym led) exact, refl)
Leads-push old [] (r ∷ rs) mid step reply new led follows exact = absurd led
Leads-push old (s ∷ ss) [] mid step reply new led follows exact = absurd led
Leads-push old (s ∷ ss) (r ∷ rs) mid step reply new led follows exact =
    (led.0, led.1, led.2, Leads-push led.0 ss rs mid step reply new led.3 follows exact)

pub Leads-more : (old : WaitingView) (steps : List Step) (replies : List Reply) (st st' : WaitingView) (i : ℕ) (d : Step) (reply : Reply) → i < length steps
    → RepliesLead old (take i steps) replies st → WaitingFollows st (get_or steps i d) reply st' → WaitingExact st (get_or steps i d) reply st'
    → RepliesLead old (take (i + 1) steps) (replies ++ reply ∷ []) st'
Leads-more old steps replies st st' i d reply within led follows exact =
    rw (take_more steps i d within) (Leads-push old (take i steps) replies st (get_or steps i d) reply st' led follows exact)

-- after the last step
pub Leads-all : (old : WaitingView) (steps : List Step) (replies : List Reply) (st : WaitingView) (i : ℕ) → length steps ≤ i → RepliesLead old (take i steps) replies st → RepliesLead old steps replies st
Leads-all old steps replies st i all led = subst (λ (ss : List Step). RepliesLead old ss replies st) (take_all i steps all) led

-- the history allows what was replied, and the engine agrees with the world after it
pub Leads-run : (w : World) (old : WaitingView) (steps : List Step) (replies : List Reply) (new : WaitingView) → WaitingAgrees old w → RepliesLead old steps replies new
    → IsRun w steps replies × WaitingAgrees new (after w steps replies)
Leads-run w old [] [] new agrees led = (tt, subst (λ (st : WaitingView). WaitingAgrees st w) led agrees)
Leads-run w old [] (r ∷ rs) new agrees led = absurd led
Leads-run w old (s ∷ ss) [] new agrees led = absurd led
Leads-run w old (s ∷ ss) (r ∷ rs) new agrees led =
    let now = led.1 w agrees in
    let more = Leads-run (after_reply w s r) led.0 ss rs new now.1 led.3 in
    ((now.0, more.0), more.1)

pub Leads-ran : (settings : Settings) (old : WaitingView) (steps : List Step) (replies : List Reply) (new : WaitingView) → IsNewWaiting settings old → RepliesLead old steps replies new → Ran settings steps replies
Leads-ran settings old steps replies new is led =
    record { first = old; new = is; last = new; leads = led; agrees = (Leads-run (beginning settings.indexed) old steps replies new is.agrees led).1 }
