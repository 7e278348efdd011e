-- What a plan does is written to places one after another.
use Rattle.std.proofs.Common.{◌≡◌, ◌∙◌, ℕ, zero, suc, ◌+◌, ◌<◌, ◌≤◌, List, [], ◌∷◌, length, take, slice_set, slice_index_or, refl, ap, arith}
use Rattle.prune_actions.specs.declared.Action.{Action}
use Rattle.c_views.specs.declared.plan.SandpiperAction.{SandpiperAction}
use Rattle.c_views.specs.Actions.{shown_action, with_actions}

set-next : (actions : List (ℕ × Action)) (places : List SandpiperAction) (n : ℕ) (d : ℕ × Action) → n < length actions → length actions ≤ length places
    → slice_set (with_actions (take n actions) places) n (shown_action (slice_index_or actions n d)) ≡ with_actions (take (suc n) actions) places
set-next [] places n d within enough = absurd (omega (arith, within))
set-next (x ∷ xs) [] n d within enough = absurd (omega (arith, enough))
set-next (x ∷ xs) (p ∷ ps) zero d within enough = refl
set-next (x ∷ xs) (p ∷ ps) (suc n) d within enough = ap (λ rest. shown_action x ∷ rest) (set-next xs ps n d (omega (arith, within)) (omega (arith, enough)))

-- one action more
pub actions-next : (actions : List (ℕ × Action)) (places now : List SandpiperAction) (n : ℕ) (d : ℕ × Action) (new : SandpiperAction) → n < length actions
    → length actions ≤ length places → now ≡ with_actions (take n actions) places → new ≡ shown_action (slice_index_or actions n d)
    → slice_set now n new ≡ with_actions (take (n + 1) actions) places
actions-next actions places now n d new within enough is wrote =
    let next : suc n ≡ n + 1 = omega arith in
    ap (λ ps. slice_set ps n new) is
    ∙ (ap (λ it. slice_set (with_actions (take n actions) places) n it) wrote
    ∙ (set-next actions places n d within enough ∙ ap (λ m. with_actions (take m actions) places) next))
