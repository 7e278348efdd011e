-- What becomes of a root and of the first version of its chain, in order of slots.
use Rattle.std.proofs.Common.{◌≡◌, ◌≢◌, ℕ, ◌<◌, ◌≤◌, ◌==◌, nat_lt, if◌then◌else◌, List, [], ◌∷◌, Some, None, arith, ⊎_elim, sym, ◌∙◌, refl, subst}
use Rattle.std.proofs.lemmas.Bool.{cases_lt, lt-ltb, le-ltb, eq-eqb, ne_eqb, cond-true, cond-false}
use Rattle.prune_actions.specs.declared.Action.{Action}
use Rattle.prune_actions.specs.declared.Action.TheVariants as action
use Rattle.prune.specs.Actions.{HasTarget, CanDo, CanApply, AreInOrder, action_of}
use Rattle.prune.specs.OneDoubt.{first_cut}

-- the actions name a root and the slot where its chain begins, and no other
pub record NamesBoth (count root start : ℕ) (a : Action) (acts : List (ℕ × Action)) : Type 0 where
  pub in_order : AreInOrder count 0 acts
  pub can : CanApply count acts
  pub at_root : action_of acts root ≡ Some a
  pub at_start : start ≢ root → action_of acts start ≡ Some action.Unuse
  pub elsewhere : (m : ℕ) → m ≢ root → m ≢ start → action_of acts m ≡ None

named-here : (n : ℕ) (a : Action) (rest : List (ℕ × Action)) → action_of ((n, a) ∷ rest) n ≡ Some a
named-here n a rest = cond-true (n == n) (Some a) (action_of rest n) (eq-eqb n n refl)

named-later : (n m : ℕ) (a : Action) (rest : List (ℕ × Action)) → m ≢ n → action_of ((n, a) ∷ rest) m ≡ action_of rest m
named-later n m a rest other = cond-false (n == m) (Some a) (action_of rest m) (ne_eqb n m (λ e. other (sym e)))

module _ (count root start : ℕ) (a : Action) (root_there : (1 ≤ root) × (root ≤ count)) (start_there : (1 ≤ start) × (start ≤ count)) (target : HasTarget count a) where
  root_can : CanDo count root a
  root_can = record { there = root_there.0; within = root_there.1; target = target }

  start_can : CanDo count start action.Unuse
  start_can = record { there = start_there.0; within = start_there.1; target = tt }

  root-before : root < start → NamesBoth count root start a ((root, a) ∷ (start, action.Unuse) ∷ [])
  root-before lt = record {
    in_order = ((let from = root_there.0 in omega arith), root_there.1, (lt, start_there.1, tt));
    can = (root_can, (start_can, tt));
    at_root = named-here root a ((start, action.Unuse) ∷ []);
    at_start = λ other. named-later root start a ((start, action.Unuse) ∷ []) other ∙ named-here start action.Unuse [];
    elsewhere = λ m off other. named-later root m a ((start, action.Unuse) ∷ []) off ∙ named-later start m action.Unuse [] other;
  }

  start-before : start < root → NamesBoth count root start a ((start, action.Unuse) ∷ (root, a) ∷ [])
  start-before lt = record {
    in_order = ((let from = start_there.0 in omega arith), start_there.1, (lt, root_there.1, tt));
    can = (start_can, (root_can, tt));
    at_root = named-later start root action.Unuse ((root, a) ∷ []) (λ e. omega (arith, lt, e)) ∙ named-here root a [];
    at_start = λ other. named-here start action.Unuse ((root, a) ∷ []);
    elsewhere = λ m off other. named-later start m action.Unuse ((root, a) ∷ []) other ∙ named-later root m a [] off;
  }

  root-itself : start ≡ root → NamesBoth count root start a ((root, a) ∷ [])
  root-itself same = record {
    in_order = ((let from = root_there.0 in omega arith), root_there.1, tt);
    can = (root_can, tt);
    at_root = named-here root a [];
    at_start = λ other. absurd (other same);
    elsewhere = λ m off other. named-later root m a [] off;
  }

  pub names-both : NamesBoth count root start a (first_cut root start a)
  names-both = ⊎_elim
      (λ lt. subst (NamesBoth count root start a) (sym (cond-true (nat_lt root start) before not_before (lt-ltb root start lt))) (root-before lt))
      (λ ge. subst (NamesBoth count root start a) (sym (cond-false (nat_lt root start) before not_before (le-ltb root start ge))) (⊎_elim
      (λ lt. subst (NamesBoth count root start a) (sym (cond-true (nat_lt start root) after itself (lt-ltb start root lt))) (start-before lt))
      (λ le. subst (NamesBoth count root start a) (sym (cond-false (nat_lt start root) after itself (le-ltb start root le))) (root-itself (omega (arith, ge, le))))
      (cases_lt start root)))
      (cases_lt root start)
    where
      before : List (ℕ × Action)
      before = (root, a) ∷ (start, action.Unuse) ∷ []

      after : List (ℕ × Action)
      after = (start, action.Unuse) ∷ (root, a) ∷ []

      itself : List (ℕ × Action)
      itself = (root, a) ∷ []

      not_before : List (ℕ × Action)
      not_before = if nat_lt start root then after else itself
