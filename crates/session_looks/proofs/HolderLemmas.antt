-- Who holds the horizon back; where nobody does, it is the next id. And who has an id.
use Rattle.std.proofs.Common.{◌≡◌, ◌⊎◌, ℕ, ◌+◌, ◌<◌, ◌≤◌, List, [], ◌∷◌, take, length, Some, None, arith, inl, inr, ⊎_elim, refl, sym, ◌∙◌, subst, slice_get}
use Rattle.std.specs.Prelude.{Contains, ◌↔◌}
use Rattle.std.proofs.lemmas.Bool.{cases_lt}
use Rattle.std.proofs.lemmas.Option.{none-some}
use Rattle.xid_circle.proofs.Members.{Contains-first, Contains-rest, Contains-none}
use Rattle.commit_status.specs.Window.{next_id}
use Rattle.snapshot.specs.Snap.{earlier, earliest}
use Rattle.snapshot.proofs.Earliest.{earlier-cases}
use Rattle.sessions.specs.declared.session.Session.{Session}
use Rattle.session_steps.specs.State.{State, session_at, horizon_of}
use Rattle.sessions.specs.Session.{held_back}
use Rattle.session_steps.proofs.Horizons.{held-cases}
use Rattle.session_steps.proofs.OwnIdsLemmas.{open-within}
use Rattle.session_looks.specs.Holders.{IsNoHolder, HasId}

-- the earliest of ids is one of them
earliest-one : (x : ℕ) (others : List ℕ) → (earliest x others ≡ x) ⊎ Contains others (earliest x others)
earliest-one x [] = inl refl
earliest-one x (y ∷ ys) = elim (earliest-one (earlier x y) ys) [
  | inr rest ↦ inr (Contains-rest y (earliest (earlier x y) ys) ys rest)
  | inl is ↦ elim (earlier-cases x y) [
    | inl second ↦ inr (subst (Contains (y ∷ ys)) (sym (is ∙ second.1)) (Contains-first y ys))
    | inr first ↦ inl (is ∙ first.1)
  ]
]

pub none-holds : (st : State) → ((s : ℕ) → IsNoHolder st s) → horizon_of st ≡ next_id st.heap.statuses
none-holds st none = elim (earliest-one (next_id st.heap.statuses) (held_back st.sessions)) [
  | inl is ↦ is
  | inr among ↦ (let some = held-cases st.sessions (horizon_of st) among in absurd (none some.0 some.1 some.2 some.3))
]

pub none-anywhere : (st : State) → length st.sessions ≡ 64 → ((s : ℕ) → s < 64 → IsNoHolder st s) → (s : ℕ) → IsNoHolder st s
none-anywhere st count below s e at holds = below s (let within = open-within st.sessions s e at in omega (arith, within, count)) e at holds

-- what a session holds back, by its parts

pub first-none : (ids : List ℕ) (x : ℕ) → slice_get ids 0 ≡ None → ¬ Contains (take 1 ids) x
first-none [] x is c = Contains-none x c
first-none (y ∷ ys) x is c = none-some y (sym is)

-- Who has an id.

pub none-has : (st : State) (x : ℕ) → length st.sessions ≡ 64 → ((s : ℕ) → s < 64 → ¬ HasId st x s) → (s : ℕ) → ¬ HasId st x s
none-has st x count below s has = below s (let within = open-within st.sessions s has.0 has.1 in omega (arith, within, count)) has

pub some-has : (st : State) (x : ℕ) → ((s : ℕ) → ¬ HasId st x s) → ¬ ((s : ℕ) × (e : Session) × (session_at st s ≡ Some e) × Contains e.own.ids x)
some-has st x none owned = none owned.0 (owned.1, owned.2, owned.3)

pub has-more : (st : State) (x n : ℕ) → ((s : ℕ) → s < n → ¬ HasId st x s) → ¬ HasId st x n → (s : ℕ) → s < n + 1 → ¬ HasId st x s
has-more st x n below here s lt = ⊎_elim
    (λ before. below s before)
    (λ from. let same : n ≡ s = omega arith in subst (λ k. ¬ HasId st x k) same here)
    (cases_lt s n)
