-- The horizon, which each session's first id is asked for alone, is the earliest of all that open sessions have.
use Rattle.std.proofs.Common.{◌≡◌, ℕ, suc, ◌<◌, ◌≤◌, List, [], ◌∷◌, ◌++◌, length, Option, Some, None, refl, subst, ◌⊎◌, inl, inr, arith}
use Rattle.std.specs.Prelude.{Contains}
use Rattle.std.proofs.lemmas.List.Elements.{Contains-append_left, Contains-append_right, Contains-append_cases}
use Rattle.commit_status.specs.Window.{next_id, place, top_of, turns}
use Rattle.commit_status.proofs.Places.{at-from_place, some-from_is}
use Rattle.commit_status.proofs.Ancestors.{top-before}
use Rattle.snapshot.specs.Laws.{IsEarliest}
use Rattle.snapshot.proofs.Takes.{first-in}
use Rattle.visibility.proofs.Makers.{active-to}
use Rattle.sessions.specs.declared.session.Session.{Session}
use Rattle.session_steps.specs.State.{session_at, reader_of, horizon_of}
use Rattle.sessions.specs.Session.{kept_by, kept_xmin, holds_back, held_back}
use Rattle.sessions.specs.Places.{open_at}
use Rattle.session_steps.specs.Laws.{all_held, HorizonIsEarliest}
use Rattle.session_steps.proofs.Owns.{reader-is}
use Rattle.session_steps.proofs.Horizons.{KeepsXmin, back-cases, kept-cases, xmin-held, below-xmin, first-back, held-in, horizon-least, horizon-low}

-- the xmin of the snapshot that a session keeps, and its ids
abbrev has_all : Session → List ℕ
has_all e = kept_xmin (kept_by e.isolation) ++ e.own.ids

-- what is held back is among all that sessions have
held-all : (xs : List (Option Session)) (y : ℕ) → Contains (held_back xs) y → Contains (all_held xs) y
held-all [] y among = among
held-all (None ∷ xs) y among = held-all xs y among
held-all (Some e ∷ xs) y among = elim (Contains-append_cases (holds_back e) (held_back xs) y among) [
  | inl here ↦ Contains-append_left (has_all e) (all_held xs) y (has (back-cases e y here))
  | inr there ↦ Contains-append_right (has_all e) (all_held xs) y (held-all xs y there)
]
  where
    has : KeepsXmin e y ⊎ Contains e.own.ids y → Contains (has_all e) y
    has (inl kept) = subst (λ z. Contains (has_all e) z) kept.is_xmin (Contains-append_left (kept_xmin (kept_by e.isolation)) e.own.ids kept.snap.xmin (xmin-held e kept.snap kept.kept))
    has (inr own) = Contains-append_right (kept_xmin (kept_by e.isolation)) e.own.ids y own

all-cases : (xs : List (Option Session)) (y : ℕ) → Contains (all_held xs) y → (s : ℕ) × (e : Session) × (open_at xs s ≡ Some e) × Contains (has_all e) y
all-cases [] y among = absurd (let below : among.0 < 0 = among.1 in omega arith)
all-cases (None ∷ xs) y among = let some = all-cases xs y among in (suc some.0, some.1, some.2, some.3)
all-cases (Some e ∷ xs) y among = elim (Contains-append_cases (has_all e) (all_held xs) y among) [
  | inl here ↦ (0, e, refl, here)
  | inr there ↦ (let some = all-cases xs y there in (suc some.0, some.1, some.2, some.3))
]

-- An open session's topmost id is given before its others.
pub horizon-is-earliest : HorizonIsEarliest
horizon-is-earliest st w agrees = record {
  is_one = elim least.is_one [ inl is_next ↦ inl is_next | inr among ↦ inr (held-all st.sessions (horizon_of st) among) ];
  first = least.first;
  least = λ y among. let some = all-cases st.sessions y among in each some.0 some.1 y some.2 some.3;
}
  where
    least : IsEarliest st.heap.statuses (next_id st.heap.statuses) (held_back st.sessions) (horizon_of st)
    least = horizon-least st.heap.statuses st.sessions agrees.sound.window (held-in st w agrees)

    given : (s : ℕ) (e : Session) (x : ℕ) → session_at st s ≡ Some e → Contains e.own.ids x → (i : ℕ) × (place st.heap.statuses x ≡ Some i)
    given s e x at mine = some-from_is (place st.heap.statuses x) (active-to st.heap.statuses x ((agrees.found.opened s (reader_of e) (reader-is st s e at)).2.own_active x mine)).is_given

    own : (s : ℕ) (e : Session) (x : ℕ) → session_at st s ≡ Some e → Contains e.own.ids x → turns st.heap.statuses.first (horizon_of st) ≤ turns st.heap.statuses.first x
    own s e x at mine =
        let first = (agrees.sound.sessions s e at).topmost x mine in
        let top = top_of st.heap.statuses x in
        let i = given s e x at mine in
        let j = given s e top at (first-in e.own.ids top first) in
        let low = horizon-low st.heap.statuses st.sessions s e top agrees.sound.window (held-in st w agrees) at (first-back e top first) in
        let before = top-before st.heap.statuses x i.0 j.0 agrees.sound.window i.1 j.1 in
        let turn_i = (at-from_place st.heap.statuses.first (length st.heap.statuses.entries) x i.0 i.1).turn in
        let turn_j = (at-from_place st.heap.statuses.first (length st.heap.statuses.entries) top j.0 j.1).turn in
        omega (arith, low, before, turn_i, turn_j)

    each : (s : ℕ) (e : Session) (y : ℕ) → session_at st s ≡ Some e → Contains (has_all e) y → turns st.heap.statuses.first (horizon_of st) ≤ turns st.heap.statuses.first y
    each s e y at among = elim (Contains-append_cases (kept_xmin (kept_by e.isolation)) e.own.ids y among) [
      | inl here ↦ (let k = kept-cases (kept_by e.isolation) y here in
          subst (λ z. turns st.heap.statuses.first (horizon_of st) ≤ turns st.heap.statuses.first z) k.2 (below-xmin st w agrees s e k.0 at k.1))
      | inr mine ↦ own s e y at mine
    ]
