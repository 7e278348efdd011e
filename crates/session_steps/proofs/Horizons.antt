-- The horizon: it is one of what the open sessions hold back, and no later than any; and it never goes back.
use Rattle.std.proofs.Common.{◌≡◌, ℕ, zero, suc, ◌<◌, ◌≤◌, List, [], ◌∷◌, take, Option, Some, None, slice_get, refl, sym, ap, ◌∙◌, subst, ◌⊎◌, inl, inr, arith}
use Rattle.std.specs.Prelude.{Contains}
use Rattle.std.proofs.lemmas.Option.{same_Some, none-some}
use Rattle.std.proofs.lemmas.List.Elements.{Contains-append_left, Contains-append_right, Contains-append_cases}
use Rattle.commit_status.specs.Window.{Window, IsWindow, IsUpToNext, next_id, turns}
use Rattle.commit_status.proofs.Places.{upto-next, upto-given}
use Rattle.xid_circle.proofs.Members.{Contains-first, Contains-cases, Contains-none}
use Rattle.snapshot.specs.Snap.{Snap, earliest, empty_at}
use Rattle.snapshot.specs.Laws.{IsEarliest}
use Rattle.snapshot.proofs.Earliest.{earliest-is}
use Rattle.history.specs.World.{World}
use Rattle.visibility.proofs.Makers.{active-to}
use Rattle.sound_entries.proofs.Since.{xmin-cases}
use Rattle.sessions.specs.declared.session.Session.{Session}
use Rattle.session_steps.specs.State.{State, session_at, reader_of, horizon_of}
use Rattle.sessions.specs.Session.{kept_by, kept_xmin, owns_of, holds_back, held_back}
use Rattle.sessions.specs.Places.{open_at}
use Rattle.session_steps.specs.Agrees.{Agrees}
use Rattle.session_steps.proofs.Owns.{reader-is, owns-cases, now_taken}

held-some : (xs : List (Option Session)) (s : ℕ) (e : Session) (y : ℕ) → open_at xs s ≡ Some e → Contains (holds_back e) y → Contains (held_back xs) y
held-some [] s e y at among = cc
held-some (None ∷ xs) zero e y at among = cc
held-some (None ∷ xs) (suc s) e y at among = held-some xs s e y at among
held-some (Some f ∷ xs) zero e y at among =
    Contains-append_left (holds_back f) (held_back xs) y (subst (λ (g : Session). Contains (holds_back g) y) (sym (same_Some f e at)) among)
held-some (Some f ∷ xs) (suc s) e y at among = Contains-append_right (holds_back f) (held_back xs) y (held-some xs s e y at among)

pub held-cases : (xs : List (Option Session)) (y : ℕ) → Contains (held_back xs) y → (s : ℕ) × (e : Session) × (open_at xs s ≡ Some e) × Contains (holds_back e) y
held-cases [] y among = absurd (let below : among.0 < 0 = among.1 in omega arith)
held-cases (None ∷ xs) y among = let some = held-cases xs y among in (suc some.0, some.1, some.2, some.3)
held-cases (Some f ∷ xs) y among = elim (Contains-append_cases (holds_back f) (held_back xs) y among) [
  | inl here ↦ (0, f, refl, here)
  | inr there ↦ (let some = held-cases xs y there in (suc some.0, some.1, some.2, some.3))
]

pub contains-first : (ids : List ℕ) (y : ℕ) → Contains (take 1 ids) y → Contains ids y
contains-first [] y among = among
contains-first (x ∷ xs) y among = elim (Contains-cases x y (take 0 xs) among) [
  | inl here ↦ subst (λ z. Contains (x ∷ xs) z) here (Contains-first x xs)
  | inr none ↦ absurd (let below : none.0 < 0 = none.1 in omega arith)
]

-- it keeps this snapshot, whose xmin is this id
pub record KeepsXmin (e : Session) (y : ℕ) : Type 0 where
  pub snap : Snap
  pub kept : kept_by e.isolation ≡ Some snap
  pub is_xmin : snap.xmin ≡ y

pub kept-cases : (o : Option Snap) (y : ℕ) → Contains (kept_xmin o) y → (snap : Snap) × (o ≡ Some snap) × (snap.xmin ≡ y)
kept-cases None y among = absurd (Contains-none y among)
kept-cases (Some snap) y among = elim (Contains-cases snap.xmin y [] among) [ inl here ↦ (snap, refl, here) | inr none ↦ absurd (Contains-none y none) ]

-- what a session holds back: the xmin of the snapshot that it keeps, or an id of its own
pub back-cases : (e : Session) (y : ℕ) → Contains (holds_back e) y → KeepsXmin e y ⊎ Contains e.own.ids y
back-cases e y among = elim (Contains-append_cases (kept_xmin (kept_by e.isolation)) (take 1 e.own.ids) y among) [
  | inl here ↦ (let k = kept-cases (kept_by e.isolation) y here in inl (record { snap = k.0; kept = k.1; is_xmin = k.2 }))
  | inr own ↦ inr (contains-first e.own.ids y own)
]

-- it holds back both
pub xmin-held : (e : Session) (snap : Snap) → kept_by e.isolation ≡ Some snap → Contains (kept_xmin (kept_by e.isolation)) snap.xmin
xmin-held e snap is = subst (λ o. Contains (kept_xmin o) snap.xmin) (sym is) (Contains-first snap.xmin [])

pub xmin-back : (e : Session) (snap : Snap) → kept_by e.isolation ≡ Some snap → Contains (holds_back e) snap.xmin
xmin-back e snap is = Contains-append_left (kept_xmin (kept_by e.isolation)) (take 1 e.own.ids) snap.xmin (xmin-held e snap is)

pub own-back : (e : Session) (y : ℕ) → Contains (take 1 e.own.ids) y → Contains (holds_back e) y
own-back e y first = Contains-append_right (kept_xmin (kept_by e.isolation)) (take 1 e.own.ids) y first

-- Of ids in a window.

-- what any session holds back lies in the window, or is the next id
abbrev pub IsHeldIn : Window → List (Option Session) → Type 0
IsHeldIn w xs = (s : ℕ) (e : Session) (y : ℕ) → open_at xs s ≡ Some e → Contains (holds_back e) y → IsUpToNext w y

abbrev pub horizon_in : Window → List (Option Session) → ℕ
horizon_in w xs = earliest (next_id w) (held_back xs)

pub horizon-least : (w : Window) (xs : List (Option Session)) → IsWindow w → IsHeldIn w xs → IsEarliest w (next_id w) (held_back xs) (horizon_in w xs)
horizon-least w xs is held = earliest-is w (next_id w) (held_back xs) is (upto-next w is) (λ y among. let some = held-cases xs y among in held some.0 some.1 y some.2 some.3)

pub horizon-upto : (w : Window) (xs : List (Option Session)) → IsWindow w → IsHeldIn w xs → IsUpToNext w (horizon_in w xs)
horizon-upto w xs is held = elim (horizon-least w xs is held).is_one [
  | inl is_next ↦ subst (λ z. IsUpToNext w z) (sym is_next) (upto-next w is)
  | inr among ↦ (let some = held-cases xs (horizon_in w xs) among in held some.0 some.1 (horizon_in w xs) some.2 some.3)
]

pub horizon-low : (w : Window) (xs : List (Option Session)) (s : ℕ) (e : Session) (y : ℕ) → IsWindow w → IsHeldIn w xs → open_at xs s ≡ Some e → Contains (holds_back e) y
    → turns w.first (horizon_in w xs) ≤ turns w.first y
horizon-low w xs s e y is held at among = (horizon-least w xs is held).least y (held-some xs s e y at among)

pub horizon-next : (w : Window) (xs : List (Option Session)) → IsWindow w → IsHeldIn w xs → turns w.first (horizon_in w xs) ≤ turns w.first (next_id w)
horizon-next w xs is held = (horizon-least w xs is held).first

-- whatever is no later than the next id and than all that is held back, is no later than the horizon
pub horizon-above : (w : Window) (xs : List (Option Session)) (turn : ℕ) → IsWindow w → IsHeldIn w xs → turn ≤ turns w.first (next_id w)
    → ((s : ℕ) (e : Session) (y : ℕ) → open_at xs s ≡ Some e → Contains (holds_back e) y → turn ≤ turns w.first y) → turn ≤ turns w.first (horizon_in w xs)
horizon-above w xs turn is held next each = elim (horizon-least w xs is held).is_one [
  | inl is_next ↦ subst (λ z. turn ≤ turns w.first z) (sym is_next) next
  | inr among ↦ (let some = held-cases xs (horizon_in w xs) among in each some.0 some.1 (horizon_in w xs) some.2 some.3)
]

-- Of an engine that agrees with a world.

pub held-in : (st : State) (w : World) → Agrees st w → IsHeldIn st.heap.statuses st.sessions
held-in st w agrees s e y at among = elim (back-cases e y among) [
  | inl kept ↦ subst (λ z. IsUpToNext st.heap.statuses z) kept.is_xmin ((agrees.sound.sessions s e at).snapshot kept.snap kept.kept).bounds.xmin
  | inr own ↦ upto-given st.heap.statuses y (active-to st.heap.statuses y ((agrees.found.opened s (reader_of e) (reader-is st s e at)).2.own_active y own)).is_given
]

pub upto-horizon : (st : State) (w : World) → Agrees st w → IsUpToNext st.heap.statuses (horizon_of st)
upto-horizon st w agrees = horizon-upto st.heap.statuses st.sessions agrees.sound.window (held-in st w agrees)

-- it is not after the xmin of any snapshot that is kept
pub below-xmin : (st : State) (w : World) → Agrees st w → (s : ℕ) (e : Session) (snap : Snap) → session_at st s ≡ Some e → kept_by e.isolation ≡ Some snap
    → turns st.heap.statuses.first (horizon_of st) ≤ turns st.heap.statuses.first snap.xmin
below-xmin st w agrees s e snap at kept = horizon-low st.heap.statuses st.sessions s e snap.xmin agrees.sound.window (held-in st w agrees) at (xmin-back e snap kept)

-- The snapshot that is taken now.

-- the first id of a session is held back
pub first-back : (e : Session) (top : ℕ) → slice_get e.own.ids 0 ≡ Some top → Contains (holds_back e) top
first-back e top at = own-back e top (first-of e.own.ids at)
  where
    first-of : (ids : List ℕ) → slice_get ids 0 ≡ Some top → Contains (take 1 ids) top
    first-of [] at = absurd (none-some top at)
    first-of (x ∷ xs) at = subst (λ y. Contains (x ∷ take 0 xs) y) (same_Some x top at) (Contains-first x (take 0 xs))

-- its xmin is the next id or an open session's first: it is not before the horizon
pub taken-late : (st : State) (w : World) → Agrees st w → turns st.heap.statuses.first (horizon_of st) ≤ turns st.heap.statuses.first (now_taken st).xmin
taken-late st w agrees = elim (xmin-cases (owns_of st.sessions) (empty_at (next_id st.heap.statuses))) [
  | inl is_next ↦ subst (λ y. turns st.heap.statuses.first (horizon_of st) ≤ turns st.heap.statuses.first y) (sym is_next) (horizon-next st.heap.statuses st.sessions agrees.sound.window (held-in st w agrees))
  | inr some ↦ (let by = owns-cases st.sessions some.0 some.2 in
      subst (λ y. turns st.heap.statuses.first (horizon_of st) ≤ turns st.heap.statuses.first y) (sym some.4)
      (horizon-low st.heap.statuses st.sessions by.0 by.1 some.1 agrees.sound.window (held-in st w agrees) by.2
      (first-back by.1 some.1 (ap (λ (ids : List ℕ). slice_get ids 0) by.3 ∙ some.3))))
]
