-- What giving ids one after another does: those that were there are as they were, and each new one is in progress, and has the
-- topmost parent of the first.
use Rattle.std.proofs.Common.{◌≡◌, ◌≢◌, ℕ, zero, suc, ◌^◌, ◌<◌, ◌≤◌, List, [], ◌∷◌, ◌++◌, length, Option, Some, None, refl, sym, ap, ◌∙◌, subst, ◌⊎◌, inl, inr, arith}
use Rattle.std.specs.Prelude.{Contains}
use Rattle.std.proofs.lemmas.Option.{none-some}
use Rattle.xid_circle.specs.Circle.{IsNormal, given}
use Rattle.xid_circle.proofs.Members.{Contains-cases, Contains-first, Contains-none, Contains-rest}
use Rattle.commit_status.specs.Window.{IdEntry, Window, IsWindow, IsGiven, IsGivenBefore, IsActive, IsUpToNext, turns, place, parent_at, parent_in, parent_of, status_of, top_of, next_id}
use Rattle.commit_status.specs.Changes.{Gives}
use Rattle.commit_status.proofs.Turns.{turns-given}
use Rattle.commit_status.proofs.Places.{at-from_place, place-from_at, next-none, none-unless, is-from_some, some-from_is}
use Rattle.commit_status.proofs.Ancestors.{top-none, top-parent}
use Rattle.commit_status.proofs.Giving.{gives-length, gives-place_cases, gives-place_old, gives-status, gives-top_old, gives-entry_next, gives-active_next, gives-upto}
use Rattle.snapshot.specs.Own.{AreDistinct}
use Rattle.write_ids.specs.Ids.{GivesUnder}

-- One id.

-- what was a parent is one still
still : (xs : List IdEntry) (y : IdEntry) (i p : ℕ) → parent_at xs i ≡ Some p → parent_at (xs ++ y ∷ []) i ≡ Some p
still [] y i p at = absurd (none-some p at)
still (x ∷ xs) y zero p at = at
still (x ∷ xs) y (suc i) p at = still xs y i p at

-- before it was a window too
before-window : (w v : Window) (parent : Option ℕ) → Gives w v parent → IsWindow v → IsWindow w
before-window w v parent g is = record {
  normal = subst IsNormal g.first is.normal;
  fits = subst (λ f. f < 2 ^ 32) g.first is.fits;
  limit = subst (λ l. l ≤ 2144483648) g.stop_age is.limit;
  short = let long = gives-length w v parent g in let short = is.short in let same = g.stop_age in omega arith;
  parents = λ i p at. subst (λ f. IsGivenBefore p (given f i)) g.first (is.parents i p (subst (λ es. parent_at es i ≡ Some p) (sym g.entries) (still w.entries _ i p at)));
}

gives-parent_next : (w v : Window) (parent : Option ℕ) → IsWindow v → Gives w v parent → parent_of v (next_id w) ≡ parent
gives-parent_next w v parent is g = ap parent_in (gives-entry_next w v parent is g)

-- the new id has its parent's top, or is its own
gives-top_next : (w v : Window) (p : ℕ) → IsWindow w → IsWindow v → Gives w v (Some p) → IsGiven w p → top_of v (next_id w) ≡ top_of w p
gives-top_next w v p before after g there =
    let found = some-from_is (place w p) there in
    top-parent v (next_id w) p after (gives-parent_next w v (Some p) after g)
    ∙ gives-top_old w v (Some p) p before after g (λ e. let n : None ≡ Some found.0 = sym (next-none w before) ∙ ap (place w) (sym e) ∙ found.1 in cc)

gives-top_alone : (w v : Window) → IsWindow v → Gives w v None → top_of v (next_id w) ≡ next_id w
gives-top_alone w v after g = top-none v (next_id w) (gives-parent_next w v None after g)

pub not-next : (w : Window) (x : ℕ) → IsWindow w → IsGiven w x → x ≢ next_id w
not-next w x is there same = let at = some-from_is (place w x) there in none-some at.0 (sym (next-none w is) ∙ (ap (place w) (sym same) ∙ at.1))

-- Any number.

pub given-window : (xs : List ℕ) (w v : Window) (parent : Option ℕ) → GivesUnder w parent xs v → IsWindow v → IsWindow w
given-window [] w v parent g is = subst IsWindow g is
given-window (x ∷ xs) w v parent g is = before-window w g.0 parent g.2 (given-window xs g.0 v (Some x) g.3 is)

pub given-first : (xs : List ℕ) (w v : Window) (parent : Option ℕ) → GivesUnder w parent xs v → v.first ≡ w.first
given-first [] w v parent g = ap (λ (w : Window). w.first) g
given-first (x ∷ xs) w v parent g = given-first xs g.0 v (Some x) g.3 ∙ g.2.first

pub given-longer : (xs : List ℕ) (w v : Window) (parent : Option ℕ) → GivesUnder w parent xs v → length w.entries ≤ length v.entries
given-longer [] w v parent g = subst (λ n. n ≤ length v.entries) (ap (λ (w : Window). length w.entries) g) (omega arith)
given-longer (x ∷ xs) w v parent g = let long = gives-length w g.0 parent g.2 in let rest = given-longer xs g.0 v (Some x) g.3 in omega arith

pub next-turn : (w : Window) → IsWindow w → turns w.first (next_id w) ≡ length w.entries
next-turn w is = turns-given w.first (length w.entries) is.normal is.fits (let short = is.short in let limit = is.limit in omega arith)

-- what was there

pub given-upto : (xs : List ℕ) (w v : Window) (parent : Option ℕ) (y : ℕ) → GivesUnder w parent xs v → IsUpToNext w y → IsUpToNext v y
given-upto [] w v parent y g upto = subst (λ w. IsUpToNext w y) (sym g) upto
given-upto (x ∷ xs) w v parent y g upto = given-upto xs g.0 v (Some x) y g.3 (gives-upto w g.0 parent y g.2 upto)

pub given-place : (xs : List ℕ) (w v : Window) (parent : Option ℕ) (y i : ℕ) → GivesUnder w parent xs v → place w y ≡ Some i → place v y ≡ Some i
given-place [] w v parent y i g at = ap (λ w. place w y) g ∙ at
given-place (x ∷ xs) w v parent y i g at = given-place xs g.0 v (Some x) y i g.3 (gives-place_old w g.0 parent y i g.2 at)

-- what stands before the new ones was there
pub given-earlier : (xs : List ℕ) (w v : Window) (parent : Option ℕ) (y j : ℕ) → GivesUnder w parent xs v → place v y ≡ Some j → j < length w.entries → place w y ≡ Some j
given-earlier xs w v parent y j g at within =
    let a = at-from_place v.first (length v.entries) y j at in
    place-from_at w.first (length w.entries) y j (record { normal = a.normal; fits = a.fits; turn = subst (λ f. turns f y ≡ j) (given-first xs w v parent g) a.turn; within = within })

pub given-old : (xs : List ℕ) (w v : Window) (parent : Option ℕ) (y : ℕ) → GivesUnder w parent xs v → IsGiven w y → IsGiven v y
given-old xs w v parent y g there = let at = some-from_is (place w y) there in is-from_some (place v y) at.0 (given-place xs w v parent y at.0 g at.1)

pub given-status : (xs : List ℕ) (w v : Window) (parent : Option ℕ) (y : ℕ) → GivesUnder w parent xs v → IsWindow v → status_of v y ≡ status_of w y
given-status [] w v parent y g is = ap (λ w. status_of w y) g
given-status (x ∷ xs) w v parent y g is =
    let between = given-window xs g.0 v (Some x) g.3 is in
    given-status xs g.0 v (Some x) y g.3 is ∙ gives-status w g.0 parent y (before-window w g.0 parent g.2 between) between g.2

pub given-active_old : (xs : List ℕ) (w v : Window) (parent : Option ℕ) (y : ℕ) → GivesUnder w parent xs v → IsWindow v → IsActive w y → IsActive v y
given-active_old xs w v parent y g is active = record { is_given = given-old xs w v parent y g active.is_given; unfinished = given-status xs w v parent y g is ∙ active.unfinished }

pub given-top_old : (xs : List ℕ) (w v : Window) (parent : Option ℕ) (y : ℕ) → GivesUnder w parent xs v → IsWindow v → IsGiven w y → top_of v y ≡ top_of w y
given-top_old [] w v parent y g is there = ap (λ w. top_of w y) g
given-top_old (x ∷ xs) w v parent y g is there =
    let between = given-window xs g.0 v (Some x) g.3 is in
    let before = before-window w g.0 parent g.2 between in
    given-top_old xs g.0 v (Some x) y g.3 is (given-old (x ∷ []) w g.0 parent y (g.0, g.1, g.2, refl) there) ∙ gives-top_old w g.0 parent y before between g.2 (not-next w y before there)

-- what is new

given-now : (w v : Window) (parent : Option ℕ) (x : ℕ) → x ≡ next_id w → Gives w v parent → IsWindow v → IsActive v x
given-now w v parent x same g is = subst (λ x. IsActive v x) (sym same) (gives-active_next w v parent is g)

pub given-active : (xs : List ℕ) (w v : Window) (parent : Option ℕ) (y : ℕ) → GivesUnder w parent xs v → IsWindow v → Contains xs y → IsActive v y
given-active [] w v parent y g is among = absurd (Contains-none y among)
given-active (x ∷ xs) w v parent y g is among = elim (Contains-cases x y xs among) [
  | inl here ↦ subst (λ y. IsActive v y) here (given-active_old xs g.0 v (Some x) x g.3 is (given-now w g.0 parent x g.1 g.2 (given-window xs g.0 v (Some x) g.3 is)))
  | inr later ↦ given-active xs g.0 v (Some x) y g.3 is later
]

-- it was in no place before
pub given-fresh : (xs : List ℕ) (w v : Window) (parent : Option ℕ) (y : ℕ) → GivesUnder w parent xs v → IsWindow v → Contains xs y → place w y ≡ None
given-fresh [] w v parent y g is among = absurd (Contains-none y among)
given-fresh (x ∷ xs) w v parent y g is among =
    let between = given-window xs g.0 v (Some x) g.3 is in
    elim (Contains-cases x y xs among) [
      | inl here ↦ ap (place w) (sym here ∙ g.1) ∙ next-none w (before-window w g.0 parent g.2 between)
      | inr later ↦ none-unless (place w y) (λ i at. none-some i (sym (given-fresh xs g.0 v (Some x) y g.3 is later) ∙ gives-place_old w g.0 parent y i g.2 at))
    ]

pub given-new : (xs : List ℕ) (w v : Window) (parent : Option ℕ) (y : ℕ) → GivesUnder w parent xs v → IsWindow v → Contains xs y → ¬ IsGiven w y
given-new xs w v parent y g is among there = let at = some-from_is (place w y) there in none-some at.0 (sym (given-fresh xs w v parent y g is among) ∙ at.1)

pub given-distinct : (xs : List ℕ) (w v : Window) (parent : Option ℕ) → GivesUnder w parent xs v → IsWindow v → AreDistinct xs
given-distinct [] w v parent g is = tt
given-distinct (x ∷ xs) w v parent g is = (
  λ among. given-new xs g.0 v (Some x) x g.3 is among (given-now w g.0 parent x g.1 g.2 (given-window xs g.0 v (Some x) g.3 is)).is_given,
  given-distinct xs g.0 v (Some x) g.3 is,
)

-- the topmost parent of each is that of the id under which the first is given
pub given-top : (xs : List ℕ) (w v : Window) (p y : ℕ) → GivesUnder w (Some p) xs v → IsWindow v → IsGiven w p → Contains xs y → top_of v y ≡ top_of w p
given-top [] w v p y g is there among = absurd (Contains-none y among)
given-top (x ∷ xs) w v p y g is there among =
    let between = given-window xs g.0 v (Some x) g.3 is in
    let now = (given-now w g.0 (Some p) x g.1 g.2 between).is_given in
    let top : top_of g.0 x ≡ top_of w p = ap (top_of g.0) g.1 ∙ gives-top_next w g.0 p (before-window w g.0 (Some p) g.2 between) between g.2 there in
    elim (Contains-cases x y xs among) [
      | inl here ↦ ap (top_of v) (sym here) ∙ (given-top_old xs g.0 v (Some x) x g.3 is now ∙ top)
      | inr later ↦ given-top xs g.0 v x y g.3 is now later ∙ top
    ]

-- or the first itself
pub given-top_first : (x : ℕ) (xs : List ℕ) (w v : Window) (y : ℕ) → GivesUnder w None (x ∷ xs) v → IsWindow v → Contains (x ∷ xs) y → top_of v y ≡ x
given-top_first x xs w v y g is among =
    let between = given-window xs g.0 v (Some x) g.3 is in
    let now = (given-now w g.0 None x g.1 g.2 between).is_given in
    let top : top_of g.0 x ≡ x = ap (top_of g.0) g.1 ∙ (gives-top_alone w g.0 between g.2 ∙ sym g.1) in
    elim (Contains-cases x y xs among) [
      | inl here ↦ ap (top_of v) (sym here) ∙ (given-top_old xs g.0 v (Some x) x g.3 is now ∙ top)
      | inr later ↦ given-top xs g.0 v x y g.3 is now later ∙ top
    ]

-- what is in progress afterwards is new, or was in progress before
pub given-active_cases : (xs : List ℕ) (w v : Window) (parent : Option ℕ) (y : ℕ) → GivesUnder w parent xs v → IsWindow v → IsActive v y → Contains xs y ⊎ IsActive w y
given-active_cases [] w v parent y g is active = inr (subst (λ w. IsActive w y) g active)
given-active_cases (x ∷ xs) w v parent y g is active = elim (given-active_cases xs g.0 v (Some x) y g.3 is active) [
  | inl later ↦ inl (Contains-rest x y xs later)
  | inr between ↦
      let is_between = given-window xs g.0 v (Some x) g.3 is in
      let at = some-from_is (place g.0 y) between.is_given in
      elim (gives-place_cases w g.0 parent y at.0 is_between g.2 at.1) [
        | inl old ↦ inr (record {
          is_given = is-from_some (place w y) at.0 old;
          unfinished = sym (gives-status w g.0 parent y (before-window w g.0 parent g.2 is_between) is_between g.2) ∙ between.unfinished;
        })
        | inr next ↦ inl (subst (λ z. Contains (x ∷ xs) z) (g.1 ∙ sym next.0) (Contains-first x xs))
      ]
]
