-- What the steps of the table of ids change of what readers see.
use Rattle.std.proofs.Common.{◌≡◌, ◌≢◌, ℕ, ◌<◌, ◌≤◌, List, [], ◌∷◌, Option, Some, refl, sym, ap, ◌∙◌, subst, ◌⊎◌, inl, inr, arith}
use Rattle.std.specs.Prelude.{Contains}
use Rattle.std.specs.Option.{option_map}
use Rattle.xid_circle.specs.Circle.{Precedes}
use Rattle.xid_circle.proofs.Members.{Contains-cases, Contains-none}
use Rattle.commit_status.specs.declared.status.Status.{Status}
use Rattle.commit_status.specs.Window.{Window, IsWindow, IsGiven, IsUpToNext, place, status_of, next_id, turns}
use Rattle.commit_status.specs.Window as window
use Rattle.commit_status.specs.Changes as change
use Rattle.commit_status.proofs.Places.{next-none, upto-next, precedes-turns}
use Rattle.commit_status.proofs.Giving.{gives-place_old, gives-place_cases, gives-status, gives-active_next}
use Rattle.commit_status.proofs.Finishing.{finishes-top, finishes-given}
use Rattle.commit_status.proofs.ChangesLemmas.{finishes-place}
use Rattle.snapshot.specs.Snap.{Snap, Sees, SeesAlone, tested}
use Rattle.snapshot.specs.Laws.{IsBounded, IsBetween, IsInWindow}
use Rattle.snapshot.proofs.Sights.{sees-top}
use Rattle.snapshot.proofs.Earliest.{precedes-or-not}
use Rattle.visibility.specs.Visible.{state_of}
use Rattle.visibility.proofs.Makers.{state-some, state-is, active-from}
use Rattle.write_ids.specs.Ids.{GivesUnder}
use Rattle.write_ids.proofs.GivenIds.{given-window, given-first, given-upto, given-top_old, next-turn}
use Rattle.freeze.proofs.Links.{same-option}
use Rattle.refinement.specs.Changes.{GivesNext, GivesEach, FinishesIds, SameSight}
use Rattle.refinement.proofs.Steps.{cases_Contains}

-- an id is given

place-others : (w v : Window) (parent : Option ℕ) (x : ℕ) → IsWindow v → change.Gives w v parent → x ≢ next_id w → place v x ≡ place w x
place-others w v parent x is gives ne = same-option (place w x) (place v x)
    (λ i at. gives-place_old w v parent x i gives at)
    (λ i at. elim (gives-place_cases w v parent x i is gives at) [ inl old ↦ old | inr now ↦ absurd (ne now.0) ])

Gives-from : (w v : Window) (parent : Option ℕ) → IsWindow w → IsWindow v → change.Gives w v parent → GivesNext (state_of w) (state_of v) (next_id w)
Gives-from w v parent is is' gives = record {
  fresh = ap (λ o. option_map (λ _. status_of w (next_id w)) o) (next-none w is);
  active = active-from v (next_id w) (gives-active_next w v parent is' gives);
  others = λ y ne. ap (λ s. option_map (λ _. s) (place v y)) (gives-status w v parent y is is' gives) ∙ ap (λ o. option_map (λ _. status_of w y) o) (place-others w v parent y is' gives ne);
}

-- ids are given, one after another
pub GivesEach-from : (xs : List ℕ) (w v : Window) (parent : Option ℕ) → GivesUnder w parent xs v → IsWindow v → GivesEach (state_of w) xs (state_of v)
GivesEach-from [] w v parent gives is = ap state_of gives
GivesEach-from (x ∷ xs) w v parent gives is =
    let between = given-window xs gives.0 v (Some x) gives.3 is in (
      state_of gives.0,
      subst (λ y. GivesNext (state_of w) (state_of gives.0) y) (sym gives.1) (Gives-from w gives.0 parent (given-window (x ∷ xs) w v parent gives is) between gives.2),
      GivesEach-from xs gives.0 v (Some x) gives.3 is,
    )

-- nothing that is up to the next id is after it

not-before : (w : Window) (y : ℕ) → IsWindow w → IsUpToNext w y → ¬ Precedes (next_id w) y
not-before w y is upto before =
    let lt = (precedes-turns w (next_id w) y is (upto-next w is) upto).0 before in
    let le = upto.reached in absurd (omega (arith, next-turn w is))

unseen-next : (s : Snap) (w v : Window) → IsWindow w → IsBounded w s → ¬ Sees s v (next_id w)
unseen-next s w v is within (Sees.early before) = not-before w s.xmin is within.xmin before
unseen-next s w v is within (Sees.between before alone) = not-before w s.xmax is within.xmax before

bounded-given : (xs : List ℕ) (w v : Window) (parent : Option ℕ) (s : Snap) → GivesUnder w parent xs v → IsBounded w s → IsBounded v s
bounded-given xs w v parent s gives h = record {
  xmin = given-upto xs w v parent s.xmin gives h.xmin;
  xmax = given-upto xs w v parent s.xmax gives h.xmax;
  ordered = subst (λ first. turns first s.xmin ≤ turns first s.xmax) (sym (given-first xs w v parent gives)) h.ordered;
}

between-given : (xs : List ℕ) (w v : Window) (parent : Option ℕ) (s : Snap) (x : ℕ) → GivesUnder w parent xs v → IsBetween w s x → IsBetween v s x
between-given xs w v parent s x gives h =
    let first = sym (given-first xs w v parent gives) in
    record {
      upto = given-upto xs w v parent x gives h.upto;
      from_xmin = subst (λ f. turns f s.xmin ≤ turns f x) first h.from_xmin;
      before_xmax = subst (λ f. turns f x < turns f s.xmax) first h.before_xmax;
    }

pub in-window-given : (xs : List ℕ) (w v : Window) (parent : Option ℕ) (s : Snap) → GivesUnder w parent xs v → IsInWindow w s → IsInWindow v s
in-window-given xs w v parent s gives h = record {
  bounds = bounded-given xs w v parent s gives h.bounds;
  listed = λ x among. between-given xs w v parent s x gives (h.listed x among);
}

-- no id that is given is seen by a snapshot that was taken before
pub unseen-given : (xs : List ℕ) (w v u : Window) (parent : Option ℕ) (s : Snap) (x : ℕ) → GivesUnder w parent xs v → IsWindow v → IsBounded w s → Contains xs x → ¬ Sees s u x
unseen-given [] w v u parent s x gives is within among = absurd (Contains-none x among)
unseen-given (y ∷ xs) w v u parent s x gives is within among = elim (Contains-cases y x xs among) [
  | inl here ↦ subst (λ z. ¬ Sees s u z) (sym gives.1 ∙ here) (unseen-next s w u (given-window (y ∷ xs) w v parent gives is) within)
  | inr later ↦ unseen-given xs gives.0 v u (Some y) s x gives.3 is (bounded-given (y ∷ []) w gives.0 parent s (gives.0, gives.1, gives.2, refl) within) later
]

pub SameSight-given : (s : Snap) (xs : List ℕ) (w v : Window) (parent : Option ℕ) → GivesUnder w parent xs v → IsWindow v → SameSight (state_of w) (λ x. Sees s w x) (λ x. Sees s v x)
SameSight-given s xs w v parent gives is x status at =
    let same = given-top_old xs w v parent x gives is (state-some w x status at).0 in
    (λ sees. sees-top s v w x same sees, λ sees. sees-top s w v x (sym same) sees)

-- ids are finished

pub Finishes-from : (w v : Window) (ids : List ℕ) (end : Status) → ((x : ℕ) → Contains ids x → window.IsActive w x) → change.Finishes w v ids end
    → FinishesIds (state_of w) (state_of v) (λ x. Contains ids x) end
Finishes-from w v ids end active f = record {
  active = λ x mine. active-from w x (active x mine);
  each = λ x. elim (f.each x) [
    | inl mine ↦ inl (mine.0, state-is v x end (finishes-given w v ids end x f mine.1) mine.2)
    | inr other ↦ inr (other.0, ap (λ s. option_map (λ _. s) (place v x)) other.1 ∙ ap (λ o. option_map (λ _. status_of w x) o) (finishes-place w v ids end x f))
  ];
}

pub SameSight-finish : (s : Snap) (w v : Window) (ids : List ℕ) (end : Status) → change.Finishes w v ids end → SameSight (state_of w) (λ x. Sees s w x) (λ x. Sees s v x)
SameSight-finish s w v ids end f x status at = (
  λ sees. sees-top s v w x (finishes-top w v ids end x f) sees,
  λ sees. sees-top s w v x (sym (finishes-top w v ids end x f)) sees,
)

-- what is seen is decided

decided-alone : (s : Snap) (x : ℕ) → SeesAlone s x ⊎ (¬ SeesAlone s x)
decided-alone s x = elim (precedes-or-not x s.xmin) [
  | inl soon ↦ inl (SeesAlone.early soon)
  | inr late ↦ elim (precedes-or-not x s.xmax) [
    | inl before ↦ elim (cases_Contains s.listed x) [
      | inl among ↦ inr (λ alone. elim alone [ SeesAlone.early soon ↦ late soon | SeesAlone.unlisted before' absent ↦ absent among ])
      | inr absent ↦ inl (SeesAlone.unlisted before absent)
    ]
    | inr past ↦ inr (λ alone. elim alone [ SeesAlone.early soon ↦ late soon | SeesAlone.unlisted before absent ↦ past before ])
  ]
]

pub decided : (s : Snap) (w : Window) (x : ℕ) → Sees s w x ⊎ (¬ Sees s w x)
decided s w x = elim (precedes-or-not x s.xmin) [
  | inl soon ↦ inl (Sees.early soon)
  | inr late ↦ elim (precedes-or-not x s.xmax) [
    | inl before ↦ elim (decided-alone s (tested s w x)) [
      | inl alone ↦ inl (Sees.between before alone)
      | inr not ↦ inr (λ sees. elim sees [ Sees.early soon ↦ late soon | Sees.between before' alone ↦ not alone ])
    ]
    | inr past ↦ inr (λ sees. elim sees [ Sees.early soon ↦ late soon | Sees.between before alone ↦ past before ])
  ]
]
