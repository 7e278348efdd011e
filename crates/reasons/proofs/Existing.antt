-- Each id has a reason, and each version a verdict.
use Rattle.std.proofs.Common.{◌≡◌, ◌≢◌, ◌⊎◌, ℕ, Bool, true, false, nat_eq, List, [], ◌∷◌, Option, Some, None, refl, sym, ap, ◌∙◌, subst, inl, inr}
use Rattle.std.specs.List.{Contains}
use Rattle.std.proofs.lemmas.Bool.{cases_Bool, eqb-true, eq-eqb}
use Rattle.xid_circle.proofs.Members.{Contains-first, Contains-rest, Contains-cases, Contains-none}
use Rattle.tuple_header.specs.declared.version.Header.{Header}
use Rattle.commit_status.specs.declared.status.Status.{Status}
use Rattle.commit_status.specs.declared.status.Status.TheVariants as status
use Rattle.commit_status.specs.Window.{Window, top_of}
use Rattle.snapshot.specs.Snap.{Snap}
use Rattle.snapshot.proofs.Earliest.{precedes-or-not}
use Rattle.visibility.specs.Seeing.{inserter, deleter}
use Rattle.visibility.specs.Visible.{state_of}
use Rattle.reasons.specs.declared.sighting.XidStanding.{XidStanding}
use Rattle.reasons.specs.declared.sighting.XidStanding.TheVariants.{Before, NotBefore, Listed, Unlisted}
use Rattle.reasons.specs.declared.sighting.Sighting.{Sighting}
use Rattle.reasons.specs.declared.sighting.Sighting.TheVariants.{ByItself, ByParent}
use Rattle.reasons.specs.declared.reason.Reason.{Reason}
use Rattle.reasons.specs.declared.reason.Reason.TheVariants.{Own, Forgotten, Running, Aborted, Committed}
use Rattle.reasons.specs.declared.reason.Touch.{Touch}
use Rattle.reasons.specs.declared.reason.Verdict.{Verdict}
use Rattle.reasons.specs.Sightings.{IsXidStanding, AsksParent, IsSighting}
use Rattle.reasons.specs.Reasons.{IsReasonIn, IsTouchIn, IsVerdictIn}
use Rattle.reasons.proofs.SightingLemmas.{xid_of}

contains-or-not : (xs : List ℕ) (x : ℕ) → Contains xs x ⊎ (¬ Contains xs x)
contains-or-not [] x = inr (Contains-none x)
contains-or-not (y ∷ ys) x = elim (cases_Bool (nat_eq y x)) [
  | inl same ↦ inl (subst (Contains (y ∷ ys)) (eqb-true y x same) (Contains-first y ys))
  | inr other ↦ elim (contains-or-not ys x) [
    | inl rest ↦ inl (Contains-rest y x ys rest)
    | inr none ↦ inr (λ c. elim (Contains-cases y x ys c) [
      | inl here ↦ (let e = eq-eqb y x here in absurd (cc))
      | inr there ↦ none there
    ])
  ]
]

standing-exists : (s : Snap) (x : ℕ) → (standing : XidStanding) × IsXidStanding s x standing
standing-exists s x = elim (precedes-or-not x s.xmin) [
  | inl before ↦ (Before (xid_of s.xmin), (refl, before))
  | inr late ↦ elim (precedes-or-not x s.xmax) [
    | inr past ↦ (NotBefore (xid_of s.xmax), (refl, late, past))
    | inl early ↦ elim (contains-or-not s.listed x) [
      | inl listed ↦ (Listed, (late, early, listed))
      | inr none ↦ (Unlisted, (late, early, none))
    ]
  ]
]

asks-or-not : (s : Snap) (x : ℕ) → AsksParent s x ⊎ (¬ AsksParent s x)
asks-or-not s x = elim (cases_Bool s.overflowed) [
  | inr whole ↦ inr (λ asks. let over = asks.overflowed in absurd (cc))
  | inl over ↦ elim (precedes-or-not x s.xmin) [
    | inl before ↦ inr (λ asks. asks.late before)
    | inr late ↦ elim (precedes-or-not x s.xmax) [
      | inl early ↦ inl (record { overflowed = over; late = late; early = early })
      | inr past ↦ inr (λ asks. past asks.early)
    ]
  ]
]

sight-exists : (s : Snap) (w : Window) (x : ℕ) → (sight : Sighting) × IsSighting s w x sight
sight-exists s w x = elim (asks-or-not s x) [
  | inl asks ↦ (let stand = standing-exists s (top_of w x) in (ByParent (xid_of (top_of w x)) stand.0, (asks, refl, stand.1)))
  | inr direct ↦ (let stand = standing-exists s x in (ByItself stand.0, (direct, stand.1)))
]

pub reason-exists : (w : Window) (s : Snap) (own : List ℕ) (x : ℕ) → (reason : Reason) × IsReasonIn w s own x reason
reason-exists w s own x = elim (contains-or-not own x) [ inl mine ↦ (Own, mine) | inr other ↦ of (state_of w x) refl other ]
  where
    of : (o : Option Status) → state_of w x ≡ o → ¬ Contains own x → (reason : Reason) × IsReasonIn w s own x reason
    of None is other = (Forgotten, (other, is))
    of (Some status.InProgress) is other = (Running, (other, is))
    of (Some status.Aborted) is other = (Aborted, (other, is))
    of (Some status.Committed) is other = let sight = sight-exists s w x in (Committed sight.0, (other, (is, sight.1)))

touch-exists : (w : Window) (s : Snap) (own : List ℕ) (o : Option ℕ) → (touch : Option Touch) × IsTouchIn w s own o touch
touch-exists w s own None = (None, tt)
touch-exists w s own (Some x) = let reason = reason-exists w s own x in (Some (record { id = xid_of x; reason = reason.0 }), (refl, reason.1))

pub verdict-exists : (w : Window) (s : Snap) (own : List ℕ) (h : Header) → (verdict : Verdict) × IsVerdictIn w s own h verdict
verdict-exists w s own h =
    let maker = touch-exists w s own (inserter h) in
    let deleter' = touch-exists w s own (deleter h) in
    (record { maker = maker.0; deleter = deleter'.0 }, record { maker = maker.1; deleter = deleter'.1 })
