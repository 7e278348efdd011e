-- Places, and the versions that meet a test.
use Rattle.std.proofs.Common.{◌≡◌, ◌≢◌, ℕ, ◌⊎◌, inl, inr, List, Option, sym, ap, ◌∙◌, subst, [], ◌∷◌, ◌++◌}
use Rattle.std.specs.Prelude.{Contains}
use Rattle.std.proofs.lemmas.Option.{same_Some, none-some}
use Rattle.std.proofs.lemmas.List.Elements.{Contains-push_cases}
use Rattle.xid_circle.specs.declared.Tid.{Tid}
use Rattle.xid_circle.proofs.Tids.{cases-tid}
use Rattle.tuple_header.specs.Version.{Version}
use Rattle.commit_status.specs.declared.status.Status.{Status}
use Rattle.visibility.specs.Seeing.{IsRunning, Reads, by_itself, by_others, Touches}
use Rattle.refinement.specs.Visible.{At, SomeVersion}
use Rattle.refinement.specs.Changes.{AddsVersion, Alters}
use Rattle.refinement.proofs.Isolations.{running_uncommitted}

-- an id that touches no version is as if it weren't owned
pub own-untouched : {store : Tid → Option Version} (x : ℕ) (own : List ℕ) → ((p : Tid) (v : Version) → At store p v → ¬ Touches x v.header)
    → (p : Tid) (y : ℕ) (v : Version) → At store p v → Touches y v.header → Contains (own ++ x ∷ []) y → Contains own y
own-untouched x own untouched p y v at touch mine = elim (Contains-push_cases own x y mine) [
  | inl was ↦ was
  | inr now ↦ absurd (untouched p v at (subst (λ z. Touches z v.header) (sym now) touch))
]

pub SomeVersion-weaker : (store : Tid → Option Version) (k : ℕ) (P Q : Version → Type 0) → ((p : Tid) (v : Version) → At store p v → P v → Q v) → SomeVersion store k P → SomeVersion store k Q
SomeVersion-weaker store k P Q to some = (some.0, some.1, some.2, some.3, to some.0 some.1 some.2 some.4)

-- the places after a version is added

pub Adds-cases : {store store' : Tid → Option Version} {p : Tid} {new : Version} → AddsVersion store store' p new → (q : Tid) (u : Version) → At store' q u → At store q u ⊎ ((q ≡ p) × (u ≡ new))
Adds-cases {store} {store'} {p} {new} adds q u at = elim (cases-tid q p) [
  | inl same ↦ inr (same, same_Some u new (sym at ∙ (ap store' same ∙ adds.here)))
  | inr ne ↦ inl (sym (adds.others q ne) ∙ at)
]

pub Adds-old : {store store' : Tid → Option Version} {p : Tid} {new : Version} → AddsVersion store store' p new → (q : Tid) (u : Version) → At store q u → At store' q u
Adds-old {store} {store'} {p} {new} adds q u at = elim (cases-tid q p) [
  | inl same ↦ absurd (none-some u (sym adds.unused ∙ (ap store (sym same) ∙ at)))
  | inr ne ↦ adds.others q ne ∙ at
]

pub SomeVersion-adds : {store store' : Tid → Option Version} {p : Tid} {new : Version} → AddsVersion store store' p new → (k : ℕ) (P : Version → Type 0) → SomeVersion store k P → SomeVersion store' k P
SomeVersion-adds adds k P some = (some.0, some.1, Adds-old adds some.0 some.1 some.2, some.3, some.4)

-- no one reads what another session has in progress
pub active_unread : {status : ℕ → Option Status} {sees : ℕ → Type 0} {own : List ℕ} {x : ℕ} → IsRunning status x → ¬ Contains own x → ¬ Reads status sees own x
active_unread active foreign (by_itself own) = foreign own
active_unread {status} {sees} {own} {x} active foreign (by_others sees' done) = running_uncommitted status x active done

-- the places after a version is altered

pub Alters-cases : {store store' : Tid → Option Version} {p : Tid} {v new : Version} → Alters store store' p v new → (q : Tid) (u : Version) → At store' q u → ((q ≡ p) × (u ≡ new)) ⊎ ((q ≢ p) × At store q u)
Alters-cases {store} {store'} {p} {v} {new} alters q u at = elim (cases-tid q p) [
  | inl same ↦ inl (same, same_Some u new (sym at ∙ (ap store' same ∙ alters.here)))
  | inr ne ↦ inr (ne, sym (alters.others q ne) ∙ at)
]

pub Alters-same : {store store' : Tid → Option Version} {p : Tid} {v new : Version} → Alters store store' p v new → (u : Version) → At store p u → u ≡ v
Alters-same {store} {store'} {p} {v} {new} alters u at = same_Some u v (sym at ∙ alters.before)

-- a version that has P, where one version was altered
pub SomeVersion-alters : {store store' : Tid → Option Version} {p : Tid} {v new : Version} → Alters store store' p v new → (k : ℕ) (P Q : Version → Type 0) → new.row.key ≡ v.row.key
    → (P v → Q new) → ((q : Tid) (u : Version) → At store q u → P u → Q u) → SomeVersion store k P → SomeVersion store' k Q
SomeVersion-alters {store} {store'} {p} {v} {new} alters k P Q key here there some = elim (cases-tid some.0 p) [
  | inl same ↦ (let is : some.1 ≡ v = Alters-same alters some.1 (ap store (sym same) ∙ some.2) in
      (p, new, alters.here, key ∙ (ap (λ (u : Version). u.row.key) (sym is) ∙ some.3), here (subst P is some.4)))
  | inr ne ↦ (some.0, some.1, alters.others some.0 ne ∙ some.2, some.3, there some.0 some.1 some.2 some.4)
]
