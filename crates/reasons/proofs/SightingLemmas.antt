-- A snapshot sees an id exactly where its sight says so; and an id has one sight.
use Rattle.std.proofs.Common.{◌≡◌, ℕ, Bool, true, false, refl, sym, ap, ◌∙◌, subst, inl, inr}
use Rattle.std.specs.Prelude.{◌↔◌}
use Rattle.std.proofs.lemmas.Bool.{cases_Bool}
use Rattle.xid_circle.specs.Circle.{Precedes}
use Rattle.xid_circle.specs.declared.Xid.{Xid}
use Rattle.commit_status.specs.Window.{Window, top_of}
use Rattle.snapshot.specs.Snap.{Snap, Sees, SeesAlone, tested}
use Rattle.snapshot.proofs.Sights.{listed-unseen}
use Rattle.reasons.specs.declared.sighting.XidStanding.{XidStanding}
use Rattle.reasons.specs.declared.sighting.XidStanding.TheVariants.{Before, NotBefore, Listed, Unlisted}
use Rattle.reasons.specs.declared.sighting.Sighting.{Sighting}
use Rattle.reasons.specs.declared.sighting.Sighting.TheVariants.{ByItself, ByParent}
use Rattle.reasons.specs.Sightings.{IsXidStanding, AsksParent, IsSighting, standing_counts, sighting_counts}

pub always : {P : Type 0} → P → P ↔ (true ≡ true)
always {P} so = (λ p. refl, λ e. so)

pub never : {P : Type 0} → ¬ P → P ↔ (false ≡ true)
never {P} never_so = (λ p. absurd (never_so p), λ e. absurd (cc))

not-before : (s : Snap) (x : ℕ) → ¬ Precedes x s.xmin → ¬ Precedes x s.xmax → ¬ SeesAlone s x
not-before s x late past (SeesAlone.early p) = late p
not-before s x late past (SeesAlone.unlisted p n) = past p

standing-decides : (s : Snap) (x : ℕ) (standing : XidStanding) → IsXidStanding s x standing → SeesAlone s x ↔ (standing_counts standing ≡ true)
standing-decides s x (Before limit) h = always (SeesAlone.early h.1)
standing-decides s x (NotBefore limit) h = never (not-before s x h.1 h.2)
standing-decides s x Listed h = never (listed-unseen s x h.0 h.2)
standing-decides s x Unlisted h = always (SeesAlone.unlisted h.1 h.2)

-- from xmin on the id that is tested decides

sees-tested : (s : Snap) (w : Window) (x y : ℕ) → ¬ Precedes x s.xmin → tested s w x ≡ y → Sees s w x → SeesAlone s y
sees-tested s w x y late same (Sees.early p) = absurd (late p)
sees-tested s w x y late same (Sees.between p q) = subst (SeesAlone s) same q

tested-decides : (s : Snap) (w : Window) (x y : ℕ) (standing : XidStanding) → ¬ Precedes x s.xmin → Precedes x s.xmax → tested s w x ≡ y
    → IsXidStanding s y standing → Sees s w x ↔ (standing_counts standing ≡ true)
tested-decides s w x y standing late early same h =
    let d = standing-decides s y standing h in
    (λ seen. d.0 (sees-tested s w x y late same seen), λ e. Sees.between early (subst (SeesAlone s) (sym same) (d.1 e)))

not-before-xmax : (s : Snap) (w : Window) (x : ℕ) → ¬ Precedes x s.xmin → ¬ Precedes x s.xmax → ¬ Sees s w x
not-before-xmax s w x late past (Sees.early p) = late p
not-before-xmax s w x late past (Sees.between p q) = past p

-- which is the id itself where no parent is asked, and else the topmost one

itself : (s : Snap) (w : Window) (x : ℕ) → ¬ AsksParent s x → ¬ Precedes x s.xmin → Precedes x s.xmax → tested s w x ≡ x
itself s w x direct late early = elim (cases_Bool s.overflowed) [
  | inl over ↦ absurd (direct (record { overflowed = over; late = late; early = early }))
  | inr whole ↦ rw whole refl
]

parent : (s : Snap) (w : Window) (x : ℕ) → AsksParent s x → tested s w x ≡ top_of w x
parent s w x asks = let e = asks.overflowed in rw e refl

pub sight-decides : (s : Snap) (w : Window) (x : ℕ) (sight : Sighting) → IsSighting s w x sight → Sees s w x ↔ (sighting_counts sight ≡ true)
sight-decides s w x (ByItself (Before limit)) h = always (Sees.early h.1.1)
sight-decides s w x (ByItself (NotBefore limit)) h = never (not-before-xmax s w x h.1.1 h.1.2)
sight-decides s w x (ByItself Listed) h = tested-decides s w x x Listed h.1.0 h.1.1 (itself s w x h.0 h.1.0 h.1.1) h.1
sight-decides s w x (ByItself Unlisted) h = tested-decides s w x x Unlisted h.1.0 h.1.1 (itself s w x h.0 h.1.0 h.1.1) h.1
sight-decides s w x (ByParent top standing) h = tested-decides s w x (top_of w x) standing h.0.late h.0.early (parent s w x h.0) h.2

-- There is one.

abbrev pub xid_of : ℕ → Xid
xid_of n = record { 0 = n }

same-xid : (a b : Xid) (n : ℕ) → a.0 ≡ n → b.0 ≡ n → a ≡ b
same-xid a b n is other = ap xid_of (is ∙ sym other)

standing-one : (s : Snap) (x : ℕ) (a b : XidStanding) → IsXidStanding s x a → IsXidStanding s x b → a ≡ b
standing-one s x (Before l) (Before m) h k = ap Before (same-xid l m s.xmin h.0 k.0)
standing-one s x (Before l) (NotBefore m) h k = absurd (k.1 h.1)
standing-one s x (Before l) Listed h k = absurd (k.0 h.1)
standing-one s x (Before l) Unlisted h k = absurd (k.0 h.1)
standing-one s x (NotBefore l) (Before m) h k = absurd (h.1 k.1)
standing-one s x (NotBefore l) (NotBefore m) h k = ap NotBefore (same-xid l m s.xmax h.0 k.0)
standing-one s x (NotBefore l) Listed h k = absurd (h.2 k.1)
standing-one s x (NotBefore l) Unlisted h k = absurd (h.2 k.1)
standing-one s x Listed (Before m) h k = absurd (h.0 k.1)
standing-one s x Listed (NotBefore m) h k = absurd (k.2 h.1)
standing-one s x Listed Listed h k = refl
standing-one s x Listed Unlisted h k = absurd (k.2 h.2)
standing-one s x Unlisted (Before m) h k = absurd (h.0 k.1)
standing-one s x Unlisted (NotBefore m) h k = absurd (k.2 h.1)
standing-one s x Unlisted Listed h k = absurd (h.2 k.2)
standing-one s x Unlisted Unlisted h k = refl

pub sight-one : (s : Snap) (w : Window) (x : ℕ) (a b : Sighting) → IsSighting s w x a → IsSighting s w x b → a ≡ b
sight-one s w x (ByItself a) (ByItself b) h k = ap ByItself (standing-one s x a b h.1 k.1)
sight-one s w x (ByItself a) (ByParent top b) h k = absurd (h.0 k.0)
sight-one s w x (ByParent top a) (ByItself b) h k = absurd (k.0 h.0)
sight-one s w x (ByParent top a) (ByParent other b) h k =
    let tops = same-xid top other (top_of w x) h.1 k.1 in
    let stand = standing-one s (top_of w x) a b h.2 k.2 in
    ap (λ (t : Xid). ByParent t a) tops ∙ ap (λ (st : XidStanding). ByParent other st) stand
