-- What snapshots see.
use Rattle.std.proofs.Common.{◌≡◌, ℕ, ◌≤◌, ◌⊎◌, Bool, true, false, if◌then◌else◌, List, length, arith, ⊎_elim, refl, sym, ap, ◌∙◌, subst}
use Rattle.std.specs.List.{Contains}
use Rattle.xid_circle.specs.Circle.{Precedes}
use Rattle.commit_status.specs.Window.{Window, IsWindow, IsActive, IsInProgress, IsUpToNext, turns, place, next_id, top_of}
use Rattle.commit_status.proofs.Places.{at-from_place, some-from_is, upto-place, upto-next, precedes-turns}
use Rattle.commit_status.proofs.Turns.{turns-given}
use Rattle.commit_status.proofs.Ancestors.{top-before}
use Rattle.commit_status.proofs.Giving.{finished-place}
use Rattle.snapshot.specs.Snap.{Snap, Sees, SeesAlone, tested, taken}
use Rattle.snapshot.specs.Laws.{AreOpen, IsBounded}
use Rattle.snapshot.proofs.Takes.{taken-lists, own-upto, first-in}

pub tested-top : (s : Snap) (v : Window) (x : ℕ) → s.overflowed ≡ true → tested s v x ≡ top_of v x
tested-top s v x e = rw e refl

pub tested-itself : (s : Snap) (v : Window) (x : ℕ) → s.overflowed ≡ false → tested s v x ≡ x
tested-itself s v x e = rw e refl

pub by-overflow : {P : Type 0} (s : Snap) → (s.overflowed ≡ true → P) → (s.overflowed ≡ false → P) → P
by-overflow {P} s f g = cases s.overflowed refl
  where
    cases : (b : Bool) → s.overflowed ≡ b → P
    cases true e = f e
    cases false e = g e

pub listed-unseen : (s : Snap) (y : ℕ) → ¬ Precedes y s.xmin → Contains s.listed y → ¬ SeesAlone s y
listed-unseen s y late c (SeesAlone.early p) = late p
listed-unseen s y late c (SeesAlone.unlisted p n) = n c

unseen-by : (s : Snap) (v : Window) (x : ℕ) → ¬ Precedes x s.xmin → ¬ SeesAlone s (tested s v x) → ¬ Sees s v x
unseen-by s v x late hidden (Sees.early p) = late p
unseen-by s v x late hidden (Sees.between p q) = hidden q

-- what was in progress is unseen
pub open-unseen : (w v : Window) (owns : List (List ℕ)) (x : ℕ) → IsWindow w → AreOpen w owns → IsActive w x → top_of v x ≡ top_of w x → ¬ Sees (taken (next_id w) owns) v x
open-unseen w v owns x is open_ active same =
    let s = taken (next_id w) owns in
    let l = taken-lists w owns is open_ in
    let found = open_.all x active in
    let top = top_of w x in
    let at = open_.topmost found.0 x found.1 found.2 in
    let top_in = first-in found.0 top at in
    let upto_x = own-upto w owns found.0 x open_ found.1 found.2 in
    let upto_top = own-upto w owns found.0 top open_ found.1 top_in in
    let px = some-from_is (place w x) active.is_given in
    let pt = some-from_is (place w top) (open_.active found.0 top found.1 top_in).is_given in
    let low : turns w.first s.xmin ≤ turns w.first top = l.low found.0 top found.1 at in
    let order = top-before w x px.0 pt.0 is px.1 pt.1 in
    let tx = (at-from_place w.first (length w.entries) x px.0 px.1).turn in
    let tt_ = (at-from_place w.first (length w.entries) top pt.0 pt.1).turn in
    let late_top : ¬ Precedes top s.xmin = (λ p. let lt = (precedes-turns w top s.xmin is upto_top l.upto).0 p in absurd (omega arith)) in
    let late_x : ¬ Precedes x s.xmin = (λ p. let lt = (precedes-turns w x s.xmin is upto_x l.upto).0 p in absurd (omega arith)) in
    unseen-by s v x late_x
    (by-overflow s
    (λ e. subst (λ y. ¬ SeesAlone s y) (sym (tested-top s v x e ∙ same)) (listed-unseen s top late_top (l.tops found.0 top found.1 at)))
    (λ e. subst (λ y. ¬ SeesAlone s y) (sym (tested-itself s v x e)) (listed-unseen s x late_x (l.children e found.0 x found.1 found.2))))

-- what comes later is unseen
pub later-unseen : (s : Snap) (v : Window) (x : ℕ) → IsWindow v → IsBounded v s → IsUpToNext v x → turns v.first s.xmax ≤ turns v.first x → ¬ Sees s v x
later-unseen s v x is within up late (Sees.early p) =
    let lt = (precedes-turns v x s.xmin is up within.xmin).0 p in
    let ordered = within.ordered in
    absurd (omega arith)
later-unseen s v x is within up late (Sees.between p q) =
    let lt = (precedes-turns v x s.xmax is up within.xmax).0 p in
    absurd (omega arith)

-- what had finished is seen
pub finished-seen : (w : Window) (owns : List (List ℕ)) (x : ℕ) → IsWindow w → AreOpen w owns → ¬ IsInProgress w x
    → (¬ IsInProgress w (top_of w x)) ⊎ Precedes (top_of w x) (taken (next_id w) owns).xmin → Sees (taken (next_id w) owns) w x
finished-seen w owns x is open_ done top =
    Sees.between (before x done)
    (by-overflow s
    (λ e. subst (SeesAlone s) (sym (tested-top s w x e)) (⊎_elim (λ finished. alone (top_of w x) finished) (λ early. SeesAlone.early early) top))
    (λ e. subst (SeesAlone s) (sym (tested-itself s w x e)) (alone x done)))
  where
    s : Snap
    s = taken (next_id w) owns

    before : (y : ℕ) → ¬ IsInProgress w y → Precedes y s.xmax
    before y finished =
        let l = taken-lists w owns is open_ in
        let found = finished-place w y finished in
        let limit = is.limit in
        let short = is.short in
        let at = at-from_place w.first (length w.entries) y found.0 found.1 in
        let turn = at.turn in
        let within = at.within in
        let next = turns-given w.first (length w.entries) is.normal is.fits (omega arith) in
        subst (Precedes y) (sym l.xmax) ((precedes-turns w y (next_id w) is (upto-place w y found.0 found.1) (upto-next w is)).1 (omega arith))

    alone : (y : ℕ) → ¬ IsInProgress w y → SeesAlone s y
    alone y finished =
        SeesAlone.unlisted (before y finished)
        (λ c. let own = (taken-lists w owns is open_).only y c in finished (open_.active own.0 y own.1 own.2).unfinished)

-- what is seen depends on the topmost parent alone
pub sees-top : (s : Snap) (v w : Window) (x : ℕ) → top_of v x ≡ top_of w x → Sees s w x → Sees s v x
sees-top s v w x same (Sees.early p) = Sees.early p
sees-top s v w x same (Sees.between p q) =
    Sees.between p (subst (SeesAlone s) (ap (λ t. if s.overflowed then t else x) (sym same)) q)

-- what stands before the horizon is seen
pub past-seen : (w : Window) (s : Snap) (horizon x : ℕ) → IsWindow w → IsBounded w s → IsUpToNext w horizon → IsUpToNext w x
    → turns w.first horizon ≤ turns w.first s.xmin → Precedes x horizon → Sees s w x
past-seen w s horizon x is within uh ux low p =
    let lt = (precedes-turns w x horizon is ux uh).0 p in
    Sees.early ((precedes-turns w x s.xmin is ux within.xmin).1 (omega arith))
