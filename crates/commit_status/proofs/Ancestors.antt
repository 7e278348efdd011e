-- From an id to its parent, and on to the topmost.
use Rattle.std.proofs.Common.{◌≡◌, ◌≢◌, ℕ, zero, suc, ◌+◌, ◌^◌, ◌<◌, ◌≤◌, length, Option, Some, None, arith, refl, sym, ap, ◌∙◌, subst, slice_get, unwrap_or}
use Rattle.std.specs.Option.{option_and_then, option_map}
use Rattle.xid_circle.specs.Circle.{IsNormal, given}
use Rattle.commit_status.specs.Window.{Window, IsWindow, IsGivenBefore, turns, place, parent_in, parent_of, parent_at, ancestor_in, top_of, next_id}
use Rattle.commit_status.proofs.Turns.{turns-given, given-turns, given-given}
use Rattle.commit_status.proofs.Places.{at-from_place, given-place, place-given, place-lt}

parent-place_in : (w : Window) (x p : ℕ) (o : Option ℕ) → place w x ≡ o → parent_of w x ≡ Some p → (i : ℕ) × (place w x ≡ Some i) × (parent_at w.entries i ≡ Some p)
parent-place_in w x p None e h = absurd (let n = ap (λ q. parent_in (option_and_then (slice_get w.entries) q)) e in cc)
parent-place_in w x p (Some i) e h = (i, e, sym (ap (λ q. parent_in (option_and_then (slice_get w.entries) q)) e) ∙ h)

-- an id with a parent has a place
pub parent-place : (w : Window) (x p : ℕ) → parent_of w x ≡ Some p → (i : ℕ) × (place w x ≡ Some i) × (parent_at w.entries i ≡ Some p)
parent-place w x p h = parent-place_in w x p (place w x) refl h

before-turns : (first i j p d : ℕ) → IsNormal first → first < 2 ^ 32 → i ≤ 2144483648 → j ≤ 2144483648 → 0 < d → d ≤ 2144483648 → given first j ≡ p → given p d ≡ given first i → j < i
before-turns first i j p d normal fits hi hj pos near ep ed =
    let e : given first (j + d) ≡ given first i = sym (given-given first j d) ∙ ap (λ q. given q d) ep ∙ ed in
    let a = turns-given first (j + d) normal fits (omega arith) in
    let b = turns-given first i normal fits (omega arith) in
    let same : j + d ≡ i = sym a ∙ ap (turns first) e ∙ b in
    omega arith

-- parents stand before their children
pub parent-before : (w : Window) (x p i j : ℕ) → IsWindow w → parent_of w x ≡ Some p → place w x ≡ Some i → place w p ≡ Some j → j < i
parent-before w x p i j is h e f =
    let limit = is.limit in
    let short = is.short in
    let found = parent-place w x p h in
    let same : found.0 ≡ i = (let s : Some found.0 ≡ Some i = sym found.1 ∙ e in cc) in
    let before : IsGivenBefore p (given w.first found.0) = is.parents found.0 p found.2 in
    let pi = place-lt w x i e in
    let pj = place-lt w p j f in
    let at = at-from_place w.first (length w.entries) x i e in
    let goes : given p (turns p (given w.first found.0)) ≡ given w.first found.0 =
    (let gi = given-place w x found.0 is found.1 in
    given-turns p (given w.first found.0) before.normal before.fits (subst IsNormal (sym gi) at.normal) (subst (λ v. v < 2 ^ 32) (sym gi) at.fits)) in
    let lt : j < found.0 = before-turns w.first found.0 j p (turns p (given w.first found.0)) is.normal is.fits (omega arith) (omega arith) before.before before.near (given-place w p j is f) goes in
    omega arith

-- a parent is an id
pub parent-normal : (w : Window) (x p : ℕ) → IsWindow w → parent_of w x ≡ Some p → IsNormal p
parent-normal w x p is h = let found = parent-place w x p h in (is.parents found.0 p found.2).normal

-- a parent is never the next id
pub parent-not_next : (w : Window) (p i : ℕ) → IsWindow w → parent_at w.entries i ≡ Some p → i < length w.entries → p ≢ next_id w
parent-not_next w p i is h within = λ e.
    let limit = is.limit in
    let short = is.short in
    let before : IsGivenBefore p (given w.first i) = is.parents i p h in
    let at = at-from_place w.first (length w.entries) (given w.first i) i (place-given w i is within) in
    let goes : given p (turns p (given w.first i)) ≡ given w.first i = given-turns p (given w.first i) before.normal before.fits at.normal at.fits in
    let lt : length w.entries < i = before-turns w.first i (length w.entries) p (turns p (given w.first i)) is.normal is.fits (omega arith) (omega arith) before.before before.near (sym e) goes in
    absurd (omega arith)

-- how many ids stand up to an id in the window
abbrev pub height : Option ℕ → ℕ
height None = 0
height (Some i) = suc i

pub height-le : (w : Window) (x : ℕ) → height (place w x) ≤ length w.entries
height-le w x = height-cases (place w x) (length w.entries) (λ i e. place-lt w x i e)
  where
    height-cases : (o : Option ℕ) (n : ℕ) → ((i : ℕ) → o ≡ Some i → i < n) → height o ≤ n
    height-cases None n h = omega arith
    height-cases (Some i) n h = let l = h i refl in omega arith

height-lt : (o q : Option ℕ) (i : ℕ) → q ≡ Some i → ((j : ℕ) → o ≡ Some j → j < i) → height o < height q
height-lt None q i e h = rw e (omega arith)
height-lt (Some j) q i e h = let l = h j refl in rw e (omega arith)

pub parent-lower : (w : Window) (x p : ℕ) → IsWindow w → parent_of w x ≡ Some p → height (place w p) < height (place w x)
parent-lower w x p is h =
    let found = parent-place w x p h in
    height-lt (place w p) (place w x) found.0 found.1 (λ j f. parent-before w x p found.0 j is h found.1 f)

pub ancestor-none : (n : ℕ) (w : Window) (x : ℕ) → parent_of w x ≡ None → ancestor_in n w x ≡ x
ancestor-none zero w x e = refl
ancestor-none (suc n) w x e = ap (λ o. unwrap_or (option_map (ancestor_in n w) o) x) e

pub ancestor-some : (n : ℕ) (w : Window) (x p : ℕ) → parent_of w x ≡ Some p → ancestor_in (suc n) w x ≡ ancestor_in n w p
ancestor-some n w x p e = ap (λ o. unwrap_or (option_map (ancestor_in n w) o) x) e

pub parent-cases : {P : Type 0} (w : Window) (x : ℕ) → (parent_of w x ≡ None → P) → ((p : ℕ) → parent_of w x ≡ Some p → P) → P
parent-cases {P} w x f g = cases (parent_of w x) refl
  where
    cases : (o : Option ℕ) → parent_of w x ≡ o → P
    cases None e = f e
    cases (Some p) e = g p e

-- any number of steps that reaches the topmost gives the same
pub ancestor-enough : (n m : ℕ) (w : Window) (x : ℕ) → IsWindow w → height (place w x) ≤ n → height (place w x) ≤ m → ancestor_in n w x ≡ ancestor_in m w x
ancestor-enough zero m w x is hn hm =
    parent-cases w x (λ e. sym (ancestor-none m w x e)) (λ p e. let l = parent-lower w x p is e in absurd (omega arith))
ancestor-enough (suc n) zero w x is hn hm =
    parent-cases w x (λ e. ancestor-none (suc n) w x e) (λ p e. let l = parent-lower w x p is e in absurd (omega arith))
ancestor-enough (suc n) (suc m) w x is hn hm =
    parent-cases w x (λ e. ancestor-none (suc n) w x e ∙ sym (ancestor-none (suc m) w x e))
    (λ p e. let l = parent-lower w x p is e in
    ancestor-some n w x p e ∙ ancestor-enough n m w p is (omega arith) (omega arith) ∙ sym (ancestor-some m w x p e))

-- The laws of the topmost: an id without a parent is its own, any other has its parent's.
pub top-none : (w : Window) (x : ℕ) → parent_of w x ≡ None → top_of w x ≡ x
top-none w x e = ancestor-none (length w.entries) w x e

pub top-parent : (w : Window) (x p : ℕ) → IsWindow w → parent_of w x ≡ Some p → top_of w x ≡ top_of w p
top-parent w x p is e =
    let l = parent-lower w x p is e in
    let b = height-le w x in
    ancestor-enough (length w.entries) (suc (length w.entries)) w x is b (omega arith) ∙ ancestor-some (length w.entries) w x p e

-- the topmost has no parent in the window
pub top-outside : (n : ℕ) (w : Window) (x : ℕ) → IsWindow w → height (place w x) ≤ n → parent_of w (ancestor_in n w x) ≡ None
top-outside zero w x is h =
    parent-cases w x (λ e. e) (λ p e. let l = parent-lower w x p is e in absurd (omega arith))
top-outside (suc n) w x is h =
    parent-cases w x (λ e. ap (parent_of w) (ancestor-none (suc n) w x e) ∙ e)
    (λ p e. let l = parent-lower w x p is e in ap (parent_of w) (ancestor-some n w x p e) ∙ top-outside n w p is (omega arith))

pub top-parentless : (w : Window) (x : ℕ) → IsWindow w → parent_of w (top_of w x) ≡ None
top-parentless w x is = top-outside (length w.entries) w x is (height-le w x)

-- tops depend on the parents alone
pub top-same : (n : ℕ) (v w : Window) (x : ℕ) → ((y : ℕ) → parent_of v y ≡ parent_of w y) → ancestor_in n v x ≡ ancestor_in n w x
top-same zero v w x h = refl
top-same (suc n) v w x h =
    parent-cases w x (λ e. ancestor-none (suc n) v x (h x ∙ e) ∙ sym (ancestor-none (suc n) w x e))
    (λ p e. ancestor-some n v x p (h x ∙ e) ∙ top-same n v w p h ∙ sym (ancestor-some n w x p e))

pub unplaced-parent : (w : Window) (x : ℕ) → place w x ≡ None → parent_of w x ≡ None
unplaced-parent w x e = ap (λ q. parent_in (option_and_then (slice_get w.entries) q)) e

ancestor-before : (n : ℕ) (w : Window) (x i j : ℕ) → IsWindow w → place w x ≡ Some i → place w (ancestor_in n w x) ≡ Some j → j ≤ i
ancestor-before zero w x i j is e f = let same : i ≡ j = (let s : Some i ≡ Some j = sym e ∙ f in cc) in omega arith
ancestor-before (suc n) w x i j is e f =
    parent-cases w x
    (λ g. let same : i ≡ j = (let s : Some i ≡ Some j = sym e ∙ ap (place w) (sym (ancestor-none (suc n) w x g)) ∙ f in cc) in omega arith)
    (λ p g. placed p g (λ k h. ancestor-before n w p k j is h (ap (place w) (sym (ancestor-some n w x p g)) ∙ f)) (place w p) refl)
  where
    placed : (p : ℕ) → parent_of w x ≡ Some p → ((k : ℕ) → place w p ≡ Some k → j ≤ k) → (o : Option ℕ) → place w p ≡ o → j ≤ i
    placed p g below None h = absurd (let s : None ≡ Some j = sym h ∙ ap (place w) (sym (ancestor-some n w x p g ∙ ancestor-none n w p (unplaced-parent w p h))) ∙ f in cc)
    placed p g below (Some k) h =
        let low = parent-before w x p i k is g e h in
        let rest = below k h in
        omega arith

-- the topmost parent is given before
pub top-before : (w : Window) (x i j : ℕ) → IsWindow w → place w x ≡ Some i → place w (top_of w x) ≡ Some j → j ≤ i
top-before w x i j is e f = ancestor-before (length w.entries) w x i j is e f
