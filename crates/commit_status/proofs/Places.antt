-- Places in a window, and the ids that they hold.
use Rattle.std.proofs.Common.{◌≡◌, ℕ, ◌-◌, ◌^◌, ◌<◌, ◌≤◌, ◌↔◌, ◌&&◌, if◌then◌else◌, Bool, true, false, ltb, length, Option, Some, None, IsSome, arith, refl, sym, ap, ◌∙◌, subst}
use Rattle.std.proofs.lemmas.Bool.Decides.{nat_tests}
use Rattle.std.proofs.lemmas.Bool.{lt-ltb, ltb-true}
use Rattle.xid_circle.specs.Circle.{IsNormal, Precedes, given}
use Rattle.commit_status.specs.Window.{Window, IsWindow, IsGiven, IsUpToNext, turns, place_in, place, next_id, is_id}
use Rattle.commit_status.proofs.Turns.{turns-given, given-turns, given-normal, given-fits, order}

chosen : (b c : Bool) (t i : ℕ) → (if b && c then Some t else None) ≡ Some i → (b ≡ true) × (c ≡ true) × (t ≡ i)
chosen true true t i e = (refl, refl, (let s : Some t ≡ Some i = e in cc))
chosen true false t i e = absurd (cc)
chosen false c t i e = absurd (cc)

made : (b c : Bool) (t : ℕ) → b ≡ true → c ≡ true → (if b && c then Some t else None) ≡ Some t
made b c t e f = rw (e, f) refl

id-true : (x : ℕ) → 3 ≤ x → x < 2 ^ 32 → is_id x ≡ true
id-true x a b = grind (arith, nat_tests)

true-id : (x : ℕ) → is_id x ≡ true → (3 ≤ x) × (x < 2 ^ 32)
true-id x e = grind (arith, nat_tests)

-- what an id that has a place is
pub record IsAt (first count x i : ℕ) : Type 0 where
  pub normal : IsNormal x
  pub fits : x < 2 ^ 32
  pub turn : turns first x ≡ i
  pub within : i < count

pub at-from_place : (first count x i : ℕ) → place_in first count x ≡ Some i → IsAt first count x i
at-from_place first count x i e =
    let parts = chosen (is_id x) (ltb (turns first x) count) (turns first x) i e in
    let id = true-id x parts.0 in
    let lt = ltb-true (turns first x) count parts.1 in
    record { normal = id.0; fits = id.1; turn = parts.2; within = subst (λ k. k < count) parts.2 lt }

pub place-from_at : (first count x i : ℕ) → IsAt first count x i → place_in first count x ≡ Some i
place-from_at first count x i at =
    made (is_id x) (ltb (turns first x) count) (turns first x) (id-true x at.normal at.fits) (lt-ltb _ _ (subst (λ k. k < count) (sym at.turn) at.within)) ∙ ap (λ k. Some k) at.turn

pub none-unless : (o : Option ℕ) → ((i : ℕ) → o ≡ Some i → ⊥) → o ≡ None
none-unless None h = refl
none-unless (Some i) h = absurd (h i refl)

pub some-from_is : (o : Option ℕ) → IsSome o → (i : ℕ) × (o ≡ Some i)
some-from_is None h = absurd (cc)
some-from_is (Some i) h = (i, refl)

pub is-from_some : (o : Option ℕ) (i : ℕ) → o ≡ Some i → IsSome o
is-from_some None i e = absurd (cc)
is-from_some (Some j) i e = refl

-- an id of the window is given at its place
pub given-place : (w : Window) (x i : ℕ) → IsWindow w → place w x ≡ Some i → given w.first i ≡ x
given-place w x i is e =
    let at = at-from_place w.first (length w.entries) x i e in
    ap (given w.first) (sym at.turn) ∙ given-turns w.first x is.normal is.fits at.normal at.fits

pub place-lt : (w : Window) (x i : ℕ) → place w x ≡ Some i → i < length w.entries
place-lt w x i e = (at-from_place w.first (length w.entries) x i e).within

-- each place holds the id that is given at its turn
pub place-given : (w : Window) (i : ℕ) → IsWindow w → i < length w.entries → place w (given w.first i) ≡ Some i
place-given w i is within =
    let limit = is.limit in
    let short = is.short in
    let small : i < 2 ^ 32 - 3 = omega arith in
    place-from_at w.first (length w.entries) (given w.first i) i (record {
      normal = given-normal w.first i is.normal is.fits small;
      fits = given-fits w.first i is.normal is.fits small;
      turn = turns-given w.first i is.normal is.fits small;
      within = within;
    })

-- distinct places hold distinct ids, and the other way round
pub place-one : (w : Window) (x y i : ℕ) → IsWindow w → place w x ≡ Some i → place w y ≡ Some i → x ≡ y
place-one w x y i is e f = sym (given-place w x i is e) ∙ given-place w y i is f

-- the next id is not in the window
pub next-none : (w : Window) → IsWindow w → place w (next_id w) ≡ None
next-none w is =
    let limit = is.limit in
    let short = is.short in
    let small : length w.entries < 2 ^ 32 - 3 = omega arith in
    let turn = turns-given w.first (length w.entries) is.normal is.fits small in
    none-unless _ (λ i e. let at = at-from_place w.first (length w.entries) (next_id w) i e in
    let t = at.turn in
    let l = at.within in
    absurd (omega arith))

-- ids of the window, and the next id, are given at their turn
pub upto-next : (w : Window) → IsWindow w → IsUpToNext w (next_id w)
upto-next w is =
    let limit = is.limit in
    let short = is.short in
    let small : length w.entries < 2 ^ 32 - 3 = omega arith in
    let turn = turns-given w.first (length w.entries) is.normal is.fits small in
    record {
      normal = given-normal w.first (length w.entries) is.normal is.fits small;
      fits = given-fits w.first (length w.entries) is.normal is.fits small;
      reached = omega arith;
    }

pub upto-place : (w : Window) (x i : ℕ) → place w x ≡ Some i → IsUpToNext w x
upto-place w x i e =
    let at = at-from_place w.first (length w.entries) x i e in
    let t = at.turn in
    let l = at.within in
    record { normal = at.normal; fits = at.fits; reached = omega arith }

pub upto-given : (w : Window) (x : ℕ) → IsGiven w x → IsUpToNext w x
upto-given w x there = let found = some-from_is (place w x) there in upto-place w x found.0 found.1

pub given-upto : (w : Window) (x : ℕ) → IsWindow w → IsUpToNext w x → given w.first (turns w.first x) ≡ x
given-upto w x is up = given-turns w.first x is.normal is.fits up.normal up.fits

-- of these that precedes which is given first
pub precedes-turns : (w : Window) (x y : ℕ) → IsWindow w → IsUpToNext w x → IsUpToNext w y → (Precedes x y ↔ (turns w.first x < turns w.first y))
precedes-turns w x y is ux uy =
    let limit = is.limit in
    let short = is.short in
    let rx = ux.reached in
    let ry = uy.reached in
    let law = order w.first (turns w.first x) (turns w.first y) is.normal is.fits (omega arith) (omega arith) in
    let P : ℕ → Type 0 = λ v. Precedes v (given w.first (turns w.first y)) ↔ (turns w.first x < turns w.first y) in
    let Q : ℕ → Type 0 = λ v. Precedes x v ↔ (turns w.first x < turns w.first y) in
    subst Q (given-upto w y is uy) (subst P (given-upto w x is ux) law)
