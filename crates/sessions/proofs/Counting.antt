-- How many ids are left, and which sessions are open.
use Rattle.std.proofs.Common.{◌≡◌, ◌↔◌, ℕ, zero, suc, ◌+◌, ◌-◌, ◌*◌, ◌^◌, ◌<◌, ◌≤◌, List, [], ◌∷◌, length, drop, Option, Some, None, refl, sym, ap, ◌∙◌, subst, arith, ⊎_elim, slice_get, length-drop}
use Rattle.std.proofs.lemmas.Nat.{pow_pos}
use Rattle.std.proofs.Math.Nat.{pow-succ'}
use Rattle.std.proofs.lemmas.Bool.{cases_lt}
use Rattle.xid_circle.specs.Circle.{distance_of, given}
use Rattle.commit_status.specs.Window.{Window, IsWindow}
use Rattle.commit_status.specs.Changes.{CanGive}
use Rattle.commit_status.proofs.Turns.{age-at}
use Rattle.sessions.specs.declared.session.Session.{Session}
use Rattle.sessions.specs.Session.{open_bits}

-- the id at the stop age is not given
pub cannot-give : (w : Window) → IsWindow w → ¬ CanGive w 2144483649
cannot-give w is can =
    let limit = is.limit in let short = is.short in
    let sum : length w.entries + (w.stop_age - length w.entries) ≡ w.stop_age = omega arith in
    let near = can (w.stop_age - length w.entries) (omega arith) in
    let at : distance_of w.first (given w.first w.stop_age) < w.stop_age = subst (λ n. distance_of w.first (given w.first n) < w.stop_age) sum near in
    ⊎_elim (λ a. let e = a.1 in omega arith) (λ b. let e = b.1 in omega arith) (age-at w.first w.stop_age is.normal is.fits (omega arith))

can-fewer : (w : Window) (m n : ℕ) → n ≤ m → CanGive w m → CanGive w n
can-fewer w m n le can = λ i lt. can i (omega arith)

-- the last that can be given stands right before the first that cannot
pub last-given : (w : Window) (can cannot n : ℕ) → CanGive w can → ¬ CanGive w cannot → cannot ≤ can + 1 → CanGive w n ↔ (n ≤ can)
last-given w can cannot n gives stops near = (
  λ more. ⊎_elim (λ lt. absurd (stops (can-fewer w n cannot (omega arith) more))) (λ le. le) (cases_lt can n),
  λ le. can-fewer w can n le gives,
)

bits-lt : (xs : List (Option Session)) (k : ℕ) → length xs ≤ k → open_bits xs < 2 ^ k
bits-lt [] k few = pow_pos k
bits-lt (x ∷ xs) zero few = absurd (omega (arith, few))
bits-lt (None ∷ xs) (suc k) few = let lt = bits-lt xs k (omega (arith, few)) in omega (arith, lt, pow-succ' 2 k)
bits-lt (Some e ∷ xs) (suc k) few = let lt = bits-lt xs k (omega (arith, few)) in omega (arith, lt, pow-succ' 2 k)

-- of 64 sessions the last 63 have 63 bits
pub bits-fit : (xs : List (Option Session)) (passed bits : ℕ) → length xs ≡ 64 → passed < 64 → bits ≡ open_bits (drop (64 - passed) xs) → bits < 2 ^ 63
bits-fit xs passed bits count lt is =
    let long = length-drop (64 - passed) xs in
    let lt = bits-lt (drop (64 - passed) xs) 63 (omega arith) in
    subst (λ b. b < 2 ^ 63) (sym is) lt

bits-open : (xs : List (Option Session)) (s : ℕ) (e : Session) → slice_get xs s ≡ Some (Some e) → open_bits (drop s xs) ≡ 2 * open_bits (drop (suc s) xs) + 1
bits-open [] s e is = absurd (cc)
bits-open (x ∷ xs) zero e is = let x-is : x ≡ Some e = cc in rw x-is refl
bits-open (x ∷ xs) (suc s) e is = bits-open xs s e is

bits-idle : (xs : List (Option Session)) (s : ℕ) → slice_get xs s ≡ Some None → open_bits (drop s xs) ≡ 2 * open_bits (drop (suc s) xs)
bits-idle [] s is = absurd (cc)
bits-idle (x ∷ xs) zero is = let x-is : x ≡ None = cc in rw x-is refl
bits-idle (x ∷ xs) (suc s) is = bits-idle xs s is

-- one more of 64 sessions was passed
pub passed-open : (xs : List (Option Session)) (passed bits : ℕ) (e : Session) → passed < 64 → bits ≡ open_bits (drop (64 - passed) xs)
    → slice_get xs (63 - passed) ≡ Some (Some e) → 2 * bits + 1 ≡ open_bits (drop (64 - (passed + 1)) xs)
passed-open xs passed bits e lt is at =
    let before : suc (63 - passed) ≡ 64 - passed = omega arith in let here : 63 - passed ≡ 64 - (passed + 1) = omega arith in
    ap (λ b. 2 * b + 1) (is ∙ ap (λ n. open_bits (drop n xs)) (sym before)) ∙ sym (bits-open xs (63 - passed) e at) ∙ ap (λ n. open_bits (drop n xs)) here

pub passed-idle : (xs : List (Option Session)) (passed bits : ℕ) → passed < 64 → bits ≡ open_bits (drop (64 - passed) xs)
    → slice_get xs (63 - passed) ≡ Some None → 2 * bits ≡ open_bits (drop (64 - (passed + 1)) xs)
passed-idle xs passed bits lt is at =
    let before : suc (63 - passed) ≡ 64 - passed = omega arith in let here : 63 - passed ≡ 64 - (passed + 1) = omega arith in
    ap (λ b. 2 * b) (is ∙ ap (λ n. open_bits (drop n xs)) (sym before)) ∙ sym (bits-idle xs (63 - passed) at) ∙ ap (λ n. open_bits (drop n xs)) here
