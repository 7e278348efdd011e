-- What each step keeps of a table.
use Rattle.std.proofs.Common.{◌≡◌, ℕ, zero, suc, ◌+◌, ◌-◌, ◌^◌, ◌<◌, ◌≤◌, ◌⊎◌, List, [], ◌∷◌, ◌++◌, length, drop, set, length-set, Option, Some, None, arith, inl, inr, ⊎_elim, refl, sym, ap, ◌∙◌, subst, slice_get, length-append, length-drop, IfSome, IsSome}
use Rattle.std.specs.Option.{option_map}
use Rattle.xid_circle.specs.declared.Xid.{Xid}
use Rattle.std.proofs.lemmas.Bool.{cases_lt}
use Rattle.xid_circle.specs.Circle.{IsNormal, distance_of, next_of, given}
use Rattle.commit_status.specs.Window.{IdEntry, Window, IsWindow, IsGivenBefore, IsUpToNext, IsGiven, turns, place, parent_in, parent_at, next_id}
use Rattle.commit_status.specs.Table.{IsStatusTable}
use Rattle.commit_status.proofs.Turns.{turns-given, given-turns, given-given, age-at}
use Rattle.commit_status.proofs.Places.{at-from_place, given-place, some-from_is}

abbrev pub window_of : ℕ → ℕ → List IdEntry → ℕ → Window
window_of first stop_age entries spare = record { first = first; stop_age = stop_age; entries = entries; spare = spare }

pub window-same : (f s : ℕ) (e e' : List IdEntry) (p p' : ℕ) → e' ≡ e → p' ≡ p → window_of f s e' p' ≡ window_of f s e p
window-same f s e e' p p' entries spare = ap (λ es. window_of f s es p') entries ∙ ap (window_of f s e) spare

-- room does not matter
pub table-kept : (f s : ℕ) (e e' : List IdEntry) (p p' n : ℕ) → e' ≡ e → IsStatusTable (window_of f s e p) n → IsStatusTable (window_of f s e' p') n
table-kept f s e e' p p' n same t =
    let P : List IdEntry → Type 0 = λ es. IsStatusTable (window_of f s es p') n in
    subst P (sym same) (record {
      window = record { normal = t.window.normal; fits = t.window.fits; limit = t.window.limit; short = t.window.short; parents = t.window.parents };
      normal = t.normal;
      next_is = t.next_is;
    })

pub parent_at-push : (e : List IdEntry) (x : IdEntry) (i q : ℕ) → parent_at (e ++ x ∷ []) i ≡ Some q → (parent_at e i ≡ Some q) ⊎ ((i ≡ length e) × (x.parent ≡ Some q))
parent_at-push [] x zero q h = inr (refl, h)
parent_at-push [] x (suc i) q h = absurd (cc)
parent_at-push (y ∷ e) x zero q h = inl h
parent_at-push (y ∷ e) x (suc i) q h = ⊎_elim (λ a. inl a) (λ b. inr (ap suc b.0, b.1)) (parent_at-push e x i q h)

parent_at-drop : (k : ℕ) (e : List IdEntry) (i : ℕ) → parent_at (drop k e) i ≡ parent_at e (k + i)
parent_at-drop zero e i = let s : i ≡ zero + i = omega arith in ap (parent_at e) s
parent_at-drop (suc k) [] i = refl
parent_at-drop (suc k) (x ∷ e) i =
    let s : suc (k + i) ≡ suc k + i = omega arith in
    parent_at-drop k e i ∙ ap (parent_at (x ∷ e)) s

-- an id of the window was given before the next one
given_before-next : (w : Window) (q : ℕ) (j : ℕ) → IsWindow w → place w q ≡ Some j → IsGivenBefore q (next_id w)
given_before-next w q j is e =
    let limit = is.limit in
    let short = is.short in
    let at = at-from_place w.first (length w.entries) q j e in
    let within = at.within in
    let there = given-place w q j is e in
    let sum : j + (length w.entries - j) ≡ length w.entries = omega arith in
    let goes : given q (length w.entries - j) ≡ next_id w = sym (ap (λ v. given v (length w.entries - j)) there) ∙ given-given w.first j (length w.entries - j) ∙ ap (given w.first) sum in
    let turn : turns q (next_id w) ≡ length w.entries - j = sym (ap (turns q) goes) ∙ turns-given q (length w.entries - j) at.normal at.fits (omega arith) in
    record { normal = at.normal; fits = at.fits; before = omega arith; near = omega arith }

pub table-pushed : (f s : ℕ) (e e' : List IdEntry) (p p' n m : ℕ) (x : IdEntry) → IsStatusTable (window_of f s e p) n → distance_of f n < s
    → ((q : ℕ) → x.parent ≡ Some q → (j : ℕ) × (place (window_of f s e p) q ≡ Some j))
    → e' ≡ e ++ x ∷ [] → m ≡ next_of n → IsNormal m → IsStatusTable (window_of f s e' p') m
table-pushed f s e e' p p' n m x t near under same goes normal =
    let is = t.window in
    let limit = is.limit in
    let short = is.short in
    let long : length (e ++ x ∷ []) ≡ suc (length e) = length-append e (x ∷ []) ∙ (omega arith) in
    let close : distance_of f (given f (length e)) < s = subst (λ v. distance_of f v < s) t.next_is near in
    let room : suc (length e) ≤ s = ⊎_elim (λ a. let d = a.1 in omega arith) (λ b. let d = b.1 in omega arith) (age-at f (length e) is.normal is.fits (omega arith)) in
    let P : List IdEntry → Type 0 = λ es. IsStatusTable (window_of f s es p') m in
    subst P (sym same) (record {
      window = record {
        normal = is.normal;
        fits = is.fits;
        limit = limit;
        short = omega arith;
        parents = λ i q h. ⊎_elim (λ a. is.parents i q a)
            (λ b. let found = under q b.1 in
            subst (λ k. IsGivenBefore q (given f k)) (sym b.0) (given_before-next (window_of f s e p) q found.0 is found.1))
            (parent_at-push e x i q h);
      };
      normal = normal;
      next_is = goes ∙ ap next_of t.next_is ∙ ap (given f) (sym long);
    })

pub table-dropped : (f s : ℕ) (e e' : List IdEntry) (p p' n x k : ℕ) → IsStatusTable (window_of f s e p) n → IsUpToNext (window_of f s e p) x
    → k ≡ turns f x → e' ≡ drop k e → IsStatusTable (window_of x s e' p') n
table-dropped f s e e' p p' n x k t up turn same =
    let is = t.window in
    let limit = is.limit in
    let short = is.short in
    let reached = up.reached in
    let there : given f k ≡ x = ap (given f) turn ∙ given-turns f x is.normal is.fits up.normal up.fits in
    let long : length (drop k e) ≡ length e - k = length-drop k e in
    let sum : k + (length e - k) ≡ length e = omega arith in
    let P : List IdEntry → Type 0 = λ es. IsStatusTable (window_of x s es p') n in
    subst P (sym same) (record {
      window = record {
        normal = up.normal;
        fits = up.fits;
        limit = limit;
        short = omega arith;
        parents = λ i q h.
            subst (IsGivenBefore q) (sym (given-given f k i) ∙ ap (λ v. given v i) there) (is.parents (k + i) q (sym (parent_at-drop k e i) ∙ h));
      };
      normal = t.normal;
      next_is = t.next_is ∙ ap (given f) (sym sum) ∙ sym (given-given f k (length e - k)) ∙ ap (λ v. given v (length e - k)) there ∙ ap (given x) (sym long);
    })

-- whether n more ids are near enough is whether the last is
pub can-give : (f s count n last age : ℕ) → IsNormal f → f < 2 ^ 32 → s ≤ 2144483648 → count ≤ s → 0 < n → last + 1 ≡ count + n
    → (f + last < 2 ^ 32 → age ≡ last) → (2 ^ 32 ≤ f + last → age ≡ last + 3)
    → age < s → (i : ℕ) → i < n → distance_of f (given f (count + i)) < s
can-give f s count n last age normal fits limit short some total before over near i h =
    ⊎_elim (λ early. at-early early (before early)) (λ late. at-late late (over late)) (cases_lt (f + last) (2 ^ 32))
  where
    at-early : f + last < 2 ^ 32 → age ≡ last → distance_of f (given f (count + i)) < s
    at-early early e =
        ⊎_elim (λ a. let d = a.1 in omega arith) (λ b. let d = b.0 in absurd (omega arith)) (age-at f (count + i) normal fits (omega arith))

    at-late : 2 ^ 32 ≤ f + last → age ≡ last + 3 → distance_of f (given f (count + i)) < s
    at-late late e =
        ⊎_elim (λ a. let d = a.1 in omega arith) (λ b. let d = b.1 in omega arith) (age-at f (count + i) normal fits (omega arith))

pub give-can : (f s count n last age : ℕ) → IsNormal f → f < 2 ^ 32 → s ≤ 2144483648 → count ≤ s → 0 < n → last + 1 ≡ count + n
    → (f + last < 2 ^ 32 → age ≡ last) → (2 ^ 32 ≤ f + last → age ≡ last + 3)
    → ((i : ℕ) → i < n → distance_of f (given f (count + i)) < s) → age < s
give-can f s count n last age normal fits limit short some total before over all =
    ⊎_elim (λ early. at-last early (all (n - 1) (omega arith))) (λ late. at-limit late (all (s - count) (omega arith))) (cases_lt last s)
  where
    at-low : last < s → f + last < 2 ^ 32 → age ≡ last → age < s
    at-low early low e = omega arith

    at-high : last < s → 2 ^ 32 ≤ f + last → age ≡ last + 3 → distance_of f (given f (count + (n - 1))) < s → age < s
    at-high early high e d =
        let k : count + (n - 1) ≡ last = omega arith in
        let near : distance_of f (given f last) < s = subst (λ m. distance_of f (given f m) < s) k d in
        ⊎_elim (λ a. let x = a.0 in absurd (omega arith)) (λ b. let x = b.1 in omega arith) (age-at f last normal fits (omega arith))

    at-last : last < s → distance_of f (given f (count + (n - 1))) < s → age < s
    at-last early d =
        ⊎_elim (λ low. at-low early low (before low)) (λ high. at-high early high (over high) d) (cases_lt (f + last) (2 ^ 32))

    at-limit : s ≤ last → distance_of f (given f (count + (s - count))) < s → age < s
    at-limit late d =
        let e : count + (s - count) ≡ s = omega arith in
        let d' : distance_of f (given f s) < s = subst (λ k. distance_of f (given f k) < s) e d in
        ⊎_elim (λ a. let x = a.1 in absurd (omega arith)) (λ b. let x = b.1 in absurd (omega arith)) (age-at f s normal fits (omega arith))

pub parent_at-set : (e : List IdEntry) (i : ℕ) (old x : IdEntry) (k : ℕ) → slice_get e i ≡ Some old → x.parent ≡ old.parent → parent_at (set e i x) k ≡ parent_at e k
parent_at-set [] i old x k at same = refl
parent_at-set (y ∷ e) zero old x zero at same = same ∙ ap (λ o. parent_in o) (sym at)
parent_at-set (y ∷ e) zero old x (suc k) at same = refl
parent_at-set (y ∷ e) (suc i) old x zero at same = refl
parent_at-set (y ∷ e) (suc i) old x (suc k) at same = parent_at-set e i old x k at same

pub table-set : (f s : ℕ) (e e' : List IdEntry) (p p' n i : ℕ) (old x : IdEntry) → IsStatusTable (window_of f s e p) n → slice_get e i ≡ Some old → x.parent ≡ old.parent
    → e' ≡ set e i x → IsStatusTable (window_of f s e' p') n
table-set f s e e' p p' n i old x t at kept same =
    let is = t.window in
    let short = is.short in
    let long : length (set e i x) ≡ length e = length-set e i x in
    let P : List IdEntry → Type 0 = λ es. IsStatusTable (window_of f s es p') n in
    subst P (sym same) (record {
      window = record {
        normal = is.normal;
        fits = is.fits;
        limit = is.limit;
        short = omega arith;
        parents = λ k q h. is.parents k q (sym (parent_at-set e i old x k at kept) ∙ h);
      };
      normal = t.normal;
      next_is = t.next_is ∙ ap (given f) (sym long);
    })

-- a parent that is given has a place
pub under-given : (v w : Window) (o : Option Xid) (r : Option ℕ) → v ≡ w → r ≡ option_map (λ (x : Xid). x.0) o → IfSome o (λ p. IsGiven w p.0)
    → (q : ℕ) → r ≡ Some q → (j : ℕ) × (place v q ≡ Some j)
under-given v w None r same e h q at = absurd (cc)
under-given v w (Some x) r same e h q at =
    let is : x.0 ≡ q = (let s : Some x.0 ≡ Some q = sym e ∙ at in cc) in
    some-from_is (place v q) (subst (λ u. IsSome (place u q)) (sym same) (subst (λ y. IsSome (place w y)) is h))
