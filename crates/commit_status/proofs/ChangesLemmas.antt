-- What the steps of a table do to each id.
use Rattle.std.proofs.Common.{◌≡◌, ◌≢◌, ℕ, zero, suc, ◌+◌, ◌<◌, List, [], ◌∷◌, ◌++◌, length, set, take, get_or, Option, Some, None, IsSome, arith, inl, inr, ⊎_elim, refl, sym, ap, ◌∙◌, subst, slice_get, length-set, drop}
use Rattle.std.specs.Option.{option_and_then}
use Rattle.std.specs.List.{Contains}
use Rattle.std.proofs.lemmas.Bool.{cases_eq}
use Rattle.std.proofs.lemmas.Option.{slice_get_past}
use Rattle.std.proofs.lemmas.List.Elements.{Contains-append_left, Contains-append_right, Contains-append_cases, Contains-get_or}
use Rattle.std.proofs.lemmas.List.{map_more, get_or-map, length-map}
use Rattle.xid_circle.specs.declared.Xid.{Xid}
use Rattle.xid_circle.proofs.Members.{Contains-first, Contains-one}
use Rattle.commit_status.specs.declared.status.Status.{Status}
use Rattle.commit_status.specs.Window.{IdEntry, Window, IsWindow, place, place_in, entry_of, status_in, parent_in}
use Rattle.commit_status.specs.Changes.{numbers, Finishes}
use Rattle.commit_status.proofs.Places.{place-lt, place-one, is-from_some}
use Rattle.commit_status.proofs.Tables.{window_of}

slice_get-set_same : (xs : List IdEntry) (i : ℕ) (y : IdEntry) → i < length xs → slice_get (set xs i y) i ≡ Some y
slice_get-set_same [] i y h = absurd (omega arith)
slice_get-set_same (x ∷ xs) zero y h = refl
slice_get-set_same (x ∷ xs) (suc i) y h = slice_get-set_same xs i y (omega arith)

slice_get-set_other : (xs : List IdEntry) (i j : ℕ) (y : IdEntry) → j ≢ i → slice_get (set xs i y) j ≡ slice_get xs j
slice_get-set_other [] i j y ne = refl
slice_get-set_other (x ∷ xs) zero zero y ne = absurd (ne refl)
slice_get-set_other (x ∷ xs) zero (suc j) y ne = refl
slice_get-set_other (x ∷ xs) (suc i) zero y ne = refl
slice_get-set_other (x ∷ xs) (suc i) (suc j) y ne = slice_get-set_other xs i j y (λ e. ne (ap suc e))

-- what is behind the first entries
pub drop-at : (k j : ℕ) (es : List IdEntry) → slice_get (drop k es) j ≡ slice_get es (k + j)
drop-at zero j es = let e : j ≡ 0 + j = omega arith in ap (slice_get es) e
drop-at (suc k) j [] = slice_get_past {X = IdEntry} [] j (omega arith) ∙ sym (slice_get_past {X = IdEntry} [] (suc k + j) (omega arith))
drop-at (suc k) j (e ∷ es) = drop-at k j es ∙ (let same : suc (k + j) ≡ suc k + j = omega arith in ap (slice_get (e ∷ es)) same)

-- an id whose entry is another
pub entry-at : (w : Window) (x i : ℕ) → place w x ≡ Some i → entry_of w x ≡ slice_get w.entries i
entry-at w x i e = ap (option_and_then (slice_get w.entries)) e

pub entry-none : (w : Window) (x : ℕ) → place w x ≡ None → entry_of w x ≡ None
entry-none w x e = ap (option_and_then (slice_get w.entries)) e

-- an id takes another status, and keeps its parent
pub finishes-set : (f s : ℕ) (e : List IdEntry) (p : ℕ) (w : Window) (x i : ℕ) (old : IdEntry) (status : Status)
    → window_of f s e p ≡ w → IsWindow (window_of f s e p) → place_in f (length e) x ≡ Some i → slice_get e i ≡ Some old
    → Finishes w (window_of f s (set e i (record { status = status; parent = old.parent })) p) (x ∷ []) status
finishes-set f s e p w x i old status same is at there =
    let P : Window → Type 0 = λ u. Finishes u (window_of f s (set e i new) p) (x ∷ []) status in
    subst P same (record {
      first = refl;
      stop_age = refl;
      count = length-set e i new;
      spare = refl;
      each = λ y. ⊎_elim (λ a. inl (subst (Contains (x ∷ [])) a (Contains-first x []), is-from_some (place before y) i (here y a), (ap status_in (entry-here y a))))
          (λ b. inr ((λ c. b (Contains-one x y c)), ap status_in (entry-other y b))) (cases_eq x y);
      parents = λ y. ⊎_elim (λ a. ap parent_in (entry-here y a) ∙ sym (ap parent_in (entry-was y a))) (λ b. ap parent_in (entry-other y b)) (cases_eq x y);
    })
  where
    new : IdEntry
    new = record { status = status; parent = old.parent }

    before : Window
    before = window_of f s e p

    after : Window
    after = window_of f s (set e i new) p

    kept : (y : ℕ) → place after y ≡ place before y
    kept y = ap (λ n. place_in f n y) (length-set e i new)

    here : (y : ℕ) → x ≡ y → place before y ≡ Some i
    here y a = ap (place before) (sym a) ∙ at

    entry-here : (y : ℕ) → x ≡ y → entry_of after y ≡ Some new
    entry-here y a = entry-at after y i (kept y ∙ here y a) ∙ slice_get-set_same e i new (place-lt before x i at)

    entry-was : (y : ℕ) → x ≡ y → entry_of before y ≡ Some old
    entry-was y a = entry-at before y i (here y a) ∙ there

    other-cases : (y : ℕ) → x ≢ y → (o : Option ℕ) → place before y ≡ o → entry_of after y ≡ entry_of before y
    other-cases y b None h = entry-none after y (kept y ∙ h) ∙ sym (entry-none before y h)
    other-cases y b (Some j) h =
        entry-at after y j (kept y ∙ h)
        ∙ slice_get-set_other e i j new (λ k. b (place-one before x y i is at (h ∙ ap (λ n. Some n) k)))
        ∙ sym (entry-at before y j h)

    entry-other : (y : ℕ) → x ≢ y → entry_of after y ≡ entry_of before y
    entry-other y b = other-cases y b (place before y) refl

-- the places stay
pub finishes-place : (w v : Window) (ids : List ℕ) (status : Status) (x : ℕ) → Finishes w v ids status → place v x ≡ place w x
finishes-place w v ids status x f = ap (λ n. place_in n (length v.entries) x) f.first ∙ ap (λ n. place_in w.first n x) f.count

-- one more id
pub finishes-more : (u v w : Window) (ids : List ℕ) (x : ℕ) (status : Status) → Finishes u v ids status → Finishes v w (x ∷ []) status → Finishes u w (ids ++ x ∷ []) status
finishes-more u v w ids x status f g = record {
  first = g.first ∙ f.first;
  stop_age = g.stop_age ∙ f.stop_age;
  count = g.count ∙ f.count;
  spare = g.spare ∙ f.spare;
  each = λ y. ⊎_elim
      (λ a. inl (Contains-append_right ids (x ∷ []) y a.0, subst IsSome (finishes-place u v ids status y f) a.1, a.2))
      (λ b. ⊎_elim
      (λ a. inl (Contains-append_left ids (x ∷ []) y a.0, a.1, b.1 ∙ a.2))
      (λ d. inr ((λ c. ⊎_elim d.0 b.0 (Contains-append_cases ids (x ∷ []) y c)), b.1 ∙ d.1)) (f.each y))
      (g.each y);
  parents = λ y. g.parents y ∙ f.parents y;
}

-- one more id of a list of them
pub numbers-more : (ids : List Xid) (i : ℕ) (d : Xid) → i < length ids → numbers (take (i + 1) ids) ≡ numbers (take i ids) ++ (get_or ids i d).0 ∷ []
numbers-more ids i d h = map_more (λ (x : Xid). x.0) ids i d h

pub numbers-contain : (ids : List Xid) (i : ℕ) (d : Xid) → i < length ids → Contains (numbers ids) (get_or ids i d).0
numbers-contain ids i d h =
    let same : get_or (numbers ids) i 0 ≡ (get_or ids i d).0 = get_or-map (λ (x : Xid). x.0) ids i d 0 h in
    let long : length (numbers ids) ≡ length ids = length-map ids (λ (x : Xid). x.0) in
    subst (Contains (numbers ids)) same (Contains-get_or (numbers ids) i 0 (omega arith))
