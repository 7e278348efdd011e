-- What giving an id does to each id: a new one is in progress, and nothing else is known anew.
use Rattle.std.proofs.Common.{◌≡◌, ◌≢◌, ℕ, zero, suc, ◌+◌, ◌<◌, ◌≤◌, ◌⊎◌, List, [], ◌∷◌, ◌++◌, length, Option, Some, None, arith, inl, inr, ⊎_elim, refl, sym, ap, ◌∙◌, subst, slice_get, length-append}
use Rattle.std.proofs.lemmas.Bool.{cases_eq, cases_lt}
use Rattle.xid_circle.specs.Circle.{given}
use Rattle.commit_status.specs.declared.status.Status.TheVariants.{InProgress}
use Rattle.commit_status.specs.Window.{IdEntry, Window, IsWindow, IsActive, IsUpToNext, turns, place, entry_of, status_in, parent_in, status_of, parent_of, ancestor_in, top_of, next_id}
use Rattle.commit_status.specs.Changes.{Gives}
use Rattle.commit_status.proofs.Places.{IsAt, at-from_place, place-from_at, given-place, place-given, place-lt, none-unless, next-none, is-from_some}
use Rattle.commit_status.proofs.Ancestors.{parent-place, parent-not_next, height-le, ancestor-none, ancestor-some, ancestor-enough, parent-cases}
use Rattle.commit_status.proofs.ChangesLemmas.{entry-at, entry-none}

pub slice_get-push_old : (xs : List IdEntry) (y : IdEntry) (i : ℕ) → i < length xs → slice_get (xs ++ y ∷ []) i ≡ slice_get xs i
slice_get-push_old [] y i h = absurd (omega arith)
slice_get-push_old (x ∷ xs) y zero h = refl
slice_get-push_old (x ∷ xs) y (suc i) h = slice_get-push_old xs y i (omega arith)

slice_get-push_new : (xs : List IdEntry) (y : IdEntry) → slice_get (xs ++ y ∷ []) (length xs) ≡ Some y
slice_get-push_new [] y = refl
slice_get-push_new (x ∷ xs) y = slice_get-push_new xs y

at-move : (f g m n x i : ℕ) → f ≡ g → i < n → IsAt f m x i → IsAt g n x i
at-move f g m n x i e h at = record { normal = at.normal; fits = at.fits; turn = subst (λ v. turns v x ≡ i) e at.turn; within = h }

pub gives-length : (w v : Window) (parent : Option ℕ) → Gives w v parent → length v.entries ≡ length w.entries + 1
gives-length w v parent g = ap length g.entries ∙ length-append w.entries _ ∙ (omega arith)

-- an id of the window stays at its place
pub gives-place_old : (w v : Window) (parent : Option ℕ) (x i : ℕ) → Gives w v parent → place w x ≡ Some i → place v x ≡ Some i
gives-place_old w v parent x i g e =
    let long = gives-length w v parent g in
    let l = place-lt w x i e in
    place-from_at v.first (length v.entries) x i (at-move w.first v.first _ _ x i (sym g.first) (omega arith) (at-from_place w.first (length w.entries) x i e))

-- an id at a place was there, or is the new one
pub gives-place_cases : (w v : Window) (parent : Option ℕ) (x i : ℕ) → IsWindow v → Gives w v parent → place v x ≡ Some i → (place w x ≡ Some i) ⊎ ((x ≡ next_id w) × (i ≡ length w.entries))
gives-place_cases w v parent x i is g e =
    let long = gives-length w v parent g in
    let l = place-lt v x i e in
    let there = given-place v x i is e in
    ⊎_elim
    (λ a. inl (place-from_at w.first (length w.entries) x i (at-move v.first w.first _ _ x i g.first a (at-from_place v.first (length v.entries) x i e))))
    (λ b. let k : i ≡ length w.entries = omega arith in inr (sym there ∙ ap (given v.first) k ∙ ap (λ f. given f (length w.entries)) g.first, k))
    (cases_lt i (length w.entries))

pub gives-place_next : (w v : Window) (parent : Option ℕ) → IsWindow v → Gives w v parent → place v (next_id w) ≡ Some (length w.entries)
gives-place_next w v parent is g =
    let long = gives-length w v parent g in
    ap (place v) (ap (λ f. given f (length w.entries)) (sym g.first)) ∙ place-given v (length w.entries) is (omega arith)

-- what was known of the other ids is still known
pub gives-entry_old : (w v : Window) (parent : Option ℕ) (x : ℕ) → IsWindow v → Gives w v parent → x ≢ next_id w → entry_of v x ≡ entry_of w x
gives-entry_old w v parent x is g other = cases (place w x) refl
  where
    cases : (o : Option ℕ) → place w x ≡ o → entry_of v x ≡ entry_of w x
    cases None e =
        entry-none v x (none-unless (place v x) (λ i f. ⊎_elim (λ a. let n : None ≡ Some i = sym e ∙ a in cc) (λ b. other b.0) (gives-place_cases w v parent x i is g f)))
        ∙ sym (entry-none w x e)
    cases (Some i) e =
        entry-at v x i (gives-place_old w v parent x i g e)
        ∙ ap (λ es. slice_get es i) g.entries ∙ slice_get-push_old w.entries _ i (place-lt w x i e)
        ∙ sym (entry-at w x i e)

pub gives-entry_next : (w v : Window) (parent : Option ℕ) → IsWindow v → Gives w v parent → entry_of v (next_id w) ≡ Some (record { status = InProgress; parent = parent })
gives-entry_next w v parent is g =
    entry-at v (next_id w) (length w.entries) (gives-place_next w v parent is g)
    ∙ ap (λ es. slice_get es (length w.entries)) g.entries ∙ slice_get-push_new w.entries _

-- the status of each id is as before: what was not given yet counted as in progress
pub gives-status : (w v : Window) (parent : Option ℕ) (x : ℕ) → IsWindow w → IsWindow v → Gives w v parent → status_of v x ≡ status_of w x
gives-status w v parent x before after g =
    ⊎_elim
    (λ a. ap (status_of v) a ∙ ap status_in (gives-entry_next w v parent after g) ∙ sym (ap status_in (entry-none w (next_id w) (next-none w before))) ∙ sym (ap (status_of w) a))
    (λ b. ap status_in (gives-entry_old w v parent x after g b)) (cases_eq x (next_id w))

pub gives-parent_old : (w v : Window) (parent : Option ℕ) (x : ℕ) → IsWindow v → Gives w v parent → x ≢ next_id w → parent_of v x ≡ parent_of w x
gives-parent_old w v parent x is g other = ap parent_in (gives-entry_old w v parent x is g other)

ancestor-old : (n : ℕ) (w v : Window) (parent : Option ℕ) (x : ℕ) → IsWindow w → IsWindow v → Gives w v parent → x ≢ next_id w → ancestor_in n v x ≡ ancestor_in n w x
ancestor-old zero w v parent x before after g other = refl
ancestor-old (suc n) w v parent x before after g other =
    let same = gives-parent_old w v parent x after g other in
    parent-cases w x (λ e. ancestor-none (suc n) v x (same ∙ e) ∙ sym (ancestor-none (suc n) w x e))
    (λ p e. let found = parent-place w x p e in
    ancestor-some n v x p (same ∙ e)
    ∙ ancestor-old n w v parent p before after g (parent-not_next w p found.0 before found.2 (place-lt w x found.0 found.1))
    ∙ sym (ancestor-some n w x p e))

-- so are the tops of the other ids
pub gives-top_old : (w v : Window) (parent : Option ℕ) (x : ℕ) → IsWindow w → IsWindow v → Gives w v parent → x ≢ next_id w → top_of v x ≡ top_of w x
gives-top_old w v parent x before after g other =
    let long = gives-length w v parent g in
    let low = height-le w x in
    ap (λ n. ancestor_in n v x) long ∙ ancestor-old (length w.entries + 1) w v parent x before after g other
    ∙ ancestor-enough (length w.entries + 1) (length w.entries) w x before (omega arith) low

pub gives-active_next : (w v : Window) (parent : Option ℕ) → IsWindow v → Gives w v parent → IsActive v (next_id w)
gives-active_next w v parent is g = record {
  is_given = is-from_some (place v (next_id w)) (length w.entries) (gives-place_next w v parent is g);
  unfinished = ap status_in (gives-entry_next w v parent is g);
}

pub gives-upto : (w v : Window) (parent : Option ℕ) (x : ℕ) → Gives w v parent → IsUpToNext w x → IsUpToNext v x
gives-upto w v parent x g up =
    let long = gives-length w v parent g in
    let reached : turns v.first x ≤ length w.entries = subst (λ f. turns f x ≤ length w.entries) (sym g.first) up.reached in
    record { normal = up.normal; fits = up.fits; reached = omega arith }

-- an id that is finished is in the window
pub finished-place : (w : Window) (x : ℕ) → ¬ (status_of w x ≡ InProgress) → (i : ℕ) × (place w x ≡ Some i)
finished-place w x done = cases (place w x) refl
  where
    cases : (o : Option ℕ) → place w x ≡ o → (i : ℕ) × (place w x ≡ Some i)
    cases None e = absurd (done (ap status_in (entry-none w x e)))
    cases (Some i) e = (i, e)

-- what was not given yet counts as in progress
pub next-unfinished : (w : Window) → IsWindow w → status_of w (next_id w) ≡ InProgress
next-unfinished w is = ap status_in (entry-none w (next_id w) (next-none w is))
