-- Marks put into an array.
use Rattle.std.proofs.Common.{◌≡◌, ◌≢◌, ℕ, zero, suc, ◌<◌, Bool, true, false, nat_eq, if◌then◌else◌, ◌||◌, List, [], ◌∷◌, length, take, get_or, set, Option, Some, None, slice_get, ⊎_elim, sym, ap, ◌∙◌, refl}
use Rattle.std.specs.List.{list_any}
use Rattle.std.proofs.lemmas.Bool.{cases_Bool, eqb-true, eqb-false}
use Rattle.std.proofs.lemmas.List.{get_or-set_same}
use Rattle.prune_actions.specs.declared.Action.{Action}
use Rattle.prune.specs.declared.marks.PruneVerdict.{PruneVerdict}
use Rattle.prune.specs.declared.marks.PruneVerdict.TheVariants.{Orphan}
use Rattle.prune_actions.specs.declared.Action.TheVariants as action
use Rattle.prune.specs.Pruning.{root_action}
use Rattle.prune.specs.Marks.{verdict_of, mark_at, marked}

pub held-not_loose : (o : Option Action) → verdict_of o ≡ Orphan → ⊥
held-not_loose None e = absurd (cc)
held-not_loose (Some a) e = absurd (cc)

-- the first `i` of the numbers are marked
pub record IsMarking (before : List PruneVerdict) (numbers : List ℕ) (action : Option Action) (marks : List PruneVerdict) (i : ℕ) : Type 0 where
  pub size : length marks ≡ 292
  pub each : (n : ℕ) → mark_at marks n ≡ (if list_any (nat_eq n) (take i numbers) then verdict_of action else mark_at before n)

pub get_or-else : (xs : List PruneVerdict) (i n : ℕ) (y : PruneVerdict) → n ≢ i → get_or (set xs i y) n Orphan ≡ get_or xs n Orphan
get_or-else [] i n y ne = refl
get_or-else (x ∷ xs) zero zero y ne = absurd (ne refl)
get_or-else (x ∷ xs) zero (suc n) y ne = refl
get_or-else (x ∷ xs) (suc i) zero y ne = refl
get_or-else (x ∷ xs) (suc i) (suc n) y ne = get_or-else xs i n y (λ e. ne (ap suc e))

any-take : (n cut : ℕ) (xs : List ℕ) → list_any (nat_eq n) (take cut xs) ≡ true → list_any (nat_eq n) xs ≡ true
any-take n zero xs e = absurd (cc)
any-take n (suc cut) [] e = absurd (cc)
any-take n (suc cut) (x ∷ xs) e = by (nat_eq n x) (list_any (nat_eq n) (take cut xs)) (list_any (nat_eq n) xs) (any-take n cut xs) e
  where
    by : (a b c : Bool) → (b ≡ true → c ≡ true) → a || b ≡ true → a || c ≡ true
    by true b c f e = refl
    by false b c f e = f e

-- the marks after the walk along a chain
pub chain-marked : (root : ℕ) (chain : List ℕ) (cut : ℕ) (before kept gone after : List PruneVerdict)
    → ((n : ℕ) → mark_at kept n ≡ (if list_any (nat_eq n) chain then verdict_of None else mark_at before n))
    → ((n : ℕ) → mark_at gone n ≡ (if list_any (nat_eq n) (take cut chain) then verdict_of (Some action.Unuse) else mark_at kept n))
    → after ≡ set gone root (verdict_of (root_action cut (slice_get chain cut))) → root < length gone
    → (n : ℕ) → mark_at after n ≡ marked root chain cut n (mark_at before n)
chain-marked root chain cut before kept gone after k g e small n =
    ap (λ xs. get_or xs n Orphan) e ∙ ⊎_elim at-root elsewhere (cases_Bool (nat_eq n root))
  where
    what : PruneVerdict
    what = verdict_of (root_action cut (slice_get chain cut))

    at-root : nat_eq n root ≡ true → get_or (set gone root what) n Orphan ≡ marked root chain cut n (mark_at before n)
    at-root here =
        ap (λ i. get_or (set gone root what) i Orphan) (eqb-true n root here) ∙ get_or-set_same gone root what Orphan small
        ∙ sym (by-root (nat_eq n root) (list_any (nat_eq n) chain) (root_action cut (slice_get chain cut)) (if list_any (nat_eq n) (take cut chain) then Some action.Unuse else None) (mark_at before n) here)
      where
        by-root : (b c : Bool) (o p : Option Action) (m : PruneVerdict) → b ≡ true → (if b || c then verdict_of (if b then o else p) else m) ≡ verdict_of o
        by-root true c o p m e = refl
        by-root false c o p m e = absurd (cc)

    elsewhere : nat_eq n root ≡ false → get_or (set gone root what) n Orphan ≡ marked root chain cut n (mark_at before n)
    elsewhere off =
        get_or-else gone root n what (eqb-false n root off) ∙ g n
        ∙ by-take (nat_eq n root) (list_any (nat_eq n) (take cut chain)) (list_any (nat_eq n) chain) (root_action cut (slice_get chain cut)) (mark_at kept n) (mark_at before n) off (any-take n cut chain) (k n)
      where
        by-take : (b t c : Bool) (o : Option Action) (m d : PruneVerdict) → b ≡ false → (t ≡ true → c ≡ true) → m ≡ (if c then verdict_of None else d)
            → (if t then verdict_of (Some action.Unuse) else m) ≡ (if b || c then verdict_of (if b then o else (if t then Some action.Unuse else None)) else d)
        by-take true t c o m d off f e = absurd (cc)
        by-take false true true o m d off f e = refl
        by-take false true false o m d off f e = absurd (let x = f refl in cc)
        by-take false false true o m d off f e = e
        by-take false false false o m d off f e = e
