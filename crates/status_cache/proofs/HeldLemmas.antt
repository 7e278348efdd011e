-- What is held once an id was asked for.
use Rattle.std.proofs.Common.{◌≡◌, ◌≢◌, ℕ, ◌-◌, List, [], ◌∷◌, take, nat_eq, true, false, Option, Some, None, Result, Ok, Err, slice_get, refl, sym, ap, ◌∙◌, subst, inl, inr, arith}
use Rattle.std.proofs.lemmas.Bool.Decides.{nat_tests}
use Rattle.std.proofs.lemmas.Option.{same_Some}
use Rattle.std.specs.Prelude.{IsSome}
use Rattle.std.specs.Option.{option_map_or}
use Rattle.std.specs.Result.{OnOk, OnErr}
use Rattle.std.specs.Map.{lookup, lookup_entry, remove_entry}
use Rattle.lru.specs.LruCache.{LruCache, promoted, put_entries}
use Rattle.lru.proofs.CallerLemmas.{Contains-promoted, Contains-put_entries}
use Rattle.commit_status.specs.declared.status.Status.{Status}
use Rattle.commit_status.specs.declared.status.Status.TheVariants.{InProgress}
use Rattle.status_cache.specs.Held.{IsCached, IsStatusCache}
use Rattle.status_cache.specs.declared.cache.TheConstants.{MOST_STATUSES}

pub same-number : (x y : ℕ) → nat_eq x y ≡ true → x ≡ y
same-number x y is = grind (arith, nat_tests)

-- the entry of an id that is held
pub entry-found : (held : List (ℕ × Status)) (x : ℕ) (status : Status) → lookup (nat_eq x) held ≡ Some status → lookup_entry (nat_eq x) held ≡ Some (x, status)
entry-found [] x status h = cc
entry-found ((y, s) ∷ held) x status h = (elim (nat_eq x y) as (λ b. nat_eq x y ≡ b → lookup_entry (nat_eq x) ((y, s) ∷ held) ≡ Some (x, status)) [
  | true ↦ λ t. let h' = rw t at h in let one : s ≡ status = cc in let key : y ≡ x = sym (same-number x y t) in rw t (ap (λ (k : ℕ). Some (k, s)) key ∙ ap (λ (u : Status). Some (x, u)) one)
  | false ↦ λ t. rw t (entry-found held x status (rw t at h))
]) refl

pub entry-none : (held : List (ℕ × Status)) (x : ℕ) → lookup (nat_eq x) held ≡ None → lookup_entry (nat_eq x) held ≡ None
entry-none [] x h = refl
entry-none ((y, s) ∷ held) x h = (elim (nat_eq x y) as (λ b. nat_eq x y ≡ b → lookup_entry (nat_eq x) ((y, s) ∷ held) ≡ None) [
  | true ↦ λ t. absurd (let h' = rw t at h in cc)
  | false ↦ λ t. rw t (entry-none held x (rw t at h))
]) refl

pub promoted-found : (held : List (ℕ × Status)) (x : ℕ) (status : Status) → lookup (nat_eq x) held ≡ Some status → promoted (nat_eq x) held ≡ (x, status) ∷ remove_entry (nat_eq x) held
promoted-found held x status h = ap (λ (o : Option (ℕ × Status)). option_map_or (λ e. e ∷ remove_entry (nat_eq x) held) o held) (entry-found held x status h)

pub promoted-none : (held : List (ℕ × Status)) (x : ℕ) → lookup (nat_eq x) held ≡ None → promoted (nat_eq x) held ≡ held
promoted-none held x h = ap (λ (o : Option (ℕ × Status)). option_map_or (λ e. e ∷ remove_entry (nat_eq x) held) o held) (entry-none held x h)

pub held-found : (held : List (ℕ × Status)) (x : ℕ) (status : Status) → lookup (nat_eq x) held ≡ Some status → IsCached held x
held-found held x status h = subst IsSome (sym h) refl

-- an id that is first already
pub self-number : (x : ℕ) → nat_eq x x ≡ true
self-number x = grind (arith, nat_tests)

pub first-found : (held : List (ℕ × Status)) (x : ℕ) (status : Status) → Some (x, status) ≡ slice_get held 0 → lookup (nat_eq x) held ≡ Some status
first-found [] x status at = absurd (cc at)
first-found (e ∷ held) x status at =
    subst (λ (f : ℕ × Status). lookup (nat_eq x) (f ∷ held) ≡ Some status) (same_Some (x, status) e at) (rw (self-number x) refl)

pub first-promoted : (held : List (ℕ × Status)) (x : ℕ) (status : Status) → Some (x, status) ≡ slice_get held 0 → promoted (nat_eq x) held ≡ held
first-promoted [] x status at = absurd (cc at)
first-promoted (e ∷ held) x status at =
    subst (λ (f : ℕ × Status). promoted (nat_eq x) (f ∷ held) ≡ f ∷ held) (same_Some (x, status) e at) (rw (self-number x) refl)

not-some : (o : Option Status) → o ≡ None → ¬ IsSome o
not-some None e there = absurd (cc there)
not-some (Some s) e there = absurd (cc e)

pub held-none : (held : List (ℕ × Status)) (x : ℕ) → lookup (nat_eq x) held ≡ None → ¬ IsCached held x
held-none held x h = not-some (lookup (nat_eq x) held) h

some-or : (o : Option Status) → ¬ IsSome o → o ≡ None
some-or None h = refl
some-or (Some s) h = absurd (h refl)

-- what is put of an id that is not held
pub put-new : (c : LruCache ℕ Status) (x : ℕ) (status : Status) → c.cap ≡ MOST_STATUSES → ¬ IsCached c.entries x
    → put_entries nat_eq c x status ≡ (x, status) ∷ take (MOST_STATUSES - 1) c.entries
put-new c x status capacity absent =
    ap (λ (o : Option (ℕ × Status)). option_map_or (λ e. (e.0, status) ∷ remove_entry (nat_eq x) c.entries) o ((x, status) ∷ take (c.cap - 1) c.entries))
    (entry-none c.entries x (some-or (lookup (nat_eq x) c.entries) absent))
    ∙ ap (λ n. (x, status) ∷ take (n - 1) c.entries) capacity

pub put-ended : (c : LruCache ℕ Status) (x : ℕ) (status : Status) → status ≢ InProgress → IsStatusCache c.entries c.cap → IsStatusCache (put_entries nat_eq c x status) c.cap
put-ended c x status ended is = record {
  ended = λ e there. elim (Contains-put_entries nat_eq c x status e there) [
    | inl was ↦ is.ended e was
    | inr put ↦ λ active. ended (sym put.0 ∙ active)
  ];
  capacity_is = is.capacity_is;
}

pub promoted-ended : (held : List (ℕ × Status)) (capacity x : ℕ) → IsStatusCache held capacity → IsStatusCache (promoted (nat_eq x) held) capacity
promoted-ended held capacity x is = record {
  ended = λ e there. is.ended e (Contains-promoted (nat_eq x) held e there);
  capacity_is = is.capacity_is;
}

-- whether or not it was done
pub either-way : {A B : Type 0} (r : Result A B) {P Q : Type 0} (R : Type 0) → OnOk r P → OnErr r Q → (P → R) → (Q → R) → R
either-way (Ok a) R ok err f g = f ok
either-way (Err b) R ok err f g = g err
