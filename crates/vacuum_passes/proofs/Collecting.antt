-- The dead slots of a page are collected, one after another.
use Rattle.std.proofs.Common.{◌≡◌, ℕ, ◌+◌, ◌-◌, ◌<◌, ◌≤◌, nat_lt, true, false, List, [], ◌∷◌, ◌++◌, length, take, get_or, arith, sym, ap, ◌∙◌, subst, ⊎_elim, Contains, length-append, append-nil, append_assoc}
use Rattle.std.specs.List.{All, AllPairs}
use Rattle.std.proofs.lemmas.Bool.{lt-ltb, le-ltb}
use Rattle.std.proofs.lemmas.List.{length-map, length-take-le, get_or-take, get_or_default, map_more, take_all}
use Rattle.std.proofs.lemmas.List.Elements.{Contains-append_cases}
use Rattle.xid_circle.specs.declared.Tid.{Tid}
use Rattle.dead_places.specs.Places.{PlacePrecedes}
use Rattle.vacuum_passes.specs.View.{places}
use Rattle.vacuum_passes.proofs.ListLemmas.{all-from, in-mapped}
use Rattle.vacuum_passes.proofs.VacuumLemmas.{lower-page, lower-slot}

-- the first i of them are
pub record IsCollecting (old now : List Tid) (dead : List ℕ) (p limit i : ℕ) : Type 0 where
  pub store : now ≡ old ++ places p (take i dead)
  pub few : length now ≤ limit

-- a number of an ascending list is greater than those before it
before-next : (xs : List ℕ) (i m : ℕ) → AllPairs (λ a b. a < b) xs → i < length xs → Contains (take i xs) m → m < get_or xs i 0
before-next xs i m up within (j, lt, e) =
    let long : length (take i xs) ≡ i = length-take-le i xs (omega (arith, within)) in
    let below : j < i = omega (arith, lt, long) in
    let here : get_or xs j m ≡ m = sym (get_or-take i xs j m below) ∙ e in
    let there : get_or xs i m ≡ get_or xs i 0 = get_or_default xs i m 0 within in
    let less = up j i m below within in
    omega (arith, less, here, there)

module _ (old now : List Tid) (dead : List ℕ) (p limit i : ℕ) (c : IsCollecting old now dead p limit i) where
  now-length : i ≤ length dead → length now ≡ length old + i
  now-length within =
      let taken : length (take i dead) ≡ i = length-take-le i dead within in
      ap (λ (xs : List Tid). length xs) c.store ∙ length-append old (places p (take i dead))
      ∙ ap (λ k. length old + k) (length-map (take i dead) (λ n. record { page = p; slot = n }) ∙ taken)

  pub all-before : AllPairs (λ a b. a < b) dead → i < length dead → ((tid : Tid) → Contains old tid → tid.page < p)
      → All (λ tid. PlacePrecedes tid (record { page = p; slot = get_or dead i 0 })) now
  all-before up within below = all-from (λ tid. PlacePrecedes tid next) now (λ tid there. ⊎_elim
      (λ first. lower-page tid next (below tid first))
      (λ later.
      let m = in-mapped (λ k. record { page = p; slot = k }) (take i dead) tid later in
      subst (λ t. PlacePrecedes t next) m.2 (lower-slot p m.0 (get_or dead i 0) (before-next dead i m.0 up within m.1)))
      (Contains-append_cases old (places p (take i dead)) tid (subst (λ (xs : List Tid). Contains xs tid) c.store there)))
    where
      next : Tid
      next = record { page = p; slot = get_or dead i 0 }

  pub collecting-next : (now' : List Tid) → i < length dead → length now < limit → now' ≡ now ++ (record { page = p; slot = get_or dead i 0 }) ∷ []
      → IsCollecting old now' dead p limit (i + 1)
  collecting-next now' within space is = record {
    store = is ∙ ap (λ (xs : List Tid). xs ++ (record { page = p; slot = get_or dead i 0 }) ∷ []) c.store
        ∙ append_assoc old (places p (take i dead)) ((record { page = p; slot = get_or dead i 0 }) ∷ [])
        ∙ ap (λ (xs : List Tid). old ++ xs) (sym (map_more (λ n. record { page = p; slot = n }) dead i 0 within));
    few = (let e : length now' ≡ length now + 1 = ap (λ (xs : List Tid). length xs) is ∙ length-append now ((record { page = p; slot = get_or dead i 0 }) ∷ []) in omega (arith, e, space));
  }

  full : i < length dead → limit ≤ length now → limit - length old ≡ i
  full within over = let long = now-length (omega (arith, within)) in let few = c.few in omega (arith, long, few, over)

  pub over-store : i < length dead → limit ≤ length now → now ≡ old ++ places p (take (limit - length old) dead)
  over-store within over = c.store ∙ ap (λ k. old ++ places p (take k dead)) (sym (full within over))

  pub over-left : i < length dead → limit ≤ length now → true ≡ nat_lt (limit - length old) (length dead)
  over-left within over = let e = full within over in sym (lt-ltb (limit - length old) (length dead) (omega (arith, e, within)))

  all-taken : length dead ≤ i → now ≡ old ++ places p dead
  all-taken past = c.store ∙ ap (λ (ns : List ℕ). old ++ places p ns) (take_all i dead past)

  all-length : length dead ≤ i → length now ≡ length old + length dead
  all-length past = ap (λ (xs : List Tid). length xs) (all-taken past) ∙ length-append old (places p dead)
      ∙ ap (λ k. length old + k) (length-map dead (λ n. record { page = p; slot = n }))

  pub all-store : length dead ≤ i → now ≡ old ++ places p (take (limit - length old) dead)
  all-store past =
      let long = all-length past in
      let few = c.few in
      all-taken past ∙ ap (λ (ns : List ℕ). old ++ places p ns) (sym (take_all (limit - length old) dead (omega (arith, long, few))))

  pub all-left : length dead ≤ i → false ≡ nat_lt (limit - length old) (length dead)
  all-left past =
      let long = all-length past in
      let few = c.few in
      sym (le-ltb (limit - length old) (length dead) (omega (arith, long, few)))

pub collecting-none : (old : List Tid) (dead : List ℕ) (p limit : ℕ) → length old ≤ limit → IsCollecting old old dead p limit 0
collecting-none old dead p limit few = record { store = sym (append-nil old); few = few }
