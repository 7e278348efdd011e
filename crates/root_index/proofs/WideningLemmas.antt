-- Entries that move from a narrow index to another, one after the other.
use Rattle.std.proofs.Common.{◌≡◌, ◌∙◌, ℕ, zero, suc, ◌+◌, ◌<◌, ◌≤◌, ◌⊎◌, ◌↔◌, max, length, take, get_or, Result, Ok, Err, OnOk, OnErr, inl, inr, ⊎_elim, List, [], ◌∷◌, Bool, true, false, Some, slice_get, sym, subst, arith, Contains}
use Rattle.std.specs.Prelude.{FitsSigned}
use Rattle.std.specs.Int.{w32}
use Rattle.std.proofs.lemmas.Bool.{cases_lt}
use Rattle.std.proofs.lemmas.List.{length-take-le, get_or-take}
use Rattle.std.proofs.lemmas.Option.{slice_get_within}
use Rattle.xid_circle.proofs.Members.{Contains-first, Contains-rest, Contains-cases, Contains-none, Contains-one}
use Rattle.index_entries.specs.declared.entry.Entry.{Entry}
use Rattle.index_entries.specs.Order.{EntryPrecedes, IsAscending}
use Rattle.index_entries.specs.Sets.{AddsEntry}
use Rattle.index_entries.proofs.OrderLemmas.{determined}
use Rattle.entry_columns.specs.Fits.{Fits}
use Rattle.root_index.specs.View.{IndexView, room_in, free_places}
use Rattle.root_index.specs.Widening.{IsReadyToWiden}

-- What can be in a narrow index can be in any other by a column.

pub fits-any : (e : Entry) (is_by_key is_narrow : Bool) → is_by_key ≡ false → is_narrow ≡ true → Fits is_by_key is_narrow e → Fits false false e
fits-any e is_by_key is_narrow column narrow fits =
    let here : Fits false true e = subst (λ b. Fits false b e) narrow (subst (λ b. Fits b is_narrow e) column fits) in
    let value : FitsSigned w32 e.value = here.0.0 in
    (omega (arith, value), here.1)

pub fit-after : {A E : Type 0} (r : Result A E) (old new : List Entry) (x : Entry) → OnOk r (AddsEntry old new x) → OnErr r (new ≡ old) → Fits false false x
    → ((e : Entry) → Contains old e → Fits false false e) → (e : Entry) → Contains new e → Fits false false e
fit-after (Ok u) old new x adds same fits fit e there = ⊎_elim (λ was. fit e was) (λ is. subst (Fits false false) (sym is) fits) ((adds.members e).0 there)
fit-after (Err u) old new x adds same fits fit e there = fit e (subst (λ xs. Contains xs e) same there)

-- Room in memory.

pub spare-for_room : (v : IndexView) → v.entries ≡ [] → 0 < room_in v → 0 < v.spare
spare-for_room v = by v.entries v.spare
  where
    by : (entries : List Entry) (spare : ℕ) → entries ≡ [] → 0 < max spare (free_places (length entries) spare) → 0 < spare
    by [] zero none room = room
    by [] (suc spare) none room = omega arith
    by (x ∷ xs) spare none room = absurd (cc none)

-- fewer than 128 entries have room where they can move
pub room-ready : (narrow wide : IndexView) → IsReadyToWiden narrow wide → 0 < length narrow.entries + narrow.spare → 128 ≤ room_in wide
room-ready narrow wide ready some = by wide.entries wide.spare ready.none (ready.ready some)
  where
    by : (entries : List Entry) (spare : ℕ) → entries ≡ [] → 0 < spare → 128 ≤ max spare (free_places (length entries) spare)
    by [] zero none more = absurd (omega (arith, more))
    by [] (suc spare) none more = omega arith
    by (x ∷ xs) spare none more = absurd (cc none)

-- what is free in a narrow index is free in the one to which its entries moved
pub room-moved : (old wide : IndexView) (room : ℕ) → (length old.entries < 128 → 0 < length old.entries + old.spare → 128 ≤ room) → room ≤ room_in wide + length old.entries
    → free_places (length old.entries) old.spare ≤ room_in wide
room-moved old wide room ready moved = by (length old.entries) old.spare ready moved
  where
    by : (n spare : ℕ) → (n < 128 → 0 < n + spare → 128 ≤ room) → room ≤ room_in wide + n → free_places n spare ≤ room_in wide
    by zero zero ready moved = omega arith
    by zero (suc spare) ready moved = let most = ready (omega arith) (omega arith) in omega (arith, most, moved)
    by (suc n) spare ready moved = elim (cases_lt (suc n) 128) [
      | inl few ↦ let most = ready few (omega arith) in omega (arith, most, moved)
      | inr many ↦ omega (arith, many)
    ]

-- One more of the first entries.

ascending-take : (xs : List Entry) (n : ℕ) → n ≤ length xs → IsAscending xs → IsAscending (take n xs)
ascending-take xs n some up = λ i j d lt within.
    let long : length (take n xs) ≡ n = length-take-le n xs some in
    let front : j < n = omega (arith, within, long) in
    subst (λ x. EntryPrecedes x (get_or (take n xs) j d)) (sym (get_or-take n xs i d (omega (arith, lt, front))))
    (subst (λ y. EntryPrecedes (get_or xs i d) y) (sym (get_or-take n xs j d front)) (up i j d lt (omega (arith, front, some))))

among-more : (xs : List Entry) (i : ℕ) (x e : Entry) → slice_get xs i ≡ Some x → (Contains (take i xs) e ⊎ (e ≡ x)) ↔ Contains (take (suc i) xs) e
among-more [] i x e at = absurd (cc at)
among-more (y ∷ ys) zero x e at =
    let same : y ≡ x = cc at in (
      λ h. elim h [
        | inl there ↦ absurd (Contains-none e there)
        | inr is ↦ subst (λ z. Contains (y ∷ []) z) (same ∙ sym is) (Contains-first y [])
      ],
      λ there. inr (sym (Contains-one y e there) ∙ same),
    )
among-more (y ∷ ys) (suc i) x e at =
    let rest = among-more ys i x e at in (
      λ h. elim h [
        | inl there ↦ ⊎_elim
            (λ first. subst (λ z. Contains (y ∷ take (suc i) ys) z) first (Contains-first y (take (suc i) ys)))
            (λ later. Contains-rest y e (take (suc i) ys) (rest.0 (inl later)))
            (Contains-cases y e (take i ys) there)
        | inr is ↦ Contains-rest y e (take (suc i) ys) (rest.0 (inr is))
      ],
      λ there. ⊎_elim
          (λ first. inl (subst (λ z. Contains (y ∷ take i ys) z) first (Contains-first y (take i ys))))
          (λ later. ⊎_elim (λ was. inl (Contains-rest y e (take i ys) was)) (λ is. inr is) (rest.1 later))
          (Contains-cases y e (take (suc i) ys) there),
    )

pub copied-more : (xs to new : List Entry) (i : ℕ) (x : Entry) → IsAscending xs → slice_get xs i ≡ Some x → to ≡ take i xs → AddsEntry to new x → new ≡ take (i + 1) xs
copied-more xs to new i x up at copied adds =
    let one : suc i ≡ i + 1 = omega arith in
    determined new (take (i + 1) xs) adds.ascending (ascending-take xs (i + 1) (let within = slice_get_within xs i x at in omega (arith, within)) up) (λ e.
    let more = subst (λ n. (Contains (take i xs) e ⊎ (e ≡ x)) ↔ Contains (take n xs) e) one (among-more xs i x e at) in (
      λ there. ⊎_elim (λ was. more.0 (inl (subst (λ ys. Contains ys e) copied was))) (λ is. more.0 (inr is)) ((adds.members e).0 there),
      λ there. ⊎_elim (λ was. (adds.members e).1 (inl (subst (λ ys. Contains ys e) (sym copied) was))) (λ is. (adds.members e).1 (inr is)) (more.1 there),
    ))
