-- Lists concatenated: where an entry of a list stands among all.
use Rattle.std.proofs.Common.{◌≡◌, ◌∙◌, ℕ, zero, suc, ◌+◌, ◌-◌, ◌<◌, ◌≤◌, pos, inl, inr, List, [], ◌∷◌, ◌++◌, length, take, get_or, true, false, Some, None, slice_get, sym, ap, refl, subst, arith}
use Rattle.std.specs.Ordering.{is_lt, ordering_reverse}
use Rattle.std.specs.declared.cmp.Ordering.{Ordering}
use Rattle.std.specs.declared.cmp.Ordering.TheVariants.{Less, Equal, Greater}
use Rattle.std.proofs.lemmas.Bool.{cases_lt}
use Rattle.std.proofs.lemmas.List.{get_or_default, take_more, take_all, length-append, append-nil}
use Rattle.std.proofs.lemmas.List.Concat.{flat_map-append, get_or-flat_map}
use Rattle.std.proofs.lemmas.List.Folds.{length-flat_map-take}
use Rattle.std.proofs.lemmas.Option.{slice_get-get_or, slice_get_within, slice_get_past, get_or_from_slice_get}
use Rattle.index_entries.specs.declared.entry.Entry.{Entry}
use Rattle.index_entries.specs.Order.{comparison, EntryPrecedes, IsAscending}
use Rattle.index_entries.specs.Sets.{IsAt, IsGapFor}
use Rattle.index_entries.specs.Lists.{concatenated, list_of, rank, begins_after, EntryPlace, IsLastBetween}
use Rattle.dead_places.proofs.PlaceLemmas.{less_from_test}
use Rattle.index_entries.proofs.OrderLemmas.{comparison_total, Precedes-trans, same-from_tied}
use Rattle.index_entries.proofs.SetLemmas.{ascending-at, lowest, same_place, none_there}

-- How lists stand, and places in them.

-- no list is empty
abbrev pub IsFilled : List (List Entry) → Type 0
IsFilled lists = (i : ℕ) → i < length lists → 0 < length (list_of lists i)

-- ascending from list to list, none empty
pub record IsTidy (lists : List (List Entry)) : Type 0 where
  pub ascending : IsAscending (concatenated lists)
  pub filled : IsFilled lists

-- in a list, or right after its last entry; the very first place, where there is no list
pub record IsPlaceIn (lists : List (List Entry)) (place : EntryPlace) : Type 0 where
  pub list : 0 < length lists → place.list < length lists
  pub entry : place.entry ≤ length (list_of lists place.list)

-- an entry stands at the place, this one
pub record IsFoundAt (lists : List (List Entry)) (sought : Entry) (place : EntryPlace) : Type 0 where
  pub list : place.list < length lists
  pub entry : place.entry < length (list_of lists place.list)
  pub at : IsAt (concatenated lists) sought (rank lists place)

-- the entry is not there, and would stand at this place
pub record IsAbsentAt (lists : List (List Entry)) (sought : Entry) (place : EntryPlace) : Type 0 where
  pub in_range : IsPlaceIn lists place
  pub gap : IsGapFor (concatenated lists) sought (rank lists place)

-- where the entries of a list begin among all
abbrev pub start : List (List Entry) → ℕ → ℕ
start ls i = length (concatenated (take i ls))

pub start_next : (ls : List (List Entry)) (i : ℕ) → i < length ls → start ls (i + 1) ≡ start ls i + length (list_of ls i)
start_next ls i within =
    ap (λ xs. length (concatenated xs)) (take_more ls i [] within)
    ∙ ap length (flat_map-append (λ l. l) (take i ls) (list_of ls i ∷ []))
    ∙ length-append (concatenated (take i ls)) (list_of ls i ++ [])
    ∙ ap (λ l. start ls i + length l) (append-nil (list_of ls i))

pub start_end : (ls : List (List Entry)) (i : ℕ) → length ls ≤ i → start ls i ≡ length (concatenated ls)
start_end ls i past = ap (λ xs. length (concatenated xs)) (take_all i ls past)

pub start_within : (ls : List (List Entry)) (i : ℕ) → i < length ls → start ls i + length (list_of ls i) ≤ length (concatenated ls)
start_within ls i within = length-flat_map-take (λ l. l) ls i [] within

pub joined_get : (ls : List (List Entry)) (i j : ℕ) → i < length ls → j < length (list_of ls i)
    → slice_get (concatenated ls) (start ls i + j) ≡ slice_get (list_of ls i) j
joined_get ls i j within inside =
    let d = lowest (pos 0) 0 in
    let low = start_within ls i within in
    slice_get-get_or (concatenated ls) (start ls i + j) d (omega arith)
    ∙ ap Some (get_or-flat_map (λ l. l) ls i j [] d within inside)
    ∙ sym (slice_get-get_or (list_of ls i) j d inside)

first_joined : (ls : List (List Entry)) (i : ℕ) (f : Entry) → i < length ls → slice_get (list_of ls i) 0 ≡ Some f → slice_get (concatenated ls) (start ls i) ≡ Some f
first_joined ls i f within at =
    let is : start ls i ≡ start ls i + 0 = omega arith in
    ap (slice_get (concatenated ls)) is ∙ joined_get ls i 0 within (slice_get_within (list_of ls i) 0 f at) ∙ at

pub in_list : (ls : List (List Entry)) (i k : ℕ) (e : Entry) → i < length ls → start ls i ≤ k → k < start ls i + length (list_of ls i)
    → slice_get (concatenated ls) k ≡ Some e → slice_get (list_of ls i) (k - start ls i) ≡ Some e
in_list ls i k e within low high at =
    let is : start ls i + (k - start ls i) ≡ k = omega arith in
    sym (joined_get ls i (k - start ls i) within (omega arith)) ∙ ap (slice_get (concatenated ls)) is ∙ at

-- The entries before a list that doesn't begin after the sought one precede it, and it precedes those from the next list on.

head_is : (x : Entry) (l : List Entry) → 0 < length l → (f : Entry) × ((slice_get l 0 ≡ Some f) × (begins_after x l ≡ is_lt (comparison x f)))
head_is x [] some = absurd (omega arith)
head_is x (f ∷ rest) some = (f, (refl, refl))

before_by_case : (a f x : Entry) (o : Ordering) → comparison x f ≡ o → EntryPrecedes a f → is_lt o ≡ false → EntryPrecedes a x
before_by_case a f x Less e h less = absurd (cc less)
before_by_case a f x Equal e h less = subst (λ y. EntryPrecedes a y) (sym (same-from_tied x f e)) h
before_by_case a f x Greater e h less = Precedes-trans a f x h (comparison_total.antisymm f x ∙ ap ordering_reverse e)

before_list : (ls : List (List Entry)) (x : Entry) (i k : ℕ) (e : Entry) → IsTidy ls → i < length ls → (0 < i → begins_after x (list_of ls i) ≡ false)
    → k < start ls i → slice_get (concatenated ls) k ≡ Some e → EntryPrecedes e x
before_list ls x zero k e tidy within below lt at = absurd (omega arith)
before_list ls x (suc i) k e tidy within below lt at =
    let head = head_is x (list_of ls (suc i)) (tidy.filled (suc i) within) in
    let there = first_joined ls (suc i) head.0 within head.1.0 in
    before_by_case e head.0 x (comparison x head.0) refl
    (ascending-at (concatenated ls) k (start ls (suc i)) e head.0 tidy.ascending lt at there) (sym head.1.1 ∙ below (omega arith))

after_list : (ls : List (List Entry)) (x : Entry) (i k : ℕ) (e : Entry) → IsTidy ls → i < length ls → (i + 1 < length ls → begins_after x (list_of ls (i + 1)) ≡ true)
    → start ls i + length (list_of ls i) ≤ k → slice_get (concatenated ls) k ≡ Some e → EntryPrecedes x e
after_list ls x i k e tidy within above le at =
    let next = start_next ls i within in
    let inside = slice_get_within (concatenated ls) k e at in
    elim (cases_lt (i + 1) (length ls)) [
      | inl more ↦
          let head = head_is x (list_of ls (i + 1)) (tidy.filled (i + 1) more) in
          let there = first_joined ls (i + 1) head.0 more head.1.0 in
          let first : EntryPrecedes x head.0 = less_from_test (comparison x head.0) (sym head.1.1 ∙ above more) in
          elim (cases_lt (start ls (i + 1)) k) [
            | inl later ↦ Precedes-trans x head.0 e first (ascending-at (concatenated ls) (start ls (i + 1)) k head.0 e tidy.ascending later there at)
            | inr same ↦ subst (λ y. EntryPrecedes x y) (sym (same_place (concatenated ls) k (start ls (i + 1)) e head.0 (omega arith) at there)) first
          ]
      | inr last ↦ let end = start_end ls (i + 1) last in absurd (omega arith)
    ]

-- What a search in the list finds.

gap_joined : (ls : List (List Entry)) (x : Entry) (i j : ℕ) → IsTidy ls → IsLastBetween ls x i (i + 1) → IsGapFor (list_of ls i) x j → IsGapFor (concatenated ls) x (start ls i + j)
gap_joined ls x i j tidy between gap =
    let within : i < length ls = omega (arith, between.in_range) in
    let fits = start_within ls i within in
    let short = gap.in_range in
    record {
      in_range = omega arith;
      before = λ k e lt at. elim (cases_lt k (start ls i)) [
        | inl early ↦ before_list ls x i k e tidy within between.below early at
        | inr late ↦ gap.before (k - start ls i) e (omega arith) (in_list ls i k e within late (omega arith) at)
      ];
      after = λ k e le at. elim (cases_lt k (start ls i + length (list_of ls i))) [
        | inl early ↦ gap.after (k - start ls i) e (omega arith) (in_list ls i k e within (omega arith) early at)
        | inr late ↦ after_list ls x i k e tidy within between.above late at
      ];
    }

pub absent_joined : (ls : List (List Entry)) (x : Entry) (p : EntryPlace) → IsTidy ls → IsLastBetween ls x p.list (p.list + 1) → IsGapFor (list_of ls p.list) x p.entry → IsAbsentAt ls x p
absent_joined ls x p tidy between gap = record {
  in_range = record { list = λ some. omega (arith, between.in_range); entry = gap.in_range };
  gap = gap_joined ls x p.list p.entry tidy between gap;
}

pub found_joined : (ls : List (List Entry)) (x : Entry) (p : EntryPlace) → p.list < length ls → IsAt (list_of ls p.list) x p.entry → IsFoundAt ls x p
found_joined ls x p within at =
    let inside = slice_get_within (list_of ls p.list) p.entry x at in
    record { list = within; entry = inside; at = joined_get ls p.list p.entry within inside ∙ at }

-- Where the entries begin that a look-up asks for.

-- The entry at a place: in its list, or the first of the next, or none.

list_is : (ls : List (List Entry)) (i : ℕ) (l : List Entry) → slice_get ls i ≡ Some l → list_of ls i ≡ l
list_is ls i l at = get_or_from_slice_get ls i l [] at

pub entry_in_list : (ls : List (List Entry)) (p : EntryPlace) (l : List Entry) (e : Entry) → slice_get ls p.list ≡ Some l → slice_get l p.entry ≡ Some e
    → slice_get (concatenated ls) (rank ls p) ≡ Some e
entry_in_list ls p l e at in_l =
    let there : slice_get (list_of ls p.list) p.entry ≡ Some e = ap (λ m. slice_get m p.entry) (list_is ls p.list l at) ∙ in_l in
    joined_get ls p.list p.entry (slice_get_within ls p.list l at) (slice_get_within (list_of ls p.list) p.entry e there) ∙ there

pub behind_list : (ls : List (List Entry)) (p : EntryPlace) (l : List Entry) → IsPlaceIn ls p → slice_get ls p.list ≡ Some l → slice_get l p.entry ≡ None
    → rank ls p ≡ start ls (p.list + 1)
behind_list ls p l in_range at none =
    let within = slice_get_within ls p.list l at in
    let next = start_next ls p.list within in
    let long = none_there l p.entry none in
    let size : length (list_of ls p.list) ≡ length l = ap length (list_is ls p.list l at) in
    let short = in_range.entry in
    omega arith

pub entry_in_next : (ls : List (List Entry)) (p : EntryPlace) (l m : List Entry) → IsFilled ls → IsPlaceIn ls p → slice_get ls p.list ≡ Some l → slice_get l p.entry ≡ None
    → slice_get ls (p.list + 1) ≡ Some m → slice_get (concatenated ls) (rank ls p) ≡ slice_get m 0
entry_in_next ls p l m filled in_range at none next =
    let within = slice_get_within ls (p.list + 1) m next in
    let is : rank ls p ≡ start ls (p.list + 1) + 0 = behind_list ls p l in_range at none ∙ omega arith in
    ap (slice_get (concatenated ls)) is ∙ joined_get ls (p.list + 1) 0 within (filled (p.list + 1) within) ∙ ap (λ k. slice_get k 0) (list_is ls (p.list + 1) m next)

pub none_behind : (ls : List (List Entry)) (p : EntryPlace) (l : List Entry) → IsPlaceIn ls p → slice_get ls p.list ≡ Some l → slice_get l p.entry ≡ None
    → slice_get ls (p.list + 1) ≡ None → slice_get (concatenated ls) (rank ls p) ≡ None
none_behind ls p l in_range at none last =
    let end = start_end ls (p.list + 1) (none_there ls (p.list + 1) last) in
    let is = behind_list ls p l in_range at none in
    slice_get_past (concatenated ls) (rank ls p) (omega arith)

-- Each list is ascending.

pub ascending_list : (ls : List (List Entry)) (i : ℕ) → i < length ls → IsAscending (concatenated ls) → IsAscending (list_of ls i)
ascending_list ls i within up j k d lt inside =
    let fits = start_within ls i within in
    let low = get_or-flat_map (λ l. l) ls i j [] d within (omega arith) in
    let high = get_or-flat_map (λ l. l) ls i k [] d within inside in
    subst (λ y. EntryPrecedes y (get_or (list_of ls i) k d)) low
    (subst (λ y. EntryPrecedes (get_or (concatenated ls) (start ls i + j) d) y) high (up (start ls i + j) (start ls i + k) d (omega arith) (omega arith)))

-- The count of the entries of the lists so far and the next fits.

pub count_fits : (ls : List (List Entry)) (i count n limit : ℕ) (l : List Entry) → i < length ls → count ≡ start ls i → l ≡ get_or ls i l → n ≡ length l
    → length (concatenated ls) < limit → count + n < limit
count_fits ls i count n limit l within so_far is size fits =
    let whole = start_within ls i within in
    let same : length l ≡ length (list_of ls i) = ap length (is ∙ get_or_default ls i l [] within) in
    omega arith
