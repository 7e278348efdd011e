-- Dead slots of a page become unused, one after another.
use Rattle.std.proofs.Common.{◌≡◌, ◌≢◌, ◌∙◌, ℕ, zero, suc, ◌+◌, ◌<◌, ◌≤◌, true, false, List, [], ◌∷◌, ◌++◌, length, map, take, get_or, Option, Some, sym, ap, refl, subst, ⊎_elim, arith}
use Rattle.std.specs.Prelude.{Contains, nat_eq}
use Rattle.std.specs.List.{AllPairs, list_any}
use Rattle.std.proofs.lemmas.Bool.{cases_Bool}
use Rattle.std.proofs.lemmas.List.{length_push, length-map, length-take-le, get_or-take, get_or_default, get_or-map, map_more, take-map, take_all}
use Rattle.std.proofs.lemmas.List.Elements.{Contains-append_left, Contains-push, Contains-push_cases}
use Rattle.xid_circle.specs.declared.Tid.{Tid}
use Rattle.page_sheet.specs.declared.slot.Slot.{Slot}
use Rattle.page_sheet.specs.declared.slot.Slot.TheVariants.{Unused, Dead}
use Rattle.page_sheet.specs.Slots.{slot_at, next_change}
use Rattle.page_slots.specs.View.{PageView}
use Rattle.hot_chain.proofs.Chains.{contains-any, any-contains}
use Rattle.prune.specs.Actions.{raised}
use Rattle.heap_write.specs.Cleaning.{FreesSlots}

-- One slot.

only : (n k : ℕ) → Contains (n ∷ []) k → n ≡ k
only n k (zero, lt, e) = e
only n k (suc i, lt, e) = absurd (omega (arith, lt))

itself : (n k : ℕ) → n ≡ k → Contains (n ∷ []) k
itself n k e = (0, omega arith, e)

-- One more.

unused-alive : (o : Option Slot) → o ≡ Some Unused → o ≢ Some Dead
unused-alive o unused dead = let e : Some Unused ≡ Some Dead = sym unused ∙ dead in cc

module _ (a b c : List Slot) (ns : List ℕ) (n : ℕ) (f : FreesSlots a b ns) (g : FreesSlots b c (n ∷ [])) where
  -- a slot that was named before
  before : (k : ℕ) → Contains ns k → slot_at a k ≡ Some Dead → slot_at c k ≡ Some Unused
  before k mine dead =
      let unused = f.freed k mine dead in
      g.others k (λ also. unused-alive (slot_at b k) unused) ∙ unused

  -- this one
  here : (k : ℕ) → n ≡ k → slot_at a k ≡ Some Dead → slot_at c k ≡ Some Unused
  here k same dead = ⊎_elim
      (λ named. before k (any-contains k ns named) dead)
      (λ off. g.freed k (itself n k same) (f.others k (λ mine. absurd (let e : true ≡ false = sym (contains-any k ns mine) ∙ off in cc)) ∙ dead))
      (cases_Bool (list_any (nat_eq k) ns))

  spare : (k : ℕ) → (Contains (ns ++ n ∷ []) k → slot_at a k ≢ Some Dead) → slot_at c k ≡ slot_at a k
  spare k spared =
      let same : slot_at b k ≡ slot_at a k = f.others k (λ mine. spared (Contains-append_left ns (n ∷ []) k mine)) in
      g.others k (λ also dead. spared (subst (Contains (ns ++ n ∷ [])) (only n k also) (Contains-push ns n)) (sym same ∙ dead)) ∙ same

  pub frees-more : FreesSlots a c (ns ++ n ∷ [])
  frees-more = record {
    count = g.count ∙ f.count;
    freed = λ k named dead. ⊎_elim (λ mine. before k mine dead) (λ same. here k same dead) (Contains-push_cases ns n k named);
    others = spare;
  }

  -- where each is dead, and named once, each raises the change number
  pub raises-more : (x y z : ℕ) → ¬ Contains ns n → (((k : ℕ) → Contains ns k → slot_at a k ≡ Some Dead) → y ≡ raised (length ns) x) → (slot_at b n ≡ Some Dead → z ≡ next_change y)
      → ((k : ℕ) → Contains (ns ++ n ∷ []) k → slot_at a k ≡ Some Dead) → z ≡ raised (length (ns ++ n ∷ [])) x
  raises-more x y z fresh earlier last dead =
      let was = f.others n (λ mine. absurd (fresh mine)) ∙ dead n (Contains-push ns n) in
      last was ∙ ap next_change (earlier (λ k mine. dead k (Contains-append_left ns (n ∷ []) k mine))) ∙ raised-more (length ns) x ∙ ap (λ m. raised m x) (long ns n)
    where
      raised-more : (k x : ℕ) → next_change (raised k x) ≡ raised (suc k) x
      raised-more zero x = refl
      raised-more (suc k) x = raised-more k (next_change x)

      long : (ns : List ℕ) (n : ℕ) → suc (length ns) ≡ length (ns ++ n ∷ [])
      long ns n = let e = length_push ns n in omega arith

-- a number of an ascending list is not among those before it
pub ascending-fresh : (xs : List ℕ) (i : ℕ) → AllPairs (λ a b. a < b) xs → i < length xs → ¬ Contains (take i xs) (get_or xs i 0)
ascending-fresh xs i up within (j, lt, e) =
    let x = get_or xs i 0 in
    let long : length (take i xs) ≡ i = length-take-le i xs (omega (arith, within)) in
    let below : j < i = omega (arith, lt, long) in
    let less = up j i x below within in
    let same : get_or xs j x ≡ x = sym (get_or-take i xs j x below) ∙ e in
    let last : get_or xs i x ≡ x = get_or_default xs i x 0 within in
    absurd (omega (arith, less, same, last))

-- Some of the slots of these numbers that were dead are unused, and nothing else has changed.
pub record HasFreed (old page : PageView) (ns : List ℕ) : Type 0 where
  pub slots : FreesSlots old.slots page.slots ns
  pub change : ((n : ℕ) → Contains ns n → slot_at old.slots n ≡ Some Dead) → page.change ≡ raised (length ns) old.change
  pub flag : page.flag ≡ old.flag

pub freed-none : (page : PageView) → HasFreed page page []
freed-none page = record {
  slots = record { count = refl; freed = λ k (i, lt, e) dead. absurd (omega (arith, lt)); others = λ k spared. refl };
  change = λ dead. refl;
  flag = refl;
}

pub freed-more : (old page next : PageView) (xs : List ℕ) (i : ℕ) → AllPairs (λ a b. a < b) xs → i < length xs → HasFreed old page (take i xs)
    → FreesSlots page.slots next.slots (get_or xs i 0 ∷ []) → (slot_at page.slots (get_or xs i 0) ≡ Some Dead → next.change ≡ next_change page.change) → next.flag ≡ page.flag
    → HasFreed old next (take i xs ++ get_or xs i 0 ∷ [])
freed-more old page next xs i up within before slots change flag = record {
  slots = frees-more old.slots page.slots next.slots (take i xs) (get_or xs i 0) before.slots slots;
  change = raises-more old.slots page.slots next.slots (take i xs) (get_or xs i 0) before.slots slots old.change page.change next.change (ascending-fresh xs i up within) before.change change;
  flag = flag ∙ before.flag;
}

-- the numbers of the first of these places
pub freed-next : (old page next : PageView) (places : List Tid) (i : ℕ) (d : Tid) → AllPairs (λ a b. a < b) (map (λ (tid : Tid). tid.slot) places) → i < length places
    → HasFreed old page (map (λ (tid : Tid). tid.slot) (take i places)) → FreesSlots page.slots next.slots ((get_or places i d).slot ∷ [])
    → (slot_at page.slots (get_or places i d).slot ≡ Some Dead → next.change ≡ next_change page.change) → next.flag ≡ page.flag
    → HasFreed old next (map (λ (tid : Tid). tid.slot) (take (i + 1) places))
freed-next old page next places i d up within before slots change flag =
    let slot_of : Tid → ℕ = λ (tid : Tid). tid.slot in
    let xs = map slot_of places in
    let here : get_or xs i 0 ≡ (get_or places i d).slot = get_or-map slot_of places i d 0 within in
    let earlier : map slot_of (take i places) ≡ take i xs = sym (take-map slot_of i places) in
    let long = length-map places slot_of in
    subst (HasFreed old next) (sym (map_more slot_of places i d within))
    (subst (λ ns. HasFreed old next (ns ++ (get_or places i d).slot ∷ [])) (sym earlier)
    (subst (λ n. HasFreed old next (take i xs ++ n ∷ [])) here
    (freed-more old page next xs i up (omega (arith, within, long)) (subst (HasFreed old page) earlier before)
    (subst (λ n. FreesSlots page.slots next.slots (n ∷ [])) (sym here) slots)
    (subst (λ n. slot_at page.slots n ≡ Some Dead → next.change ≡ next_change page.change) (sym here) change)
    flag)))

-- at the end of the list
pub freed-all : (old page : PageView) (places : List Tid) (i : ℕ) → length places ≤ i → HasFreed old page (map (λ (tid : Tid). tid.slot) (take i places))
    → HasFreed old page (map (λ (tid : Tid). tid.slot) places)
freed-all old page places i past before = subst (λ (ps : List Tid). HasFreed old page (map (λ (tid : Tid). tid.slot) ps)) (take_all i places past) before
