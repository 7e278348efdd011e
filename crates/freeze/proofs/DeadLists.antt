-- The dead slots of a page are listed, one after another.
use Rattle.std.proofs.Common.{◌≡◌, ◌≢◌, ℕ, zero, suc, ◌+◌, ◌-◌, ◌<◌, ◌≤◌, List, [], ◌∷◌, ◌++◌, length, drop, get_or, Option, Some, None, if◌then◌else◌, arith, refl, sym, ap, ◌∙◌, subst, ⊎_elim, Contains, slice_get, length-append, append-nil, append_assoc}
use Rattle.std.specs.Option.{option_map}
use Rattle.std.specs.List.{All, AllPairs}
use Rattle.std.proofs.Math.Seq.{drop-cons}
use Rattle.std.proofs.lemmas.List.{drop_all}
use Rattle.std.proofs.lemmas.List.Kept.{AllPairs-cons}
use Rattle.std.proofs.lemmas.List.Elements.{Contains-get_or}
use Rattle.xid_circle.proofs.Members.{Contains-first, Contains-rest, Contains-cases, Contains-none}
use Rattle.page_sheet.specs.declared.slot.Slot.{Slot}
use Rattle.page_sheet.specs.declared.slot.Slot.TheVariants.{Unused, Normal, Redirect, Dead}
use Rattle.page_sheet.specs.Slots.{slot_at, the_slot, is_dead}
use Rattle.commit_status.specs.Window.{Window}
use Rattle.freeze.specs.Freezing.{Freezes, frozen_slot, frozen_header}
use Rattle.freeze.specs.DeadSlots.{ListsDead, with_dead}

-- The numbers of the dead slots.

all-from : (P : ℕ → Type 0) (xs : List ℕ) → ((x : ℕ) → Contains xs x → P x) → All P xs
all-from P xs each k d within = each (get_or xs k d) (Contains-get_or xs k d within)

abbrev pub dead_from : ℕ → List Slot → List ℕ
dead_from n [] = []
dead_from n (s ∷ slots) = if is_dead s then n ∷ dead_from (suc n) slots else dead_from (suc n) slots

-- a number is that of a dead slot
abbrev IsOfDead : ℕ → List Slot → ℕ → Type 0
IsOfDead n slots m = (i : ℕ) × (m ≡ n + i) × (slice_get slots i ≡ Some Dead)

later : (n : ℕ) (s : Slot) (slots : List Slot) (m : ℕ) → IsOfDead (suc n) slots m → IsOfDead n (s ∷ slots) m
later n s slots m f = (suc f.0, let e = f.1 in omega (arith, e), f.2)

listed-dead : (n : ℕ) (slots : List Slot) (m : ℕ) → Contains (dead_from n slots) m → IsOfDead n slots m
listed-dead n [] m there = absurd (Contains-none m there)
listed-dead n (Unused ∷ slots) m there = later n Unused slots m (listed-dead (suc n) slots m there)
listed-dead n (Normal t ∷ slots) m there = later n (Normal t) slots m (listed-dead (suc n) slots m there)
listed-dead n (Redirect k ∷ slots) m there = later n (Redirect k) slots m (listed-dead (suc n) slots m there)
listed-dead n (Dead ∷ slots) m there = ⊎_elim
    (λ first. (0, omega (arith, first), refl))
    (λ rest. later n Dead slots m (listed-dead (suc n) slots m rest))
    (Contains-cases n m (dead_from (suc n) slots) there)

dead-listed : (n : ℕ) (slots : List Slot) (i : ℕ) → slice_get slots i ≡ Some Dead → Contains (dead_from n slots) (n + i)
dead-listed n [] i at = absurd (let e : None ≡ Some Dead = at in cc)
dead-listed n (Unused ∷ slots) zero at = absurd (let e : Some Unused ≡ Some Dead = at in cc)
dead-listed n (Normal t ∷ slots) zero at = absurd (let e : Some (Normal t) ≡ Some Dead = at in cc)
dead-listed n (Redirect k ∷ slots) zero at = absurd (let e : Some (Redirect k) ≡ Some Dead = at in cc)
dead-listed n (Dead ∷ slots) zero at = subst (Contains (n ∷ dead_from (suc n) slots)) (let e : n ≡ n + 0 = omega arith in e) (Contains-first n (dead_from (suc n) slots))
dead-listed n (Unused ∷ slots) (suc i) at = subst (Contains (dead_from (suc n) slots)) (let e : suc n + i ≡ n + suc i = omega arith in e) (dead-listed (suc n) slots i at)
dead-listed n (Normal t ∷ slots) (suc i) at = subst (Contains (dead_from (suc n) slots)) (let e : suc n + i ≡ n + suc i = omega arith in e) (dead-listed (suc n) slots i at)
dead-listed n (Redirect k ∷ slots) (suc i) at = subst (Contains (dead_from (suc n) slots)) (let e : suc n + i ≡ n + suc i = omega arith in e) (dead-listed (suc n) slots i at)
dead-listed n (Dead ∷ slots) (suc i) at = subst (Contains (n ∷ dead_from (suc n) slots)) (let e : suc n + i ≡ n + suc i = omega arith in e)
    (Contains-rest n (suc n + i) (dead_from (suc n) slots) (dead-listed (suc n) slots i at))

dead-ascending : (n : ℕ) (slots : List Slot) → AllPairs (λ a b. a < b) (dead_from n slots)
dead-ascending n [] = λ i j d lt within. absurd (omega (arith, within))
dead-ascending n (Unused ∷ slots) = dead-ascending (suc n) slots
dead-ascending n (Normal t ∷ slots) = dead-ascending (suc n) slots
dead-ascending n (Redirect k ∷ slots) = dead-ascending (suc n) slots
dead-ascending n (Dead ∷ slots) = AllPairs-cons (λ a b. a < b) n (dead_from (suc n) slots)
    (all-from (λ m. n < m) (dead_from (suc n) slots) (λ m there. let e = (listed-dead (suc n) slots m there).1 in omega (arith, e)))
    (dead-ascending (suc n) slots)

dead-members : (slots : List Slot) (m : ℕ) → Contains (dead_from 1 slots) m → slot_at slots m ≡ Some Dead
dead-members slots m there = let f = listed-dead 1 slots m there in
    let e : m ≡ suc f.0 = let is = f.1 in omega (arith, is) in
    ap (slot_at slots) e ∙ f.2

members-dead : (slots : List Slot) (m : ℕ) → slot_at slots m ≡ Some Dead → Contains (dead_from 1 slots) m
members-dead slots zero at = absurd (let e : None ≡ Some Dead = at in cc)
members-dead slots (suc i) at = subst (Contains (dead_from 1 slots)) (let e : 1 + i ≡ suc i = omega arith in e) (dead-listed 1 slots i at)

dead-few : (n : ℕ) (slots : List Slot) → length (dead_from n slots) ≤ length slots
dead-few n [] = omega arith
dead-few n (Unused ∷ slots) = let few = dead-few (suc n) slots in omega (arith, few)
dead-few n (Normal t ∷ slots) = let few = dead-few (suc n) slots in omega (arith, few)
dead-few n (Redirect k ∷ slots) = let few = dead-few (suc n) slots in omega (arith, few)
dead-few n (Dead ∷ slots) = let few = dead-few (suc n) slots in omega (arith, few)

-- Those below a number are listed.

abbrev pub ListsBelow : List Slot → ℕ → List ℕ → Type 0
ListsBelow slots n dead = dead ++ dead_from n (drop (n - 1) slots) ≡ dead_from 1 slots

one-more : (s : Slot) (n : ℕ) (slots : List Slot) (dead : List ℕ)
    → (if is_dead s then dead ++ n ∷ [] else dead) ++ dead_from (suc n) slots ≡ dead ++ dead_from n (s ∷ slots)
one-more Unused n slots dead = refl
one-more (Normal t) n slots dead = refl
one-more (Redirect k) n slots dead = refl
one-more Dead n slots dead = append_assoc dead (n ∷ []) (dead_from (suc n) slots)

pub lists-more : (slots : List Slot) (n : ℕ) (dead : List ℕ) → 1 ≤ n → n ≤ length slots → ListsBelow slots n dead → ListsBelow slots (n + 1) (with_dead slots n dead)
lists-more slots n dead from to below =
    ap (λ i. with_dead slots n dead ++ dead_from (n + 1) (drop i slots)) (let e : n + 1 - 1 ≡ n = omega arith in e)
    ∙ ap (λ i. with_dead slots n dead ++ dead_from i (drop n slots)) (let e : n + 1 ≡ suc n = omega arith in e)
    ∙ one-more (the_slot slots n) n (drop n slots) dead
    ∙ ap (λ ss. dead ++ dead_from n ss) (sym rest) ∙ below
  where
    rest : drop (n - 1) slots ≡ the_slot slots n ∷ drop n slots
    rest = drop-cons slots (n - 1) Unused (omega arith) ∙ ap (λ i. the_slot slots n ∷ drop i slots) (let e : suc (n - 1) ≡ n = omega arith in e)

pub lists-few : (slots : List Slot) (n : ℕ) (dead : List ℕ) → ListsBelow slots n dead → length dead ≤ length slots
lists-few slots n dead below =
    let long = sym (length-append dead (dead_from n (drop (n - 1) slots))) ∙ ap (λ (xs : List ℕ). length xs) below in
    let few = dead-few 1 slots in
    omega (arith, long, few)

frozen-dead : (w : Window) (cutoff page n : ℕ) (o : Option Slot) → option_map (frozen_slot w cutoff page n) o ≡ Some Dead → o ≡ Some Dead
frozen-dead w cutoff page n None e = absurd (let f : None ≡ Some Dead = e in cc)
frozen-dead w cutoff page n (Some Unused) e = absurd (let f : Some Unused ≡ Some Dead = e in cc)
frozen-dead w cutoff page n (Some (Normal t)) e = absurd (let f : Some (Normal (record t { header = frozen_header w cutoff page n t.header })) ≡ Some Dead = e in cc)
frozen-dead w cutoff page n (Some (Redirect k)) e = absurd (let f : Some (Redirect k) ≡ Some Dead = e in cc)
frozen-dead w cutoff page n (Some Dead) e = refl

-- all are listed, also of the page once it is frozen
pub lists-frozen : (w : Window) (cutoff page : ℕ) (slots after : List Slot) (n : ℕ) (dead : List ℕ) → n ≡ length slots + 1 → ListsBelow slots n dead → Freezes w cutoff page slots after
    → ListsDead after dead
lists-frozen w cutoff page slots after n dead end below freezes = subst (ListsDead after) (sym all) (record {
  ascending = dead-ascending 1 slots;
  members = λ m. (
    λ there. freezes.each m ∙ ap (option_map (frozen_slot w cutoff page m)) (dead-members slots m there),
    λ at. members-dead slots m (frozen-dead w cutoff page m (slot_at slots m) (sym (freezes.each m) ∙ at)),
  );
})
  where
    all : dead ≡ dead_from 1 slots
    all = sym (append-nil dead) ∙ ap (λ ss. dead ++ dead_from n ss) (sym (drop_all (n - 1) slots (omega (arith, end)))) ∙ below
