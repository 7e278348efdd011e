-- The slots of a page as a map from numbers to slots: what each change of a page does to it.
use Rattle.std.proofs.Common.{◌≡◌, ◌≢◌, ℕ, zero, suc, ◌+◌, ◌-◌, ◌<◌, ◌≤◌, true, false, not, if◌then◌else◌, ◌⊎◌, inl, inr, ⊎_elim, List, [], ◌∷◌, ◌++◌, length, get_or, set, Option, Some, None, IsSome, sym, ap, ◌∙◌, refl, arith, length-append}
use Rattle.std.proofs.lemmas.Bool.{cases_Bool, ltb-true, ltb-false}
use Rattle.std.proofs.lemmas.Option.{slice_get-get_or, slice_get_past, slice_get_within, slice_get_cases, get_or_from_slice_get, same_Some, none-some}
use Rattle.std.proofs.lemmas.List.{length-set, get_or-set_same, get_or-set_other}
use Rattle.std.proofs.lemmas.List.Sums.{prefix_len-le-length, passes_at_first}
use Rattle.std.proofs.Math.ListN.{get_or-append}
use Rattle.std.proofs.Math.Seq.{get_or-append_seam}
use Rattle.std.specs.List.{slice_get, position_or_len}
use Rattle.std.specs.Option.{option_and_then, option_map}
pub use Rattle.page_layout.proofs.OrderLemmas.{same_or_other}
use Rattle.page_sheet.specs.declared.slot.Slot.{Slot}
use Rattle.page_sheet.specs.declared.slot.Slot.TheVariants.{Unused, Normal, Redirect, Dead}
use Rattle.tuple_header.specs.Version.{Version}
use Rattle.tuple_header.specs.declared.version.Header.{Header}
use Rattle.page_sheet.specs.Slots.{is_unused, slot_at, version_at, version_of, SlotIsThere, IsNormalAt, the_slot, with_slot, has_unused, free_number, with_added, header_at}

-- a place that is another's holds what it held
slice_get-set_other : (slots : List Slot) (i j : ℕ) (s : Slot) → j ≢ i → slice_get (set slots i s) j ≡ slice_get slots j
slice_get-set_other slots i j s other =
    let long = length-set slots i s in
    ⊎_elim (λ a. let within : j < length (set slots i s) = omega (arith, a.1) in
    slice_get-get_or (set slots i s) j a.0 within ∙ ap Some (get_or-set_other slots i j s a.0 other ∙ a.3) ∙ sym a.2)
    (λ b. let past : length (set slots i s) ≤ j = omega (arith, b.0) in slice_get_past (set slots i s) j past ∙ sym b.1)
    (slice_get_cases slots j).1

-- a number that is not 0 is one more than its place in the list
pub slot_at-place : (slots : List Slot) (n : ℕ) → 1 ≤ n → slot_at slots n ≡ slice_get slots (n - 1)
slot_at-place slots zero h = absurd (omega arith)
slot_at-place slots (suc i) h = let e : suc i - 1 ≡ i = omega arith in rw e refl

pub slot_at-past : (slots : List Slot) (n : ℕ) → length slots < n → slot_at slots n ≡ None
slot_at-past slots zero h = refl
slot_at-past slots (suc i) h = slice_get_past slots i (omega arith)

pub there-from_slot_at : (slots : List Slot) (n : ℕ) (s : Slot) → slot_at slots n ≡ Some s → SlotIsThere slots n
there-from_slot_at slots zero s e = absurd (cc e)
there-from_slot_at slots (suc i) s e = let within = slice_get_within slots i s e in (omega arith, omega arith)

-- a slot that is there is the slot of its number
pub slot_at-there : (slots : List Slot) (n : ℕ) → SlotIsThere slots n → slot_at slots n ≡ Some (the_slot slots n)
slot_at-there slots n there = slot_at-place slots n there.0 ∙ slice_get-get_or slots (n - 1) Unused (omega (arith, there.0, there.1))

pub the_slot-from_slot_at : (slots : List Slot) (n : ℕ) (s : Slot) → slot_at slots n ≡ Some s → the_slot slots n ≡ s
the_slot-from_slot_at slots n s e =
    get_or_from_slice_get slots (n - 1) s Unused (sym (slot_at-place slots n (there-from_slot_at slots n s e).0) ∙ e)

-- Versions.

pub version_at-from_slot_at : (slots : List Slot) (n : ℕ) (t : Version) → slot_at slots n ≡ Some (Normal t) → version_at slots n ≡ Some t
version_at-from_slot_at slots n t e = rw e refl

-- an optional slot in which there is a version
normal_inside : (o : Option Slot) (t : Version) → option_and_then version_of o ≡ Some t → o ≡ Some (Normal t)
normal_inside None t e = absurd (cc e)
normal_inside (Some Unused) t e = absurd (cc e)
normal_inside (Some (Normal u)) t e = cc
normal_inside (Some (Redirect target)) t e = absurd (cc e)
normal_inside (Some Dead) t e = absurd (cc e)

pub slot_at-from_version_at : (slots : List Slot) (n : ℕ) (t : Version) → version_at slots n ≡ Some t → slot_at slots n ≡ Some (Normal t)
slot_at-from_version_at slots n t e = normal_inside (slot_at slots n) t e

some_inside : (o : Option Version) → IsSome o → (t : Version) × (o ≡ Some t)
some_inside None e = absurd (cc e)
some_inside (Some t) e = (t, refl)

-- no version stands where there is no slot
pub version_at-none : (n : ℕ) (t : Version) → version_at [] n ≡ Some t → ⊥
version_at-none zero t e = none-some t e
version_at-none (suc n) t e = none-some t e

-- what a look-up of a header tells of the version
pub version-from_header : (slots : List Slot) (n : ℕ) (h : Header) → header_at slots n ≡ Some h → (t : Version) × (version_at slots n ≡ Some t) × (h ≡ t.header)
version-from_header slots n h e = by (version_at slots n) e
  where
    by : (o : Option Version) → option_map (λ (t : Version). t.header) o ≡ Some h → (t : Version) × (o ≡ Some t) × (h ≡ t.header)
    by None none = absurd (cc)
    by (Some t) is = (t, refl, sym (same_Some t.header h is))

-- the version of a normal slot
pub normal_at : (slots : List Slot) (n : ℕ) → IsNormalAt slots n → (t : Version) × (slot_at slots n ≡ Some (Normal t))
normal_at slots n normal =
    let t = some_inside (version_at slots n) normal in (t.0, slot_at-from_version_at slots n t.0 t.1)

pub there-from_normal : (slots : List Slot) (n : ℕ) → IsNormalAt slots n → SlotIsThere slots n
there-from_normal slots n normal = let t = normal_at slots n normal in there-from_slot_at slots n (Normal t.0) t.1

pub unused_is : (s : Slot) → is_unused s ≡ true → s ≡ Unused
unused_is Unused e = refl
unused_is (Normal t) e = absurd (cc e)
unused_is (Redirect target) e = absurd (cc e)
unused_is Dead e = absurd (cc e)

-- what is put after the last slot
last_pushed : (slots : List Slot) (s : Slot) → slot_at (slots ++ s ∷ []) (length slots + 1) ≡ Some s
last_pushed slots s =
    let long : length (slots ++ s ∷ []) ≡ length slots + 1 = rw length-append refl in
    let at : (length slots + 1) - 1 ≡ length slots = omega arith in
    slot_at-place (slots ++ s ∷ []) (length slots + 1) (omega arith) ∙ rw at (slice_get-get_or (slots ++ s ∷ []) (length slots) s (omega arith)
    ∙ ap Some (get_or-append_seam slots s [] s))

others_pushed : (slots : List Slot) (m : ℕ) (s : Slot) → m ≢ length slots + 1 → slot_at (slots ++ s ∷ []) m ≡ slot_at slots m
others_pushed slots zero s other = refl
others_pushed slots (suc i) s other =
    let long : length (slots ++ s ∷ []) ≡ length slots + 1 = rw length-append refl in
    ⊎_elim (λ a. let within : i < length (slots ++ s ∷ []) = omega (arith, a.1) in
    slice_get-get_or (slots ++ s ∷ []) i a.0 within ∙ ap Some (get_or-append slots (s ∷ []) a.0 i a.1 ∙ a.3) ∙ sym a.2)
    (λ b. let past : length (slots ++ s ∷ []) ≤ i = omega (arith, b.0) in slice_get_past (slots ++ s ∷ []) i past ∙ sym b.1)
    (slice_get_cases slots i).1

-- One slot in the place of another.

pub length-with_slot : (slots : List Slot) (n : ℕ) (s : Slot) → length (with_slot slots n s) ≡ length slots
length-with_slot slots n s = length-set slots (n - 1) s

pub slot_at-with_slot : (slots : List Slot) (n : ℕ) (s : Slot) → SlotIsThere slots n → slot_at (with_slot slots n s) n ≡ Some s
slot_at-with_slot slots n s there =
    let long = length-set slots (n - 1) s in
    let within : n - 1 < length slots = omega (arith, there.0, there.1) in
    let within_new : n - 1 < length (set slots (n - 1) s) = omega arith in
    slot_at-place (with_slot slots n s) n there.0 ∙ slice_get-get_or (set slots (n - 1) s) (n - 1) s within_new
    ∙ ap Some (get_or-set_same slots (n - 1) s s within)

pub slot_at-with_slot_other : (slots : List Slot) (n m : ℕ) (s : Slot) → 1 ≤ n → m ≢ n → slot_at (with_slot slots n s) m ≡ slot_at slots m
slot_at-with_slot_other slots n zero s from other = refl
slot_at-with_slot_other slots n (suc i) s from other = slice_get-set_other slots (n - 1) i s (λ e. other (omega arith))

-- A new slot.

reused_place : (slots : List Slot) → (position_or_len is_unused slots + 1) - 1 ≡ position_or_len is_unused slots
reused_place slots = omega arith

-- the first unused slot is one of the slots, or there is none
pub first_within : (slots : List Slot) → position_or_len is_unused slots ≤ length slots
first_within slots = prefix_len-le-length (λ s. not (is_unused s)) slots

-- where a slot is unused, the lowest one is the free one
pub free_number-unused : (slots : List Slot) → has_unused slots ≡ true → slot_at slots (free_number slots) ≡ Some Unused
free_number-unused slots some =
    let within = ltb-true (position_or_len is_unused slots) (length slots) some in
    let there : SlotIsThere slots (free_number slots) = (omega arith, omega arith) in
    let passes = passes_at_first is_unused slots Unused within in
    slot_at-there slots (free_number slots) there ∙ ap Some (ap (λ i. get_or slots i Unused) (reused_place slots) ∙ unused_is (get_or slots (position_or_len is_unused slots) Unused) passes)

-- and else it is the next after the last
pub free_number-new : (slots : List Slot) → has_unused slots ≡ false → free_number slots ≡ length slots + 1
free_number-new slots none =
    let least = first_within slots in
    let most = ltb-false (position_or_len is_unused slots) (length slots) none in
    omega arith

pub with_added-reused : (slots : List Slot) (s : Slot) → has_unused slots ≡ true → with_added slots s ≡ with_slot slots (free_number slots) s
with_added-reused slots s some = rw (some, reused_place slots) refl

pub with_added-new : (slots : List Slot) (s : Slot) → has_unused slots ≡ false → with_added slots s ≡ slots ++ s ∷ []
with_added-new slots s none = rw none refl

-- no slot stands at the free number, or an unused one
pub free_number-was : (slots : List Slot) → (slot_at slots (free_number slots) ≡ None) ⊎ (slot_at slots (free_number slots) ≡ Some Unused)
free_number-was slots =
    ⊎_elim (λ some. inr (free_number-unused slots some))
    (λ none. let new = free_number-new slots none in inl (slot_at-past slots (free_number slots) (omega arith)))
    (cases_Bool (has_unused slots))

-- in particular no version
pub free_number-not_normal : (slots : List Slot) → version_at slots (free_number slots) ≡ None
free_number-not_normal slots = ⊎_elim (λ past. rw past refl) (λ unused. rw unused refl) (free_number-was slots)

pub length-with_added : (slots : List Slot) (s : Slot) → length (with_added slots s) ≡ (if has_unused slots then length slots else length slots + 1)
length-with_added slots s =
    ⊎_elim (λ some. rw (with_added-reused slots s some, some) (length-with_slot slots (free_number slots) s))
    (λ none. rw (with_added-new slots s none, none) (rw length-append refl))
    (cases_Bool (has_unused slots))

pub slot_at-with_added : (slots : List Slot) (s : Slot) → slot_at (with_added slots s) (free_number slots) ≡ Some s
slot_at-with_added slots s =
    ⊎_elim (λ some. let there = there-from_slot_at slots (free_number slots) Unused (free_number-unused slots some) in
    rw (with_added-reused slots s some) (slot_at-with_slot slots (free_number slots) s there))
    (λ none. rw (with_added-new slots s none, free_number-new slots none) (last_pushed slots s))
    (cases_Bool (has_unused slots))

pub slot_at-with_added_other : (slots : List Slot) (m : ℕ) (s : Slot) → m ≢ free_number slots → slot_at (with_added slots s) m ≡ slot_at slots m
slot_at-with_added_other slots m s other =
    ⊎_elim (λ some. rw (with_added-reused slots s some) (slot_at-with_slot_other slots (free_number slots) m s (omega arith) other))
    (λ none. let new = free_number-new slots none in rw (with_added-new slots s none) (others_pushed slots m s (λ e. other (e ∙ sym new))))
    (cases_Bool (has_unused slots))
