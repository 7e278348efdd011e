-- What stands at a number, read off the bytes.
use Rattle.std.proofs.Common.{◌≡◌, ℕ, ◌+◌, ◌-◌, ◌<◌, ◌≤◌, List, ap, ◌∙◌, arith, Some, None}
use Rattle.std.specs.Prelude.{Option, slice_get, IsSome}
use Rattle.std.specs.Option.{option_map, option_and_then}
use Rattle.std.proofs.lemmas.Option.{slice_get-get_or}
use Rattle.page_sheet.specs.declared.slot.Slot.{Slot}
use Rattle.page_sheet.specs.Layout.{slot_in, slots_in}
use Rattle.page_sheet.specs.Slots.{version_of, version_at, slot_at, the_slot, SlotIsThere}
use Rattle.page_sheet.proofs.SlotLemmas.{slot_at-place, slot_at-past}
use Rattle.page_sheet.proofs.Sounds.{slots_in-at, length-slots_in}

pub found : (count : ℕ) (bytes : List ℕ) (n i : ℕ) → n ≡ i + 1 → i < count → slot_at (slots_in count bytes) n ≡ Some (slot_in bytes i)
found count bytes n i e within =
    let long = length-slots_in count bytes in
    let place : n - 1 ≡ i = omega arith in
    slot_at-place (slots_in count bytes) n (omega arith) ∙ ap (slice_get (slots_in count bytes)) place
    ∙ slice_get-get_or (slots_in count bytes) i Slot.Unused (omega arith) ∙ ap Some (slots_in-at count bytes i Slot.Unused within)

pub missing : (count : ℕ) (bytes : List ℕ) (n i : ℕ) → n ≡ i + 1 → count ≤ i → slot_at (slots_in count bytes) n ≡ None
missing count bytes n i e past =
    let long = length-slots_in count bytes in
    slot_at-past (slots_in count bytes) n (omega arith)

pub the_slot-in : (count : ℕ) (bytes : List ℕ) (n : ℕ) → SlotIsThere (slots_in count bytes) n → the_slot (slots_in count bytes) n ≡ slot_in bytes (n - 1)
the_slot-in count bytes n there =
    let long = length-slots_in count bytes in
    slots_in-at count bytes (n - 1) Slot.Unused (omega (arith, there.0, there.1))

pub is-there : (count : ℕ) (bytes : List ℕ) (n i : ℕ) → n ≡ i + 1 → i < count → SlotIsThere (slots_in count bytes) n
is-there count bytes n i e within = let long = length-slots_in count bytes in (omega arith, omega arith)

pub not-there : (count : ℕ) (bytes : List ℕ) (n i : ℕ) → n ≡ i + 1 → count ≤ i → SlotIsThere (slots_in count bytes) n → ⊥
not-there count bytes n i e past there = let long = length-slots_in count bytes in absurd (omega (arith, there.0, there.1))

pub version_at-found : (count : ℕ) (bytes : List ℕ) (n i : ℕ) → n ≡ i + 1 → i < count → version_at (slots_in count bytes) n ≡ version_of (slot_in bytes i)
version_at-found count bytes n i e within = ap (option_and_then version_of) (found count bytes n i e within)

pub version_at-missing : (count : ℕ) (bytes : List ℕ) (n i : ℕ) → n ≡ i + 1 → count ≤ i → version_at (slots_in count bytes) n ≡ None
version_at-missing count bytes n i e past = ap (option_and_then version_of) (missing count bytes n i e past)

pub some-mapped : {A B : Type 0} (f : A → B) (o : Option A) → (IsSome (option_map f o) → IsSome o) × (IsSome o → IsSome (option_map f o))
some-mapped f None = (λ none. none, λ none. none)
some-mapped f (Some x) = (λ some. some, λ some. some)
