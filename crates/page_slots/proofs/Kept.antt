-- What the slots of a page keep when one of them is written.
use Rattle.std.proofs.Common.{◌≡◌, Bool, false, ℕ, ◌+◌, ◌-◌, ◌*◌, ◌<◌, ◌≤◌, true, nat_lt, ◌++◌, ◌∷◌, [], if◌then◌else◌, ⊎_elim, List, length, get_or, set, sum_by, sym, ap, ◌∙◌, refl, arith}
use Rattle.std.proofs.lemmas.Bool.{cases_Bool, lt-ltb, ltb-true}
use Rattle.std.proofs.lemmas.List.Sums.{sum_by-set}
use Rattle.std.proofs.lemmas.List.Folds.{position_or_len-set}
use Rattle.std.specs.List.{position_or_len}
use Rattle.std.proofs.lemmas.Option.{slice_get-get_or}
use Rattle.std.specs.Prelude.{Option, Some, None, slice_get, unwrap_or}
use Rattle.std.specs.Option.{option_map, option_and_then}
use Rattle.std.proofs.Math.ListN.{length-set}
use Rattle.page_sheet.specs.declared.slot.Slot.{Slot}
use Rattle.page_sheet.specs.declared.slot.Slot.TheVariants.{Unused, Normal, Redirect, Dead}
use Rattle.tuple_header.specs.Hints.{same_but_hints}
use Rattle.tuple_header.specs.declared.version.Header.{Header}
use Rattle.tuple_header.specs.Version.{Version}
use Rattle.page_sheet.specs.declared.sheet.TheConstants.{MOST_BYTES}
use Rattle.page_slots.specs.View.{AreTallied}
use Rattle.page_sheet.specs.Slots.{is_unused, bytes_taken, version_of, with_header, has_unused, free_number, with_added, free_bytes, room_of, differs_in_hints_alone}
use Rattle.page_sheet.specs.Placing.{gap_wanted}
use Rattle.page_sheet.proofs.SlotLemmas.{first_within, free_number-new, length-with_added}
use Rattle.page_sheet.proofs.FreeLemmas.{taken-after_added}

-- a slot that takes as many bytes as the one that was there, and is unused where that was
pub kept_as_before : (slots : List Slot) (free bytes i : ℕ) (old new : Slot) → i < length slots → get_or slots i Unused ≡ old
    → bytes_taken new ≡ bytes_taken old → is_unused new ≡ is_unused old → AreTallied slots free bytes → AreTallied (set slots i new) free bytes
kept_as_before slots free bytes i old new within there same kind kept =
    let sum = sum_by-set bytes_taken slots i new Unused within in
    let size : bytes_taken (get_or slots i Unused) ≡ bytes_taken old = ap bytes_taken there in
    let long = length-set slots i new in
    let first = position_or_len-set is_unused slots i new Unused (kind ∙ sym (ap is_unused there)) in
    let few = kept.few in
    let most = kept.fits in
    let all = kept.sum in
    let start = kept.first in
    record { few = omega arith; fits = omega arith; first = kept.first ∙ sym first; sum = omega arith }

-- a slot at the free number, that takes some bytes and for which there is room
pub kept_added : (slots : List Slot) (free bytes next : ℕ) (s : Slot) → 0 < bytes_taken s → bytes_taken s ≤ room_of slots → free_number slots ≤ 291
    → next ≡ position_or_len is_unused (with_added slots s) → AreTallied slots free bytes → AreTallied (with_added slots s) next (bytes + bytes_taken s)
kept_added slots free bytes next s some fits place first kept =
    let few = kept.few in
    let most = kept.fits in
    let all = kept.sum in
    let start = kept.first in
    let long = length-with_added slots s in
    let sum = taken-after_added slots s in
    ⊎_elim (λ reused. let same = long ∙ ap (λ b. if b then length slots else length slots + 1) reused in
    let room : bytes_taken s ≤ free_bytes slots = rw reused at fits in
    record { few = omega arith; fits = omega arith; first = first; sum = omega arith })
    (λ new. let more = long ∙ ap (λ b. if b then length slots else length slots + 1) new in
    let last = free_number-new slots new in
    let below : nat_lt (length slots) 291 ≡ true = lt-ltb (length slots) 291 (omega arith) in
    let room : bytes_taken s ≤ free_bytes slots - 4 = rw (new, below) at fits in
    record { few = omega arith; fits = omega arith; first = first; sum = omega arith })
    (cases_Bool (has_unused slots))

header-same_size : (s : Slot) (h : Header) → bytes_taken (with_header s h) ≡ bytes_taken s
header-same_size Unused h = refl
header-same_size (Normal t) h = refl
header-same_size (Redirect target) h = refl
header-same_size Dead h = refl

header-same_kind : (s : Slot) (h : Header) → is_unused (with_header s h) ≡ is_unused s
header-same_kind Unused h = refl
header-same_kind (Normal t) h = refl
header-same_kind (Redirect target) h = refl
header-same_kind Dead h = refl

-- another header changes none of this
pub kept_header : (slots : List Slot) (free bytes i : ℕ) (h : Header) → i < length slots → AreTallied slots free bytes
    → AreTallied (set slots i (with_header (get_or slots i Unused) h)) free bytes
kept_header slots free bytes i h within kept =
    let old = get_or slots i Unused in
    kept_as_before slots free bytes i old (with_header old h) within refl (header-same_size old h) (header-same_kind old h) kept

abbrev header_of : Slot → Option Header
header_of s = option_map (λ t. t.header) (version_of s)

hints-slot_some : (s : Slot) (old h : Header) → header_of s ≡ Some old → differs_in_hints_alone s h ≡ same_but_hints old h
hints-slot_some Unused old h e = absurd (cc e)
hints-slot_some (Normal t) old h e = ap (λ (o : Option Header). same_but_hints (unwrap_or o old) h) e
hints-slot_some (Redirect target) old h e = absurd (cc e)
hints-slot_some Dead old h e = absurd (cc e)

hints-slot_none : (s : Slot) (h : Header) → header_of s ≡ None → differs_in_hints_alone s h ≡ true
hints-slot_none Unused h e = refl
hints-slot_none (Normal t) h e = absurd (cc e)
hints-slot_none (Redirect target) h e = refl
hints-slot_none Dead h e = refl

pub hints-none : (slots : List Slot) (i : ℕ) (h : Header) → i < length slots → option_map (λ t. t.header) (option_and_then version_of (slice_get slots i)) ≡ None
    → differs_in_hints_alone (get_or slots i Unused) h ≡ true
hints-none slots i h within e = hints-slot_none (get_or slots i Unused) h (rw (slice_get-get_or slots i Unused within) at e)

pub hints-of_some : (s : Slot) (old h : Header) → Some old ≡ option_map (λ (t : Version). t.header) (version_of s) → differs_in_hints_alone s h ≡ same_but_hints old h
hints-of_some s old h e = hints-slot_some s old h (sym e)

pub hints-of_none : (s : Slot) (h : Header) → None ≡ option_map (λ (t : Version). t.header) (version_of s) → differs_in_hints_alone s h ≡ true
hints-of_none s h e = hints-slot_none s h (sym e)

-- a slot that takes no bytes, in the place of another
pub kept_bare : (slots : List Slot) (free bytes next i : ℕ) (s : Slot) → i < length slots → bytes_taken s ≡ 0 → next ≡ position_or_len is_unused (set slots i s)
    → AreTallied slots free bytes → AreTallied (set slots i s) next (bytes - bytes_taken (get_or slots i Unused))
kept_bare slots free bytes next i s within none first kept =
    let few = kept.few in
    let most = kept.fits in
    let all = kept.sum in
    let start = kept.first in
    let sum = sum_by-set bytes_taken slots i s Unused within in
    let long = length-set slots i s in
    record { few = omega arith; fits = omega arith; first = first; sum = omega arith }

pub taken-within : (slots : List Slot) (free bytes i : ℕ) → i < length slots → AreTallied slots free bytes → bytes_taken (get_or slots i Unused) ≤ bytes
taken-within slots free bytes i within kept =
    let all = kept.sum in
    let sum = sum_by-set bytes_taken slots i Unused Unused within in
    omega arith

-- Room for a version, by the index of the first unused slot.

pub room-reused : (slots : List Slot) (free bytes size : ℕ) → AreTallied slots free bytes → free < length slots → size ≤ room_of slots
    → 4 * length slots + sum_by bytes_taken slots + size ≤ MOST_BYTES
room-reused slots free bytes size kept within fits =
    let first = kept.first in
    let reused : has_unused slots ≡ true = lt-ltb (position_or_len is_unused slots) (length slots) (omega arith) in
    let room : size ≤ free_bytes slots = rw reused at fits in
    let most = kept.fits in
    omega arith

room-of_new : (slots : List Slot) → has_unused slots ≡ false → length slots < 291 → room_of slots ≡ free_bytes slots - 4
room-of_new slots new few =
    let below : nat_lt (length slots) 291 ≡ true = lt-ltb (length slots) 291 few in
    ap (λ (b : Bool). if b then free_bytes slots else (if nat_lt (length slots) 291 then free_bytes slots - 4 else 0)) new
    ∙ ap (λ (b : Bool). if b then free_bytes slots - 4 else 0) below

pub room-new : (slots : List Slot) (free bytes size : ℕ) → AreTallied slots free bytes → length slots ≤ free → free_number slots ≤ 291 → size ≤ room_of slots → 0 < size
    → 4 * length slots + sum_by bytes_taken slots + (size + 4) ≤ MOST_BYTES
room-new slots free bytes size kept past place fits some =
    let first = kept.first in
    let most = kept.fits in
    ⊎_elim (λ reused. let within = ltb-true (position_or_len is_unused slots) (length slots) reused in absurd (omega arith))
    (λ new. let least = first_within slots in
    let is = room-of_new slots new (omega arith) in
    omega arith)
    (cases_Bool (has_unused slots))

pub with_added-at : (slots : List Slot) (s : Slot) (i : ℕ) → i ≡ position_or_len is_unused slots → i < length slots → with_added slots s ≡ set slots i s
with_added-at slots s i is within =
    let reused : has_unused slots ≡ true = lt-ltb (position_or_len is_unused slots) (length slots) (omega arith) in
    rw (reused, is) refl

pub with_added-behind : (slots : List Slot) (s : Slot) (i : ℕ) → i ≡ position_or_len is_unused slots → length slots ≤ i → with_added slots s ≡ slots ++ s ∷ []
with_added-behind slots s i is past =
    ⊎_elim (λ reused. let within = ltb-true (position_or_len is_unused slots) (length slots) reused in absurd (omega arith))
    (λ new. rw new refl) (cases_Bool (has_unused slots))

-- and what it asks of the gap
pub gap-reused : (slots : List Slot) (i size : ℕ) → i ≡ position_or_len is_unused slots → i < length slots → size ≡ gap_wanted slots size
gap-reused slots i size is within =
    let reused : has_unused slots ≡ true = lt-ltb (position_or_len is_unused slots) (length slots) (omega arith) in
    rw reused refl

pub gap-new : (slots : List Slot) (i size : ℕ) → i ≡ position_or_len is_unused slots → length slots ≤ i → size + 4 ≡ gap_wanted slots size
gap-new slots i size is past =
    ⊎_elim (λ reused. let within = ltb-true (position_or_len is_unused slots) (length slots) reused in absurd (omega arith))
    (λ new. rw new refl) (cases_Bool (has_unused slots))

-- what the versions take once a slot without one is in the place of another
pub sum-bare : (slots : List Slot) (free bytes i : ℕ) (s : Slot) → i < length slots → bytes_taken s ≡ 0 → AreTallied slots free bytes
    → sum_by bytes_taken (set slots i s) ≡ bytes - bytes_taken (get_or slots i Unused)
sum-bare slots free bytes i s within none kept =
    let sum = sum_by-set bytes_taken slots i s Unused within in
    let all = kept.sum in
    omega arith
