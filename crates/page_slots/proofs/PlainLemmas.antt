-- The bytes of a page have no fault: what is read from a page's own bytes is the page.
use Rattle.std.proofs.Common.{◌≡◌, ℕ, suc, ◌+◌, ◌-◌, ◌*◌, ◌/◌, ◌%◌, ◌<◌, ◌≤◌, ◌==◌, nat_lt, not, ◌||◌, Bool, true, false, ⊎_elim, List, length, Some, None, sym, ap, ◌∙◌, refl, arith}
use Rattle.std.proofs.lemmas.Bool.Decides.{nat_tests}
use Rattle.std.proofs.lemmas.Option.{slice_get-get_or}
use Rattle.std.specs.Prelude.{slice_get}
use Rattle.std.specs.Option.{option_and_then}
use Rattle.tuple_header.specs.Marks.{is_heap_only}
use Rattle.tuple_header.specs.Version.{Version}
use Rattle.tuple_header.specs.Layout.{number_at}
use Rattle.page_layout.specs.declared.pointer.Pointer.{Pointer}
use Rattle.page_sheet.specs.declared.slot.Slot.{Slot}
use Rattle.page_sheet.specs.Slots.{version_at, redirect_at, target_of, the_slot}
use Rattle.page_layout.specs.Layout.{flags_in, lower_in, upper_in, slot_count_in, pointer_in, word_of}
use Rattle.page_sheet.specs.Layout.{slot_in, slots_in}
use Rattle.page_layout.specs.Sound.{IsSound, IsPointer, IsHeaded, end_of}
use Rattle.page_layout.specs.Faults.{has_wrong_header, has_wrong_bounds, frame_fault, word_in, is_bad_word, has_bad_tuple, is_fault, slot_fault}
use Rattle.page_slots.specs.Faults.{holds_heap_only, leads_astray, redirect_fault, overlap_fault, page_fault, AreSoundRedirects}
use Rattle.page_sheet.proofs.Shown.{shown}
use Rattle.page_sheet.proofs.Sounds.{length-slots_in, slots_in-at}
use Rattle.page_sheet.proofs.SlotLemmas.{slot_at-from_version_at, the_slot-from_slot_at}
use Rattle.page_layout.proofs.FirstLemmas.{each-none}
use Rattle.page_layout.proofs.FaultLemmas.{three-false, slot_fault-none}
use Rattle.page_slots.proofs.RedirectLemmas.{redirect-tested}
use Rattle.page_slots.proofs.CoverLemmas.{apart-overlap, overlap_fault-none}
use Rattle.page_slots.proofs.CheckLemmas.{behind_redirects}

-- Before the slots.

none-of_five : (a b c d e : Bool) → a ≡ false → b ≡ false → c ≡ false → d ≡ false → e ≡ false → (a || b || c || d || e) ≡ false
none-of_five a b c d e p q r s t = rw (p, q, r, s, t) refl

header-right : (bytes : List ℕ) → IsHeaded bytes → has_wrong_header bytes ≡ false
header-right bytes headed =
    none-of_five (not (number_at 8 2 bytes == 0)) (not (flags_in bytes == 0 || flags_in bytes == 4)) (not (number_at 16 2 bytes == 8192))
    (not (number_at 18 2 bytes == 8196)) (not (number_at 20 4 bytes == 0))
    (ap (λ (n : ℕ). not (n == 0)) headed.checksum)
    (⊎_elim (λ none. ap (λ (n : ℕ). not (n == 0 || n == 4)) none) (λ four. ap (λ (n : ℕ). not (n == 0 || n == 4)) four) headed.flags)
    (ap (λ (n : ℕ). not (n == 8192)) headed.special)
    (ap (λ (n : ℕ). not (n == 8196)) headed.version)
    (ap (λ (n : ℕ). not (n == 0)) headed.prune_id)

bounds-right : (l u count : ℕ) → l ≡ 24 + 4 * count → count ≤ 291 → 24 + 4 * count ≤ u → u ≤ 8192 → u % 8 ≡ 0
    → (nat_lt l 24 || nat_lt 1188 l || not ((l - 24) % 4 == 0) || nat_lt u l || nat_lt 8192 u || not (u % 8 == 0)) ≡ false
bounds-right l u count is few gap most even =
    let whole : (l - 24) % 4 ≡ 0 = omega arith in
    grind (arith, nat_tests)

pub frame-none : (bytes : List ℕ) (count : ℕ) → IsSound bytes count → frame_fault bytes ≡ None
unfolding frame_fault
frame-none bytes count sound =
    three-false (not (length bytes == 8192)) (has_wrong_header bytes) (has_wrong_bounds bytes)
    (ap (λ (n : ℕ). not (n == 8192)) sound.long) (header-right bytes sound.headed)
    (bounds-right (lower_in bytes) (upper_in bytes) count sound.lower sound.few sound.gap sound.upper sound.aligned)

pub counted : (bytes : List ℕ) (count : ℕ) → IsSound bytes count → count ≡ slot_count_in bytes
counted bytes count sound = let lower = sound.lower in omega arith

-- Pointers.

place-right : (upper from len end : ℕ) → 66 ≤ len → from % 8 ≡ 0 → upper ≤ from → end ≤ 8192
    → (nat_lt len 66 || not (from % 8 == 0) || nat_lt from upper || nat_lt 8192 end) ≡ false
place-right upper from len end least even over within = grind (arith, nat_tests)

target-right : (count word target : ℕ) → word ≡ target + 65536 → 1 ≤ target → target ≤ count → count ≤ 291
    → (not (word / 131072 == 0) || target == 0 || nat_lt count target) ≡ false
target-right count word target is least most few =
    let none : word / 131072 ≡ 0 = omega arith in
    grind (arith, nat_tests)

word-right : (bytes : List ℕ) (count word : ℕ) (p : Pointer) → count ≤ 291 → word ≡ word_of p → IsPointer bytes count p → is_bad_word count (upper_in bytes) word p ≡ false
word-right bytes count word Pointer.Unused few is good = rw is refl
word-right bytes count word (Pointer.Normal e) few is good = place-right (upper_in bytes) e.from e.len (end_of e) good.least good.aligned good.over good.within
word-right bytes count word (Pointer.Redirect target) few is good = target-right count word target is good.0 good.1 few
word-right bytes count word Pointer.Dead few is good = rw is refl

tuple-right : (bytes : List ℕ) (count : ℕ) (p : Pointer) → IsPointer bytes count p → has_bad_tuple bytes p ≡ false
tuple-right bytes count Pointer.Unused good = refl
tuple-right bytes count (Pointer.Normal e) good = ap is_fault good.faultless
tuple-right bytes count (Pointer.Redirect target) good = refl
tuple-right bytes count Pointer.Dead good = refl

pub slot-none : (bytes : List ℕ) (count i : ℕ) → IsSound bytes count → i < count → slot_fault bytes i ≡ None
slot-none bytes count i sound within =
    let good = sound.pointers i within in
    let right = word-right bytes count (word_in bytes i) (pointer_in bytes i) sound.few (sound.plain i within) good in
    sym (slot_fault-none bytes i
    (ap (λ (n : ℕ). is_bad_word n (upper_in bytes) (word_in bytes i) (pointer_in bytes i)) (sym (counted bytes count sound)) ∙ right)
    (tuple-right bytes count (pointer_in bytes i) good))

-- Redirects.

-- a redirect is seen as one
redirect-seen : (bytes : List ℕ) (count i target : ℕ) → i < count → pointer_in bytes i ≡ Pointer.Redirect target → redirect_at (slots_in count bytes) (suc i) ≡ Some target
redirect-seen bytes count i target within is =
    let long = length-slots_in count bytes in
    let slot : slice_get (slots_in count bytes) i ≡ Some (slot_in bytes i) =
    slice_get-get_or (slots_in count bytes) i Slot.Unused (omega arith) ∙ ap Some (slots_in-at count bytes i Slot.Unused within) in
    ap (option_and_then target_of) (slot ∙ ap Some (shown bytes i (Pointer.Redirect target) (sym is)))

-- and what it leads to too
heap_only-seen : (bytes : List ℕ) (count target : ℕ) (t : Version) → 1 ≤ target → target ≤ count → version_at (slots_in count bytes) target ≡ Some t
    → is_heap_only t.header ≡ true → holds_heap_only (slot_in bytes (target - 1)) ≡ true
heap_only-seen bytes count target t least most there is =
    let slot : the_slot (slots_in count bytes) target ≡ Slot.Normal t =
    the_slot-from_slot_at (slots_in count bytes) target (Slot.Normal t) (slot_at-from_version_at (slots_in count bytes) target t there) in
    ap holds_heap_only (sym (slots_in-at count bytes (target - 1) Slot.Unused (omega arith)) ∙ slot) ∙ is

leads-right : (bytes : List ℕ) (count i : ℕ) (p : Pointer) → pointer_in bytes i ≡ p → i < count → IsPointer bytes count p → AreSoundRedirects (slots_in count bytes) → leads_astray bytes p ≡ false
leads-right bytes count i Pointer.Unused is within good sound = refl
leads-right bytes count i (Pointer.Normal e) is within good sound = refl
leads-right bytes count i (Pointer.Redirect target) is within good sound =
    let t = sound (suc i) target (redirect-seen bytes count i target within is) in
    ap not (heap_only-seen bytes count target t.0 good.0 good.1 t.1 t.2)
leads-right bytes count i Pointer.Dead is within good sound = refl

pub redirect-none : (bytes : List ℕ) (count i : ℕ) → IsSound bytes count → AreSoundRedirects (slots_in count bytes) → i < count → redirect_fault bytes i ≡ None
redirect-none bytes count i sound redirects within =
    sym (redirect-tested bytes i false (leads-right bytes count i (pointer_in bytes i) refl within (sound.pointers i within) redirects))

-- Overlaps.

pub overlap-never : (bytes : List ℕ) (count i : ℕ) → IsSound bytes count → i < count → overlap_fault bytes i ≡ None
overlap-never bytes count i sound within =
    overlap_fault-none bytes i (λ j h. apart-overlap (pointer_in bytes j) (pointer_in bytes i)
    (⊎_elim (λ same. absurd (omega arith)) (λ apart. apart) (sound.apart j i (omega arith) within)))

-- So there is no fault.

pub accepted : (bytes : List ℕ) (count : ℕ) → IsSound bytes count → AreSoundRedirects (slots_in count bytes) → page_fault bytes ≡ None
accepted bytes count sound redirects =
    behind_redirects bytes count (counted bytes count sound) (frame-none bytes count sound)
    (each-none (slot_fault bytes) count (λ i h. slot-none bytes count i sound h))
    (each-none (redirect_fault bytes) count (λ i h. redirect-none bytes count i sound redirects h))
    ∙ each-none (overlap_fault bytes) count (λ i h. overlap-never bytes count i sound h)

-- A page with no slot has no redirect.
