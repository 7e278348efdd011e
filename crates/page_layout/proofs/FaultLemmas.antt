-- What bytes without a fault keep, slot by slot.
use Rattle.std.proofs.Common.{◌≡◌, ◌≢◌, ℕ, zero, suc, ◌+◌, ◌-◌, ◌*◌, ◌/◌, ◌%◌, ◌<◌, ◌≤◌, ◌==◌, nat_lt, not, ◌||◌, Bool, true, false, if◌then◌else◌, ◌⊎◌, inl, inr, ⊎_elim, List, length, Option, Some, None, sym, ap, ◌∙◌, refl, arith, subst}
use Rattle.std.proofs.lemmas.Bool.{cases_Bool}
use Rattle.std.proofs.lemmas.Bool.Decides.{nat_tests}
use Rattle.tuple_header.specs.declared.fault.TupleFault.{TupleFault}
use Rattle.tuple_header.specs.Faults.{first_fault}
use Rattle.page_layout.specs.declared.faults.PageFault.{PageFault}
use Rattle.page_layout.specs.declared.faults.PageFault.TheVariants.{Length, Header, Bounds, BadPointer, BadTuple}
use Rattle.page_layout.specs.declared.pointer.Pointer.{Pointer}
use Rattle.page_layout.specs.declared.pointer.Extent.{Extent}
use Rattle.page_layout.specs.Layout.{flags_in, lower_in, upper_in, slot_count_in, pointer_in, pointer_of, part_of, word_of}
use Rattle.page_layout.proofs.PointerLemmas.{pointer-read}
use Rattle.page_layout.specs.Sound.{IsPointer, IsHeaded, end_of}
use Rattle.page_layout.specs.Faults.{has_wrong_header, has_wrong_bounds, frame_fault, word_in, is_bad_word, has_bad_pointer, is_fault, has_bad_tuple, slot_fault}

-- Tests.

-- three tests in turn, of which none holds
pub none-of_three : (a b c : Bool) → (if a then Some Length else (if b then Some Header else (if c then Some Bounds else None))) ≡ None
    → (a ≡ false) × (b ≡ false) × (c ≡ false)
none-of_three false false false none = (refl, refl, refl)
none-of_three false false true none = absurd (cc)
none-of_three false true c none = absurd (cc)
none-of_three true b c none = absurd (cc)

pub three-false : (a b c : Bool) → a ≡ false → b ≡ false → c ≡ false → (if a then Some Length else (if b then Some Header else (if c then Some Bounds else None))) ≡ None
three-false a b c p q r = rw (p, q, r) refl

-- and two
pub none-of_two : (a b : Bool) (x y : PageFault) → (if a then Some x else (if b then Some y else None)) ≡ None → (a ≡ false) × (b ≡ false)
none-of_two false false x y none = (refl, refl)
none-of_two false true x y none = absurd (cc)
none-of_two true b x y none = absurd (cc)

pub none-of_one : (a : Bool) (x : PageFault) → (if a then Some x else None) ≡ None → a ≡ false
none-of_one false x none = refl
none-of_one true x none = absurd (cc)

-- Before the slots.

pub record IsFramed (bytes : List ℕ) : Type 0 where
  pub long : length bytes ≡ 8192
  pub headed : IsHeaded bytes
  pub least : 24 ≤ lower_in bytes
  pub most : lower_in bytes ≤ 1188
  pub whole : (lower_in bytes - 24) % 4 ≡ 0
  pub gap : lower_in bytes ≤ upper_in bytes
  pub upper : upper_in bytes ≤ 8192
  pub aligned : upper_in bytes % 8 ≡ 0

either : (f : ℕ) → (f ≢ 0 → f ≢ 4 → ⊥) → (f ≡ 0) ⊎ (f ≡ 4)
either f h = ⊎_elim (λ (e : (f == 0) ≡ true). inl (grind (arith, nat_tests))) (λ (e : (f == 0) ≡ false).
    ⊎_elim (λ (g : (f == 4) ≡ true). inr (grind (arith, nat_tests))) (λ (g : (f == 4) ≡ false). absurd (h (grind (arith, nat_tests)) (grind (arith, nat_tests)))) (cases_Bool (f == 4)))
    (cases_Bool (f == 0))

headed-from : (bytes : List ℕ) → has_wrong_header bytes ≡ false → IsHeaded bytes
headed-from bytes right = record {
  checksum = grind (arith, nat_tests);
  flags = either (flags_in bytes) (λ a b. grind (arith, nat_tests));
  special = grind (arith, nat_tests);
  version = grind (arith, nat_tests);
  prune_id = grind (arith, nat_tests);
}

length-from : (n : ℕ) → not (n == 8192) ≡ false → n ≡ 8192
length-from n h = grind (arith, nat_tests)

pub framed-from_none : (bytes : List ℕ) → frame_fault bytes ≡ None → IsFramed bytes
unfolding frame_fault
framed-from_none bytes none =
    let tests = none-of_three (not (length bytes == 8192)) (has_wrong_header bytes) (has_wrong_bounds bytes) none in
    let bounds : has_wrong_bounds bytes ≡ false = tests.2 in
    record {
      long = length-from (length bytes) tests.0;
      headed = headed-from bytes tests.1;
      least = grind (arith, nat_tests);
      most = grind (arith, nat_tests);
      whole = grind (arith, nat_tests);
      gap = grind (arith, nat_tests);
      upper = grind (arith, nat_tests);
      aligned = grind (arith, nat_tests);
    }

-- Pointers.

pub faultless-from : (o : Option TupleFault) → is_fault o ≡ false → o ≡ None
faultless-from None e = refl
faultless-from (Some fault) e = absurd (cc)

pub record IsPlace (upper : ℕ) (e : Extent) : Type 0 where
  pub over : upper ≤ e.from
  pub aligned : e.from % 8 ≡ 0
  pub least : 66 ≤ e.len
  pub within : end_of e ≤ 8192

place-from : (count upper word : ℕ) (e : Extent) → is_bad_word count upper word (Pointer.Normal e) ≡ false → IsPlace upper e
place-from count upper word e right = record {
  over = grind (arith, nat_tests);
  aligned = grind (arith, nat_tests);
  least = grind (arith, nat_tests);
  within = grind (arith, nat_tests);
}

target-from : (count word target : ℕ) → (not (word / 131072 == 0) || target == 0 || nat_lt count target) ≡ false → (1 ≤ target) × (target ≤ count)
target-from count word target right = (grind (arith, nat_tests), grind (arith, nat_tests))

pub place-in : (count upper word : ℕ) (p : Pointer) (e : Extent) → is_bad_word count upper word p ≡ false → p ≡ Pointer.Normal e → IsPlace upper e
place-in count upper word p e right is = place-from count upper word e (subst (λ (q : Pointer). is_bad_word count upper word q ≡ false) is right)

pub pointer-from : (bytes : List ℕ) (count word : ℕ) (p : Pointer) → is_bad_word count (upper_in bytes) word p ≡ false → has_bad_tuple bytes p ≡ false → IsPointer bytes count p
pointer-from bytes count word Pointer.Unused right faultless = tt
pointer-from bytes count word (Pointer.Normal e) right faultless =
    let place = place-from count (upper_in bytes) word e right in
    record { over = place.over; aligned = place.aligned; least = place.least; within = place.within; faultless = faultless-from (first_fault (part_of bytes e)) faultless }
pointer-from bytes count word (Pointer.Redirect target) right faultless = target-from count word target right
pointer-from bytes count word Pointer.Dead right faultless = tt

pub pointer-from_none : (bytes : List ℕ) (i : ℕ) → slot_fault bytes i ≡ None → IsPointer bytes (slot_count_in bytes) (pointer_in bytes i)
unfolding slot_fault
pointer-from_none bytes i none =
    let tests = none-of_two (has_bad_pointer bytes i) (has_bad_tuple bytes (pointer_in bytes i)) (BadPointer (i + 1)) (BadTuple (i + 1)) none in
    pointer-from bytes (slot_count_in bytes) (word_in bytes i) (pointer_in bytes i) tests.0 tests.1

-- A word that is not bad is the plain one of what it says.

no_place : (offset length : ℕ) → (not (offset == 0) || not (length == 0)) ≡ false → (offset ≡ 0) × (length ≡ 0)
no_place offset length right = (grind (arith, nat_tests), grind (arith, nat_tests))

no_length : (length target count : ℕ) → (not (length == 0) || target == 0 || nat_lt count target) ≡ false → length ≡ 0
no_length length target count right = grind (arith, nat_tests)

unused-plain : (count upper word : ℕ) → word / 32768 % 4 ≡ 0 → is_bad_word count upper word (pointer_of word) ≡ false → word ≡ word_of (pointer_of word)
unused-plain count upper word kind right =
    let none = no_place (word % 32768) (word / 131072) (rw kind at right) in
    let is : word ≡ 0 = omega (arith, none.0, none.1) in
    rw kind is

normal-plain : (word : ℕ) → word / 32768 % 4 ≡ 1 → word ≡ word_of (pointer_of word)
normal-plain word kind =
    let is : word ≡ word % 32768 + 32768 + word / 131072 * 131072 = omega arith in
    rw kind is

redirect-plain : (count upper word : ℕ) → word / 32768 % 4 ≡ 2 → is_bad_word count upper word (pointer_of word) ≡ false → word ≡ word_of (pointer_of word)
redirect-plain count upper word kind right =
    let none = no_length (word / 131072) (word % 32768) count (rw kind at right) in
    let is : word ≡ word % 32768 + 65536 = omega arith in
    rw kind is

dead-plain : (count upper word : ℕ) → word / 32768 % 4 ≡ 3 → is_bad_word count upper word (pointer_of word) ≡ false → word ≡ word_of (pointer_of word)
dead-plain count upper word kind right =
    let none = no_place (word % 32768) (word / 131072) (rw kind at right) in
    let is : word ≡ 98304 = omega (arith, none.0, none.1) in
    rw kind is

word-plain : (count upper word kind : ℕ) → word / 32768 % 4 ≡ kind → kind < 4 → is_bad_word count upper word (pointer_of word) ≡ false → word ≡ word_of (pointer_of word)
word-plain count upper word zero is small right = unused-plain count upper word is right
word-plain count upper word (suc zero) is small right = normal-plain word is
word-plain count upper word (suc (suc zero)) is small right = redirect-plain count upper word is right
word-plain count upper word (suc (suc (suc zero))) is small right = dead-plain count upper word is right
word-plain count upper word (suc (suc (suc (suc k)))) is small right = absurd (omega arith)

pub plain-from_none : (bytes : List ℕ) (i : ℕ) → slot_fault bytes i ≡ None → word_in bytes i ≡ word_of (pointer_in bytes i)
unfolding slot_fault
plain-from_none bytes i none =
    let tests = none-of_two (has_bad_pointer bytes i) (has_bad_tuple bytes (pointer_in bytes i)) (BadPointer (i + 1)) (BadTuple (i + 1)) none in
    let word = word_in bytes i in
    let right : is_bad_word (slot_count_in bytes) (upper_in bytes) word (pointer_of word) ≡ false =
    ap (is_bad_word (slot_count_in bytes) (upper_in bytes) word) (sym (pointer-read bytes i)) ∙ tests.0 in
    word-plain (slot_count_in bytes) (upper_in bytes) word (word / 32768 % 4) refl (omega arith) right ∙ ap word_of (sym (pointer-read bytes i))

-- The fault of a slot, by its tests.

abbrev by_tests : ℕ → Bool → Bool → Option PageFault
by_tests i a b = if a then Some (BadPointer (i + 1)) else (if b then Some (BadTuple (i + 1)) else None)

tested : (bytes : List ℕ) (i : ℕ) (a b : Bool) → has_bad_pointer bytes i ≡ a → has_bad_tuple bytes (pointer_in bytes i) ≡ b → by_tests i a b ≡ slot_fault bytes i
unfolding slot_fault
tested bytes i a b p q = ap (λ (x : Bool). by_tests i x b) (sym p) ∙ ap (by_tests i (has_bad_pointer bytes i)) (sym q)

pub slot_fault-pointer : (bytes : List ℕ) (i : ℕ) → has_bad_pointer bytes i ≡ true → Some (BadPointer (i + 1)) ≡ slot_fault bytes i
slot_fault-pointer bytes i bad = tested bytes i true (has_bad_tuple bytes (pointer_in bytes i)) bad refl

pub slot_fault-tuple : (bytes : List ℕ) (i : ℕ) → has_bad_pointer bytes i ≡ false → has_bad_tuple bytes (pointer_in bytes i) ≡ true → Some (BadTuple (i + 1)) ≡ slot_fault bytes i
slot_fault-tuple bytes i good bad = tested bytes i false true good bad

pub slot_fault-none : (bytes : List ℕ) (i : ℕ) → has_bad_pointer bytes i ≡ false → has_bad_tuple bytes (pointer_in bytes i) ≡ false → None ≡ slot_fault bytes i
slot_fault-none bytes i good right = tested bytes i false false good right

-- the test of a pointer, by what is read
pub bad-read : (bytes : List ℕ) (i count upper word : ℕ) → count ≡ slot_count_in bytes → upper ≡ upper_in bytes → word ≡ word_in bytes i
    → is_bad_word count upper word (pointer_of word) ≡ has_bad_pointer bytes i
bad-read bytes i count upper word p q r =
    ap (λ (n : ℕ). is_bad_word n upper word (pointer_of word)) p
    ∙ ap (λ (n : ℕ). is_bad_word (slot_count_in bytes) n word (pointer_of word)) q
    ∙ ap (λ (n : ℕ). is_bad_word (slot_count_in bytes) (upper_in bytes) n (pointer_of n)) r
    ∙ ap (is_bad_word (slot_count_in bytes) (upper_in bytes) (word_in bytes i)) (sym (pointer-read bytes i))
