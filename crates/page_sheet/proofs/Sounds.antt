-- What a page keeps when some of its bytes are written.
use Rattle.std.proofs.Common.{◌≡◌, ◌≢◌, ⊎_elim, inl, inr, ◌⊎◌, ℕ, ◌+◌, ◌*◌, ◌%◌, ◌^◌, ◌<◌, ◌≤◌, List, length, set, get_or, sym, ap, ◌∙◌, subst, refl, arith, None}
use Rattle.std.proofs.lemmas.List.{ext_get_or, length-set, get_or-set_same, get_or-set_other}
use Rattle.std.proofs.lemmas.List.FromFn.{length-map-range_with_len, get_or-map-range_with_len}
use Rattle.std.specs.Int.{next_multiple_of}
use Rattle.tuple_header.specs.Layout.{number_at, with_number, decoded_version}
use Rattle.tuple_header.specs.Faults.{first_fault}
use Rattle.page_layout.specs.declared.pointer.Pointer.{Pointer}
use Rattle.page_layout.specs.declared.pointer.Extent.{Extent}
use Rattle.page_sheet.specs.declared.slot.Slot.{Slot}
use Rattle.page_layout.specs.Layout.{pointer_in, part_of, lower_in, upper_in, flags_in}
use Rattle.page_sheet.specs.Layout.{slot_in, slots_in}
use Rattle.page_layout.specs.Sound.{IsSound, IsExtent, IsPointer, IsHeaded, AreApart, HasPlainWord}
use Rattle.page_layout.proofs.PointerLemmas.{rounded-up}
use Rattle.page_sheet.proofs.Shown.{shown}
use Rattle.page_layout.proofs.Frames.{Agrees, agrees-with_number, number-written, number-outside, pointer-outside, plain-outside, part-outside}
use Rattle.page_layout.proofs.OrderLemmas.{same_or_other}

-- Lists of slots.

pub length-slots_in : (count : ℕ) (bytes : List ℕ) → length (slots_in count bytes) ≡ count
length-slots_in count bytes = length-map-range_with_len (slot_in bytes) 0 count

pub slots_in-at : (count : ℕ) (bytes : List ℕ) (i : ℕ) (d : Slot) → i < count → get_or (slots_in count bytes) i d ≡ slot_in bytes i
slots_in-at count bytes i d within = get_or-map-range_with_len (slot_in bytes) 0 count i i d within (omega arith)

pub slots-kept : (count : ℕ) (a b : List ℕ) → ((i : ℕ) → i < count → slot_in b i ≡ slot_in a i) → slots_in count b ≡ slots_in count a
slots-kept count a b same =
    let x = length-slots_in count a in
    let y = length-slots_in count b in
    ext_get_or Slot.Unused (slots_in count b) (slots_in count a) (y ∙ sym x)
    (λ i h. slots_in-at count b i Slot.Unused (omega arith) ∙ same i (omega arith) ∙ sym (slots_in-at count a i Slot.Unused (omega arith)))

pub slots-set : (count i : ℕ) (a b : List ℕ) (s : Slot) → i < count → slot_in b i ≡ s → ((j : ℕ) → j < count → j ≢ i → slot_in b j ≡ slot_in a j)
    → slots_in count b ≡ set (slots_in count a) i s
slots-set count i a b s within here same =
    let x = length-slots_in count a in
    let y = length-slots_in count b in
    let z = length-set (slots_in count a) i s in
    ext_get_or Slot.Unused (slots_in count b) (set (slots_in count a) i s) (omega arith)
    (λ j h. slots_in-at count b j Slot.Unused (omega arith) ∙ ⊎_elim
    (λ e. ap (slot_in b) e ∙ here ∙ sym (ap (λ k. get_or (set (slots_in count a) i s) k Slot.Unused) e ∙ get_or-set_same (slots_in count a) i s Slot.Unused (omega arith)))
    (λ other. same j (omega arith) other ∙ sym (get_or-set_other (slots_in count a) i j s Slot.Unused other ∙ slots_in-at count a j Slot.Unused (omega arith)))
    (same_or_other j i))

-- Pointers and parts.

pub pointer-kept : (a b : List ℕ) (count : ℕ) (p : Pointer) → upper_in b ≡ upper_in a → IsPointer a count p
    → ((e : Extent) → p ≡ Pointer.Normal e → first_fault (part_of b e) ≡ None) → IsPointer b count p
pointer-kept a b count Pointer.Unused upper good parts = tt
pointer-kept a b count (Pointer.Normal e) upper good parts =
    let over : upper_in a ≤ e.from = good.over in
    record { over = omega arith; aligned = good.aligned; least = good.least; within = good.within; faultless = parts e refl }
pointer-kept a b count (Pointer.Redirect target) upper good parts = good
pointer-kept a b count Pointer.Dead upper good parts = tt

-- two that stay are apart as they were
pub apart-same : (a b : List ℕ) (i j : ℕ) → pointer_in b i ≡ pointer_in a i → pointer_in b j ≡ pointer_in a j
    → (i ≡ j) ⊎ AreApart (pointer_in a i) (pointer_in a j) → (i ≡ j) ⊎ AreApart (pointer_in b i) (pointer_in b j)
apart-same a b i j left right were =
    ⊎_elim inl (λ far. inr (subst (λ (p : Pointer). AreApart p (pointer_in b j)) (sym left) (subst (λ (p : Pointer). AreApart (pointer_in a i) p) (sym right) far))) were

pub sound-from : (a b : List ℕ) (count : ℕ) → IsSound a count → length b ≡ 8192 → lower_in b ≡ lower_in a → upper_in b ≡ upper_in a → IsHeaded b
    → ((j : ℕ) → j < count → pointer_in b j ≡ pointer_in a j) → ((j : ℕ) → j < count → HasPlainWord b j)
    → ((j : ℕ) (e : Extent) → j < count → pointer_in a j ≡ Pointer.Normal e → first_fault (part_of b e) ≡ None) → IsSound b count
sound-from a b count sound long lower upper headed pointers plain parts = record {
  long = long;
  few = sound.few;
  lower = lower ∙ sound.lower;
  gap = subst (λ (u : ℕ). 24 + 4 * count ≤ u) (sym upper) sound.gap;
  upper = subst (λ (u : ℕ). u ≤ 8192) (sym upper) sound.upper;
  aligned = ap (λ (u : ℕ). u % 8) upper ∙ sound.aligned;
  headed = headed;
  pointers = λ j h. subst (IsPointer b count) (sym (pointers j h)) (pointer-kept a b count (pointer_in a j) upper (sound.pointers j h) (λ e is. parts j e h is));
  plain = plain;
  apart = λ i j h k. apart-same a b i j (pointers i h) (pointers j k) (sound.apart i j h k);
}

-- the bytes of a version lie within the page and behind the pointers
pub extent-in : (a : List ℕ) (count j : ℕ) (e : Extent) → IsSound a count → j < count → pointer_in a j ≡ Pointer.Normal e → IsExtent a e
extent-in a count j e sound within is = subst (IsPointer a count) is (sound.pointers j within)

-- so a version that is not written over stays, and its slot
pub part-kept : (a b : List ℕ) (count lo hi j : ℕ) (e : Extent) → IsSound a count → Agrees lo hi a b → j < count → pointer_in a j ≡ Pointer.Normal e
    → (e.from + e.len ≤ lo) ⊎ (hi ≤ e.from) → part_of b e ≡ part_of a e
part-kept a b count lo hi j e sound agrees within is outside =
    let good = extent-in a count j e sound within is in
    let end : e.from + next_multiple_of e.len 8 ≤ 8192 = good.within in
    let up = rounded-up e.len in
    let long = sound.long in
    part-outside lo hi e a b agrees (omega arith) outside

slot-by : (a b : List ℕ) (j : ℕ) (p : Pointer) → p ≡ pointer_in a j → pointer_in b j ≡ pointer_in a j
    → ((e : Extent) → p ≡ Pointer.Normal e → part_of b e ≡ part_of a e) → slot_in b j ≡ slot_in a j
slot-by a b j Pointer.Unused is same parts = shown b j Pointer.Unused (is ∙ sym same) ∙ sym (shown a j Pointer.Unused is)
slot-by a b j (Pointer.Normal e) is same parts =
    shown b j (Pointer.Normal e) (is ∙ sym same) ∙ ap (λ (part : List ℕ). Slot.Normal (decoded_version part)) (parts e refl) ∙ sym (shown a j (Pointer.Normal e) is)
slot-by a b j (Pointer.Redirect target) is same parts = shown b j (Pointer.Redirect target) (is ∙ sym same) ∙ sym (shown a j (Pointer.Redirect target) is)
slot-by a b j Pointer.Dead is same parts = shown b j Pointer.Dead (is ∙ sym same) ∙ sym (shown a j Pointer.Dead is)

pub slot-kept : (a b : List ℕ) (j : ℕ) → pointer_in b j ≡ pointer_in a j → ((e : Extent) → pointer_in a j ≡ Pointer.Normal e → part_of b e ≡ part_of a e) → slot_in b j ≡ slot_in a j
slot-kept a b j same parts = slot-by a b j (pointer_in a j) refl same parts

-- the fixed fields of the header stay where all but pd_lower and pd_upper do
pub headed-by : (a b : List ℕ) → ((m n : ℕ) → 8 ≤ m → m + n ≤ 24 → (m + n ≤ 12) ⊎ (16 ≤ m) → number_at m n b ≡ number_at m n a) → IsHeaded a → IsHeaded b
headed-by a b at headed = record {
  checksum = at 8 2 (omega arith) (omega arith) (inl (omega arith)) ∙ headed.checksum;
  flags = subst (λ (f : ℕ). (f ≡ 0) ⊎ (f ≡ 4)) (sym (at 10 2 (omega arith) (omega arith) (inl (omega arith)))) headed.flags;
  special = at 16 2 (omega arith) (omega arith) (inr (omega arith)) ∙ headed.special;
  version = at 18 2 (omega arith) (omega arith) (inr (omega arith)) ∙ headed.version;
  prune_id = at 20 4 (omega arith) (omega arith) (inr (omega arith)) ∙ headed.prune_id;
}

-- the fixed fields of the header, which lie outside
pub headed-kept : (a b : List ℕ) (lo hi : ℕ) → IsHeaded a → Agrees lo hi a b → (24 ≤ lo) ⊎ (hi ≤ 8) → IsHeaded b
headed-kept a b lo hi headed agrees where_ =
    headed-by a b (λ m n low h w. number-outside lo hi m n a b agrees (⊎_elim (λ x. inl (omega arith)) (λ x. inr (omega arith)) where_)) headed

-- A write behind the pointers.

pub sound-behind : (a b : List ℕ) (count lo hi : ℕ) → IsSound a count → Agrees lo hi a b → 24 + 4 * count ≤ lo
    → ((j : ℕ) (e : Extent) → j < count → pointer_in a j ≡ Pointer.Normal e → first_fault (part_of b e) ≡ None) → IsSound b count
sound-behind a b count lo hi sound agrees behind parts =
    let at : (i n : ℕ) → i + n ≤ 24 → number_at i n b ≡ number_at i n a = λ i n h. number-outside lo hi i n a b agrees (inl (omega arith)) in
    sound-from a b count sound (agrees.long ∙ sound.long) (at 12 2 (omega arith)) (at 14 2 (omega arith))
    (headed-kept a b lo hi sound.headed agrees (inl (omega arith)))
    (λ j h. pointer-outside lo hi j a b agrees (inl (omega arith))) (λ j h. plain-outside lo hi j a b agrees (inl (omega arith)) (sound.plain j h)) parts

-- A write of the change number or of the flags.

pub sound-field : (a b : List ℕ) (count lo hi : ℕ) → IsSound a count → Agrees lo hi a b → hi ≤ 12 → IsHeaded b → IsSound b count
sound-field a b count lo hi sound agrees before headed =
    let at : (i n : ℕ) → hi ≤ i → number_at i n b ≡ number_at i n a = λ i n h. number-outside lo hi i n a b agrees (inr h) in
    sound-from a b count sound (agrees.long ∙ sound.long) (at 12 2 (omega arith)) (at 14 2 (omega arith)) headed
    (λ j h. pointer-outside lo hi j a b agrees (inr (omega arith))) (λ j h. plain-outside lo hi j a b agrees (inr (omega arith)) (sound.plain j h))
    (λ j e h is. let good = extent-in a count j e sound h is in
    let over : upper_in a ≤ e.from = good.over in
    let gap : 24 + 4 * count ≤ upper_in a = sound.gap in
    ap first_fault (part-kept a b count lo hi j e sound agrees h is (inr (omega arith))) ∙ good.faultless)

pub slots-field : (a b : List ℕ) (count lo hi : ℕ) → IsSound a count → Agrees lo hi a b → hi ≤ 12 → slots_in count b ≡ slots_in count a
slots-field a b count lo hi sound agrees before =
    slots-kept count a b (λ j h. slot-kept a b j (pointer-outside lo hi j a b agrees (inr (omega arith)))
    (λ e is. let good = extent-in a count j e sound h is in
    let over : upper_in a ≤ e.from = good.over in
    let gap : 24 + 4 * count ≤ upper_in a = sound.gap in
    part-kept a b count lo hi j e sound agrees h is (inr (omega arith))))

-- what a page keeps when its change number or its flags are written
pub record IsNoted (a b : List ℕ) (count : ℕ) : Type 0 where
  pub sound : IsSound b count
  pub slots : slots_in count b ≡ slots_in count a
  pub upper : upper_in b ≡ upper_in a
  pub pointers : (j : ℕ) → pointer_in b j ≡ pointer_in a j

pub change-noted : (a b : List ℕ) (count x : ℕ) → IsSound a count → b ≡ with_number 0 8 x a → IsNoted a b count
change-noted a b count x sound e =
    let long = sound.long in
    let agrees : Agrees 0 8 a b = subst (Agrees 0 8 a) (sym e) (agrees-with_number 0 8 x a (omega arith)) in
    record {
      sound = sound-field a b count 0 8 sound agrees (omega arith) (headed-kept a b 0 8 sound.headed agrees (inr (omega arith)));
      slots = slots-field a b count 0 8 sound agrees (omega arith);
      upper = number-outside 0 8 14 2 a b agrees (inr (omega arith));
      pointers = λ j. pointer-outside 0 8 j a b agrees (inr (omega arith));
    }

pub flags-noted : (a b : List ℕ) (count x : ℕ) → IsSound a count → b ≡ with_number 10 2 x a → (x ≡ 0) ⊎ (x ≡ 4) → IsNoted a b count
flags-noted a b count x sound e one =
    let long = sound.long in
    let agrees : Agrees 10 12 a b = subst (Agrees 10 12 a) (sym e) (agrees-with_number 10 2 x a (omega arith)) in
    let at : (i n : ℕ) → (i + n ≤ 10) ⊎ (12 ≤ i) → number_at i n b ≡ number_at i n a = λ i n h. number-outside 10 12 i n a b agrees h in
    let small : x < 256 ^ 2 = ⊎_elim (λ zero_. omega arith) (λ four. omega arith) one in
    let flags : flags_in b ≡ x = ap flags_in e ∙ number-written 10 2 x a (omega arith) small in
    let headed = sound.headed in
    record {
      sound = sound-field a b count 10 12 sound agrees (omega arith) record {
        checksum = at 8 2 (inl (omega arith)) ∙ headed.checksum;
        flags = subst (λ (f : ℕ). (f ≡ 0) ⊎ (f ≡ 4)) (sym flags) one;
        special = at 16 2 (inr (omega arith)) ∙ headed.special;
        version = at 18 2 (inr (omega arith)) ∙ headed.version;
        prune_id = at 20 4 (inr (omega arith)) ∙ headed.prune_id;
      };
      slots = slots-field a b count 10 12 sound agrees (omega arith);
      upper = at 14 2 (inr (omega arith));
      pointers = λ j. pointer-outside 10 12 j a b agrees (inr (omega arith));
    }

pub fields-apart : (at hi i n : ℕ) (x w : ℕ) (a b : List ℕ) → b ≡ with_number at w x a → hi ≡ at + w → hi ≤ length a → (i + n ≤ at) ⊎ (hi ≤ i) → number_at i n b ≡ number_at i n a
fields-apart at hi i n x w a b e h within where_ =
    let agrees : Agrees at hi a b = subst (Agrees at hi a) (sym e) (subst (λ (t : ℕ). Agrees at t a (with_number at w x a)) (sym h) (agrees-with_number at w x a (omega arith))) in
    number-outside at hi i n a b agrees where_

pub field-written : (at n x : ℕ) (a b : List ℕ) → b ≡ with_number at n x a → at + n ≤ length a → x < 256 ^ n → number_at at n b ≡ x
field-written at n x a b e within small = ap (number_at at n) e ∙ number-written at n x a within small

-- `length-slots_in`, by a name that an attribute can give
pub length_is : (count : ℕ) (bytes : List ℕ) → length (slots_in count bytes) ≡ count
length_is count bytes = length-slots_in count bytes
