-- What a page keeps when a version is added to it.
use Rattle.std.proofs.Common.{◌≡◌, ◌≢◌, ⊎_elim, inl, inr, ◌⊎◌, ℕ, ◌+◌, ◌*◌, ◌%◌, ◌<◌, ◌≤◌, List, take, drop, set, get_or, sum_by, sym, ap, ◌∙◌, subst, refl, arith, None}
use Rattle.std.specs.Int.{next_multiple_of}
use Rattle.std.proofs.lemmas.List.Sums.{sum_by_more_le}
use Rattle.std.proofs.lemmas.Bool.Decides.{nat_tests}
use Rattle.page_sheet.specs.Slots.{bytes_taken}
use Rattle.tuple_header.specs.Layout.{number_at, with_bytes, with_number, decoded_version, encoding}
use Rattle.tuple_header.specs.Faults.{IsVersion, first_fault}
use Rattle.tuple_header.specs.Version.{Version, size_of, rounded_size_of}
use Rattle.tuple_header.proofs.Headers.{encoded-faultless, encoded-value, length-encoding}
use Rattle.page_layout.specs.declared.pointer.Pointer.{Pointer}
use Rattle.page_layout.specs.declared.pointer.Extent.{Extent}
use Rattle.page_layout.specs.Layout.{pointer_of, word_of, IsPointed, pointer_in, part_of, upper_in}
use Rattle.page_sheet.specs.Layout.{slots_in, SlotsBecome}
use Rattle.page_layout.specs.Sound.{IsSound, IsExtent, IsPointer, AreApart, HasPlainWord, IsWritten, AreAbove, end_of}
use Rattle.page_layout.proofs.PointerLemmas.{rounded-up, word-back, word-small, pointer-read, beside}
use Rattle.page_sheet.proofs.Shown.{shown, part-long, taken-shown}
use Rattle.page_sheet.specs.declared.slot.Slot.{Slot}
use Rattle.page_layout.proofs.OrderLemmas.{same_or_other}
use Rattle.page_layout.proofs.Frames.{Agrees, agrees-with_bytes, agrees-with_number, part-written, number-written, number-outside, pointer-outside, plain-outside, plain-written, part-outside}
use Rattle.page_sheet.proofs.Sounds.{slots_in-at, length-slots_in, extent-in, part-kept, slot-kept, slots-kept, slots-set, pointer-kept, headed-kept, headed-by, apart-same, sound-behind}

pub record IsBelow (a b : List ℕ) (count from : ℕ) (v : Version) : Type 0 where
  pub sound : IsSound b count
  pub slots : slots_in count b ≡ slots_in count a
  pub written : IsWritten a b from (size_of v.row) v

-- a version that is written between the pointers and all others
pub written-below : (a b : List ℕ) (count from : ℕ) (v : Version) → IsSound a count → 24 + 4 * count ≤ from → from + rounded_size_of v.row ≤ upper_in a
    → IsVersion v → b ≡ with_bytes from (encoding v) a → IsBelow a b count from v
written-below a b count from v sound gap room fits written =
    let whole = sound.long in
    let top : upper_in a ≤ 8192 = sound.upper in
    let up = rounded-up (size_of v.row) in
    let long = length-encoding v fits in
    let hi = from + size_of v.row in
    let agrees : Agrees from hi a b = subst (Agrees from hi a) (sym written) (agrees-with_bytes from hi (encoding v) a (omega arith) (omega arith)) in
    let here : take (size_of v.row) (drop from b) ≡ encoding v = ap (λ (bytes : List ℕ). take (size_of v.row) (drop from bytes)) written
    ∙ ap (λ (n : ℕ). take n (drop from (with_bytes from (encoding v) a))) (sym long) ∙ part-written from (encoding v) a (omega arith) in
    let others : (j : ℕ) (d : Extent) → j < count → pointer_in a j ≡ Pointer.Normal d → part_of b d ≡ part_of a d = λ j d k is.
    let over : upper_in a ≤ d.from = (extent-in a count j d sound k is).over in
    part-kept a b count from hi j d sound agrees k is (inr (omega arith)) in
    let pointers : (j : ℕ) → 24 + 4 * (j + 1) ≤ from → pointer_in b j ≡ pointer_in a j = λ j k. pointer-outside from hi j a b agrees (inl (omega arith)) in
    record {
      sound = sound-behind a b count from hi sound agrees gap (λ j d k is. ap first_fault (others j d k is) ∙ (extent-in a count j d sound k is).faultless);
      slots = slots-kept count a b (λ j k. slot-kept a b j (pointers j (omega arith)) (λ d is. others j d k is));
      written = record {
        faultless = ap first_fault here ∙ encoded-faultless v fits;
        value = ap decoded_version here ∙ encoded-value v fits;
        change = number-outside from hi 0 8 a b agrees (inl (omega arith));
        flags = number-outside from hi 10 2 a b agrees (inl (omega arith));
        upper = number-outside from hi 14 2 a b agrees (inl (omega arith));
        pointers = pointers;
      };
    }

pub record IsLowered (a b : List ℕ) (count top : ℕ) : Type 0 where
  pub sound : IsSound b count
  pub slots : SlotsBecome a b count (slots_in count a)
  pub upper : upper_in b ≡ top
  pub parts : (e : Extent) → 24 ≤ e.from → e.from + e.len ≤ 8192 → part_of b e ≡ part_of a e
  pub pointers : (i : ℕ) → pointer_in b i ≡ pointer_in a i

pointer-lowered : (a b : List ℕ) (count : ℕ) (p : Pointer) → upper_in b ≤ upper_in a → IsPointer a count p
    → ((e : Extent) → p ≡ Pointer.Normal e → part_of b e ≡ part_of a e) → IsPointer b count p
pointer-lowered a b count Pointer.Unused down good parts = good
pointer-lowered a b count (Pointer.Normal e) down good parts =
    let over : upper_in a ≤ e.from = good.over in
    record { over = omega arith; aligned = good.aligned; least = good.least; within = good.within; faultless = ap first_fault (parts e refl) ∙ good.faultless }
pointer-lowered a b count (Pointer.Redirect target) down good parts = good
pointer-lowered a b count Pointer.Dead down good parts = good

pub upper-lowered : (a b : List ℕ) (count upper : ℕ) → IsSound a count → 24 + 4 * count ≤ upper → upper ≤ upper_in a → upper % 8 ≡ 0
    → b ≡ with_number 14 2 upper a → IsLowered a b count upper
upper-lowered a b count upper sound gap down aligned written =
    let whole = sound.long in
    let top : upper_in a ≤ 8192 = sound.upper in
    let old_gap : 24 + 4 * count ≤ upper_in a = sound.gap in
    let agrees : Agrees 14 16 a b = subst (Agrees 14 16 a) (sym written) (agrees-with_number 14 2 upper a (omega arith)) in
    let at : (m n : ℕ) → (m + n ≤ 14) ⊎ (16 ≤ m) → number_at m n b ≡ number_at m n a = λ m n h. number-outside 14 16 m n a b agrees h in
    let is : upper_in b ≡ upper = ap upper_in written ∙ number-written 14 2 upper a (omega arith) (omega arith) in
    let parts : (e : Extent) → 24 ≤ e.from → e.from + e.len ≤ 8192 → part_of b e ≡ part_of a e = λ e from to. part-outside 14 16 e a b agrees (omega arith) (inr (omega arith)) in
    let pointers : (i : ℕ) → pointer_in b i ≡ pointer_in a i = λ i. pointer-outside 14 16 i a b agrees (inr (omega arith)) in
    let kept : (j : ℕ) (d : Extent) → j < count → pointer_in a j ≡ Pointer.Normal d → part_of b d ≡ part_of a d = λ j d k there.
    let over : upper_in a ≤ d.from = (extent-in a count j d sound k there).over in
    part-kept a b count 14 16 j d sound agrees k there (inr (omega arith)) in
    record {
      sound = record {
        long = agrees.long ∙ whole;
        few = sound.few;
        lower = at 12 2 (inl (omega arith)) ∙ sound.lower;
        gap = subst (λ (u : ℕ). 24 + 4 * count ≤ u) (sym is) gap;
        upper = subst (λ (u : ℕ). u ≤ 8192) (sym is) (omega arith);
        aligned = ap (λ (u : ℕ). u % 8) is ∙ aligned;
        headed = headed-by a b (λ m n low h w. at m n (⊎_elim (λ x. inl (omega arith)) inr w)) sound.headed;
        pointers = λ j h. subst (IsPointer b count) (sym (pointers j)) (pointer-lowered a b count (pointer_in a j) (subst (λ (u : ℕ). u ≤ upper_in a) (sym is) down) (sound.pointers j h) (λ e there. kept j e h there));
        plain = λ j h. plain-outside 14 16 j a b agrees (inr (omega arith)) (sound.plain j h);
        apart = λ i j h k. apart-same a b i j (pointers i) (pointers j) (sound.apart i j h k);
      };
      slots = record {
        are = slots-kept count a b (λ j k. slot-kept a b j (pointers j) (λ d there. kept j d k there));
        change = at 0 8 (inl (omega arith));
        flags = at 10 2 (inl (omega arith));
      };
      upper = is;
      parts = parts;
      pointers = pointers;
    }

-- a pointer to a version that lies below all others
pub record IsPlaced (a b : List ℕ) (count i : ℕ) (e : Extent) : Type 0 where
  pub sound : IsSound b count
  pub slots : SlotsBecome a b count (set (slots_in count a) i (Slot.Normal (decoded_version (part_of a e))))
  pub upper : upper_in b ≡ upper_in a
  pub here : pointer_in b i ≡ Pointer.Normal e
  pub others : (j : ℕ) → j ≢ i → pointer_in b j ≡ pointer_in a j

pub above-apart : (e : Extent) (q : Pointer) → ((d : Extent) → q ≡ Pointer.Normal d → end_of e ≤ d.from) → AreApart (Pointer.Normal e) q
above-apart e Pointer.Unused above = tt
above-apart e (Pointer.Normal d) above = inl (above d refl)
above-apart e (Pointer.Redirect target) above = tt
above-apart e Pointer.Dead above = tt

pub apart-above : (e : Extent) (q : Pointer) → ((d : Extent) → q ≡ Pointer.Normal d → end_of e ≤ d.from) → AreApart q (Pointer.Normal e)
apart-above e Pointer.Unused above = tt
apart-above e (Pointer.Normal d) above = inr (above d refl)
apart-above e (Pointer.Redirect target) above = tt
apart-above e Pointer.Dead above = tt

pub pointer-placed : (a b : List ℕ) (count i : ℕ) (e : Extent) → IsSound a count → i < count → IsExtent a e → AreAbove a count i e
    → b ≡ with_number (24 + 4 * i) 4 (word_of (Pointer.Normal e)) a → IsPlaced a b count i e
pointer-placed a b count i e sound within good above written =
    let whole = sound.long in
    let few = sound.few in
    let gap : 24 + 4 * count ≤ upper_in a = sound.gap in
    let size = part-long a e whole good in
    let least : 66 ≤ e.len = good.least in
    let from_end : e.from + e.len ≤ 8192 = size.1 in
    let over : upper_in a ≤ e.from = good.over in
    let p = Pointer.Normal e in
    let fits : IsPointed p = (omega arith, omega arith) in
    let lo = 24 + 4 * i in
    let hi = 24 + 4 * i + 4 in
    let agrees : Agrees lo hi a b = subst (Agrees lo hi a) (sym written) (agrees-with_number lo 4 (word_of p) a (omega arith)) in
    let at : (m n : ℕ) → m + n ≤ 24 → number_at m n b ≡ number_at m n a = λ m n h. number-outside lo hi m n a b agrees (inl (omega arith)) in
    let word : number_at lo 4 b ≡ word_of p = ap (number_at lo 4) written ∙ number-written lo 4 (word_of p) a (omega arith) (word-small p fits) in
    let here : pointer_in b i ≡ p = pointer-read b i ∙ ap pointer_of word ∙ word-back p fits in
    let pointers : (j : ℕ) → j ≢ i → pointer_in b j ≡ pointer_in a j = λ j other. pointer-outside lo hi j a b agrees (beside i j other) in
    let parts : (j : ℕ) (d : Extent) → j < count → pointer_in a j ≡ Pointer.Normal d → part_of b d ≡ part_of a d = λ j d h is.
    let high : upper_in a ≤ d.from = (extent-in a count j d sound h is).over in
    part-kept a b count lo hi j d sound agrees h is (inr (omega arith)) in
    let part : part_of b e ≡ part_of a e = part-outside lo hi e a b agrees (omega arith) (inr (omega arith)) in
    let upper : upper_in b ≡ upper_in a = at 14 2 (omega arith) in
    let new : IsExtent b e = record { over = subst (λ (u : ℕ). u ≤ e.from) (sym upper) over; aligned = good.aligned; least = least; within = good.within; faultless = ap first_fault part ∙ good.faultless } in
    record {
      sound = record {
        long = agrees.long ∙ whole;
        few = few;
        lower = at 12 2 (omega arith) ∙ sound.lower;
        gap = subst (λ (u : ℕ). 24 + 4 * count ≤ u) (sym upper) gap;
        upper = subst (λ (u : ℕ). u ≤ 8192) (sym upper) sound.upper;
        aligned = ap (λ (u : ℕ). u % 8) upper ∙ sound.aligned;
        headed = headed-kept a b lo hi sound.headed agrees (inl (omega arith));
        pointers = λ j h. ⊎_elim
            (λ same. subst (IsPointer b count) (sym (ap (pointer_in b) same ∙ here)) new)
            (λ other. subst (IsPointer b count) (sym (pointers j other)) (pointer-kept a b count (pointer_in a j) upper (sound.pointers j h)
            (λ d is. ap first_fault (parts j d h is) ∙ (extent-in a count j d sound h is).faultless)))
            (same_or_other j i);
        plain = λ j h. ⊎_elim
            (λ same. subst (HasPlainWord b) (sym same) (plain-written b i p word here))
            (λ other. plain-outside lo hi j a b agrees (beside i j other) (sound.plain j h))
            (same_or_other j i);
        apart = λ j k h g. ⊎_elim
            (λ same. ⊎_elim
            (λ too. inl (same ∙ sym too))
            (λ other. inr (subst (λ (q : Pointer). AreApart q (pointer_in b k)) (sym (ap (pointer_in b) same ∙ here))
            (above-apart e (pointer_in b k) (λ d is. above k d g other (sym (pointers k other) ∙ is)))))
            (same_or_other k i))
            (λ other. ⊎_elim
            (λ same. inr (subst (λ (q : Pointer). AreApart (pointer_in b j) q) (sym (ap (pointer_in b) same ∙ here))
            (apart-above e (pointer_in b j) (λ d is. above j d h other (sym (pointers j other) ∙ is)))))
            (λ too. ⊎_elim inl (λ far. inr (subst (λ (q : Pointer). AreApart q (pointer_in b k)) (sym (pointers j other))
            (subst (λ (q : Pointer). AreApart (pointer_in a j) q) (sym (pointers k too)) far))) (sound.apart j k h g))
            (same_or_other k i))
            (same_or_other j i);
      };
      slots = record {
        are = slots-set count i a b (Slot.Normal (decoded_version (part_of a e))) within
            (shown b i p (sym here) ∙ ap (λ (x : List ℕ). Slot.Normal (decoded_version x)) part)
            (λ j h other. slot-kept a b j (pointers j other) (λ d is. parts j d h is));
        change = at 0 8 (omega arith);
        flags = at 10 2 (omega arith);
      };
      upper = upper;
      here = here;
      others = pointers;
    }

pub rounded_even : (n : ℕ) → next_multiple_of n 8 % 8 ≡ 0
rounded_even n = grind (arith, nat_tests)

pub below-aligned : (upper from n : ℕ) → upper % 8 ≡ 0 → from + next_multiple_of n 8 ≡ upper → from % 8 ≡ 0
below-aligned upper from n even is = let e = rounded_even n in omega arith

-- what was written below all others is a version to which a pointer may lead
pub extent-written : (a b : List ℕ) (count : ℕ) (e : Extent) (v : Version) → IsSound a count → e.len ≡ size_of v.row → e.from + rounded_size_of v.row ≡ upper_in a
    → upper_in b ≡ e.from → first_fault (part_of b e) ≡ None → IsExtent b e
extent-written a b count e v sound len_is room upper none =
    let even : upper_in a % 8 ≡ 0 = sound.aligned in
    let top : upper_in a ≤ 8192 = sound.upper in
    let end : e.from + next_multiple_of e.len 8 ≡ upper_in a = ap (λ (n : ℕ). e.from + next_multiple_of n 8) len_is ∙ room in
    record {
      over = omega arith;
      aligned = below-aligned (upper_in a) e.from e.len even end;
      least = omega arith;
      within = omega arith;
      faultless = none;
    }

-- a version that was put below all others, and the pointer to it
pub record IsAdded (a b : List ℕ) (count i : ℕ) (e : Extent) (v : Version) : Type 0 where
  pub sound : IsSound b count
  pub slots : SlotsBecome a b count (set (slots_in count a) i (Slot.Normal v))
  pub upper : upper_in b ≡ e.from
  pub here : pointer_in b i ≡ Pointer.Normal e
  pub others : (j : ℕ) → j < count → j ≢ i → pointer_in b j ≡ pointer_in a j

pub added : (a m n b : List ℕ) (count i : ℕ) (e : Extent) (v : Version) → IsSound a count → i < count → 24 + 4 * count ≤ e.from → e.from + rounded_size_of v.row ≡ upper_in a
    → e.len ≡ size_of v.row → IsVersion v → m ≡ with_bytes e.from (encoding v) a → n ≡ with_number 14 2 e.from m → b ≡ with_number (24 + 4 * i) 4 (word_of (Pointer.Normal e)) n
    → IsAdded a b count i e v
added a m n b count i e v sound within gap room len_is fits first second third =
    let up = rounded-up (size_of v.row) in
    let top : upper_in a ≤ 8192 = sound.upper in
    let below = written-below a m count e.from v sound gap (omega arith) fits first in
    let written = below.written in
    let upper : upper_in m ≡ upper_in a = written.upper in
    let lowered = upper-lowered m n count e.from below.sound gap (omega arith) (below-aligned (upper_in a) e.from (size_of v.row) sound.aligned room) second in
    let part : part_of n e ≡ part_of m e = lowered.parts e (omega arith) (omega arith) in
    let none : first_fault (part_of n e) ≡ None = ap first_fault part ∙ ap (λ (k : ℕ). first_fault (take k (drop e.from m))) len_is ∙ written.faultless in
    let good : IsExtent n e = extent-written a n count e v sound len_is room lowered.upper none in
    let same : (j : ℕ) → j < count → pointer_in n j ≡ pointer_in a j = λ j h. lowered.pointers j ∙ written.pointers j (omega arith) in
    let above : AreAbove n count i e = λ j d h other is.
    let over : upper_in a ≤ d.from = (extent-in a count j d sound h (sym (same j h) ∙ is)).over in
    let size : next_multiple_of e.len 8 ≡ rounded_size_of v.row = ap (λ (k : ℕ). next_multiple_of k 8) len_is in
    omega arith in
    let placed = pointer-placed n b count i e lowered.sound within good above third in
    let version : decoded_version (part_of n e) ≡ v = ap decoded_version part ∙ ap (λ (k : ℕ). decoded_version (take k (drop e.from m))) len_is ∙ written.value in
    record {
      sound = placed.sound;
      slots = record {
        are = placed.slots.are ∙ ap (λ (xs : List Slot). set xs i (Slot.Normal (decoded_version (part_of n e)))) (lowered.slots.are ∙ below.slots)
            ∙ ap (λ (w : Version). set (slots_in count a) i (Slot.Normal w)) version;
        change = placed.slots.change ∙ lowered.slots.change ∙ written.change;
        flags = placed.slots.flags ∙ lowered.slots.flags ∙ written.flags;
      };
      upper = placed.upper ∙ lowered.upper;
      here = placed.here;
      others = λ j h other. placed.others j other ∙ same j h;
    }

-- Where no slot holds a version, the upper bound may be anywhere behind the pointers.

pointer-bare : (a b : List ℕ) (count : ℕ) (p : Pointer) → ((e : Extent) → p ≡ Pointer.Normal e → ⊥) → IsPointer a count p → IsPointer b count p
pointer-bare a b count Pointer.Unused none good = good
pointer-bare a b count (Pointer.Normal e) none good = absurd (none e refl)
pointer-bare a b count (Pointer.Redirect target) none good = good
pointer-bare a b count Pointer.Dead none good = good

pub record IsLifted (a b : List ℕ) (count : ℕ) : Type 0 where
  pub sound : IsSound b count
  pub slots : SlotsBecome a b count (slots_in count a)
  pub upper : upper_in b ≡ 8192
  pub pointers : (i : ℕ) → pointer_in b i ≡ pointer_in a i

pub upper-lifted : (a b : List ℕ) (count : ℕ) → IsSound a count → ((j : ℕ) (e : Extent) → j < count → pointer_in a j ≡ Pointer.Normal e → ⊥)
    → b ≡ with_number 14 2 8192 a → IsLifted a b count
upper-lifted a b count sound none written =
    let whole = sound.long in
    let few = sound.few in
    let agrees : Agrees 14 16 a b = subst (Agrees 14 16 a) (sym written) (agrees-with_number 14 2 8192 a (omega arith)) in
    let at : (m n : ℕ) → (m + n ≤ 14) ⊎ (16 ≤ m) → number_at m n b ≡ number_at m n a = λ m n h. number-outside 14 16 m n a b agrees h in
    let is : upper_in b ≡ 8192 = ap upper_in written ∙ number-written 14 2 8192 a (omega arith) (omega arith) in
    let pointers : (i : ℕ) → pointer_in b i ≡ pointer_in a i = λ i. pointer-outside 14 16 i a b agrees (inr (omega arith)) in
    record {
      sound = record {
        long = agrees.long ∙ whole;
        few = few;
        lower = at 12 2 (inl (omega arith)) ∙ sound.lower;
        gap = subst (λ (u : ℕ). 24 + 4 * count ≤ u) (sym is) (omega arith);
        upper = subst (λ (u : ℕ). u ≤ 8192) (sym is) (omega arith);
        aligned = ap (λ (u : ℕ). u % 8) is;
        headed = headed-by a b (λ m n low h w. at m n (⊎_elim (λ x. inl (omega arith)) inr w)) sound.headed;
        pointers = λ j h. subst (IsPointer b count) (sym (pointers j)) (pointer-bare a b count (pointer_in a j) (λ e there. none j e h there) (sound.pointers j h));
        plain = λ j h. plain-outside 14 16 j a b agrees (inr (omega arith)) (sound.plain j h);
        apart = λ i j h k. apart-same a b i j (pointers i) (pointers j) (sound.apart i j h k);
      };
      slots = record {
        are = slots-kept count a b (λ j k. slot-kept a b j (pointers j) (λ d there. absurd (none j d k there)));
        change = at 0 8 (inl (omega arith));
        flags = at 10 2 (inl (omega arith));
      };
      upper = is;
      pointers = pointers;
    }

-- no slot holds a version where none takes a byte
pub none-taken : (a : List ℕ) (count j : ℕ) (e : Extent) → IsSound a count → sum_by bytes_taken (slots_in count a) ≡ 0 → j < count → pointer_in a j ≡ Pointer.Normal e → ⊥
none-taken a count j e sound nothing within is =
    let good = extent-in a count j e sound within is in
    let least : 66 ≤ e.len = good.least in
    let up = rounded-up e.len in
    let long = length-slots_in count a in
    let more = sum_by_more_le bytes_taken (slots_in count a) j Slot.Unused (omega arith) in
    let here : bytes_taken (get_or (slots_in count a) j Slot.Unused) ≡ next_multiple_of e.len 8 = ap bytes_taken (slots_in-at count a j Slot.Unused within) ∙ taken-shown a j e sound.long good (sym is) in
    absurd (omega arith)
