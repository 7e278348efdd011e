-- One version more is moved to where it goes, or a slot without one is passed.
use Rattle.std.proofs.Common.{◌≡◌, ⊎_elim, inl, inr, ◌⊎◌, ℕ, ◌+◌, ◌*◌, ◌-◌, ◌%◌, ◌<◌, ◌≤◌, List, length, take, drop, sum_by, sym, ap, ◌∙◌, subst, refl, arith, length-take, length-drop}
use Rattle.std.specs.Int.{next_multiple_of}
use Rattle.std.proofs.lemmas.List.{take_all}
use Rattle.std.proofs.lemmas.List.Sums.{sum_by_more, sum_by-take-le}
use Rattle.tuple_header.specs.Layout.{number_at, with_bytes, with_number, decoded_version}
use Rattle.tuple_header.specs.Faults.{first_fault}
use Rattle.page_layout.specs.declared.pointer.Pointer.{Pointer}
use Rattle.page_layout.specs.declared.pointer.Extent.{Extent}
use Rattle.page_sheet.specs.declared.slot.Slot.{Slot}
use Rattle.page_sheet.specs.Slots.{bytes_taken}
use Rattle.page_layout.specs.Layout.{pointer_of, word_of, IsPointed, pointer_in, part_of, upper_in}
use Rattle.page_sheet.specs.Layout.{slot_in, slots_in, SlotsBecome}
use Rattle.page_layout.specs.Sound.{IsSound, IsExtent, IsPointer, AreApart, HasPlainWord}
use Rattle.page_sheet.specs.Packing.{LiesOver, LieInOrder, IsPacked, IsMoved}
use Rattle.page_layout.proofs.PointerLemmas.{rounded-up, word-back, word-small, pointer-read, beside}
use Rattle.page_sheet.proofs.Shown.{shown, taken-shown}
use Rattle.page_layout.proofs.OrderLemmas.{same_or_other, below_or_last}
use Rattle.page_layout.proofs.Frames.{Agrees, agrees-with_bytes, agrees-with_number, part-written, number-written, number-outside, pointer-outside, plain-outside, plain-written, part-outside}
use Rattle.page_sheet.proofs.Sounds.{extent-in, headed-by, apart-same, slot-kept, slots-kept, slots_in-at, length-slots_in}
use Rattle.page_sheet.proofs.Added.{below-aligned, above-apart, apart-above}
use Rattle.page_sheet.proofs.HeaderSet.{same_extent}

pub version-moved : (old new m b : List ℕ) (i top : ℕ) (e : Extent) → length new ≡ 8192 → length (part_of old e) ≡ e.len → 28 + 4 * i ≤ top → top + e.len ≤ 8192
    → m ≡ with_bytes top (part_of old e) new → b ≡ with_number (24 + 4 * i) 4 (word_of (Pointer.Normal (record { from = top; len = e.len }))) m → IsMoved new b i top e old
version-moved old new m b i top e whole size low high first second =
    let to : Extent = record { from = top; len = e.len } in
    let p = Pointer.Normal to in
    let agrees_1 : Agrees top (top + e.len) new m = subst (Agrees top (top + e.len) new) (sym first) (agrees-with_bytes top (top + e.len) (part_of old e) new (omega arith) (omega arith)) in
    let middle = agrees_1.long in
    let lo = 24 + 4 * i in
    let hi = 24 + 4 * i + 4 in
    let agrees_2 : Agrees lo hi m b = subst (Agrees lo hi m) (sym second) (agrees-with_number lo 4 (word_of p) m (omega arith)) in
    let fits : IsPointed p = (omega arith, omega arith) in
    let word : number_at lo 4 b ≡ word_of p = ap (number_at lo 4) second ∙ number-written lo 4 (word_of p) m (omega arith) (word-small p fits) in
    let here : pointer_in b i ≡ p = pointer-read b i ∙ ap pointer_of word ∙ word-back p fits in
    let written : part_of m to ≡ part_of old e = ap (λ (bytes : List ℕ). take e.len (drop top bytes)) first
    ∙ ap (λ (n : ℕ). take n (drop top (with_bytes top (part_of old e) new))) (sym size) ∙ part-written top (part_of old e) new (omega arith) in
    record {
      long = agrees_2.long ∙ agrees_1.long ∙ whole;
      header = λ a n h. number-outside lo hi a n m b agrees_2 (inl (omega arith)) ∙ number-outside top (top + e.len) a n new m agrees_1 (inl (omega arith));
      others = λ j other h. pointer-outside lo hi j m b agrees_2 (beside i j other) ∙ pointer-outside top (top + e.len) j new m agrees_1 (inl (omega arith));
      here = here;
      plain = plain-written b i p word here;
      plain_others = λ j other h was. plain-outside lo hi j m b agrees_2 (beside i j other) (plain-outside top (top + e.len) j new m agrees_1 (inl (omega arith)) was);
      part = part-outside lo hi to m b agrees_2 (omega arith) (inr (omega arith)) ∙ written;
      above = λ d h k. part-outside lo hi d m b agrees_2 (omega arith) (inr (omega arith)) ∙ part-outside top (top + e.len) d new m agrees_1 (omega arith) (inr (omega arith));
    }

-- so one slot more is packed
pub packed-normal : (old new b : List ℕ) (count i upper top : ℕ) (e : Extent) → IsSound old count → i < count → pointer_in old i ≡ Pointer.Normal e
    → IsPacked old new count i upper → top + next_multiple_of e.len 8 ≡ upper → 24 + 4 * count ≤ top
    → top + sum_by bytes_taken (take (i + 1) (slots_in count old)) ≡ 8192 → IsMoved new b i top e old → IsPacked old b count (i + 1) top
packed-normal old new b count i upper top e sound within is packed room low total moved =
    let to : Extent = record { from = top; len = e.len } in
    let good = extent-in old count i e sound within is in
    let up = rounded-up e.len in
    let even = packed.even in
    let least : 66 ≤ e.len = good.least in
    let sum = packed.total in
    let over_new : (j : ℕ) (d : Extent) → j < i → pointer_in new j ≡ Pointer.Normal d → part_of b d ≡ part_of new d = λ j d h there.
    let o = packed.over j d h there in
    let from : upper ≤ d.from = o.over in
    let end : d.from + next_multiple_of d.len 8 ≤ 8192 = o.within in
    let more = rounded-up d.len in
    moved.above d (omega arith) (omega arith) in
    let pointers : (j : ℕ) → j < i → pointer_in b j ≡ pointer_in new j = λ j h. moved.others j (λ same. absurd (omega arith)) (omega arith) in
    let to_over : LiesOver b top to = record {
      over = omega arith;
      aligned = below-aligned upper top e.len even room;
      least = least;
      within = omega arith;
      faultless = ap first_fault moved.part ∙ good.faultless;
    } in
    record {
      long = moved.long;
      total = total;
      even = below-aligned upper top e.len even room;
      header = λ m n h. moved.header m n h ∙ packed.header m n h;
      later = λ j h k. moved.others j (λ same. absurd (omega arith)) (omega arith) ∙ packed.later j (omega arith) k;
      plain = λ j h. ⊎_elim
          (λ same. subst (HasPlainWord b) (sym same) moved.plain)
          (λ other. moved.plain_others j other (omega arith) (packed.plain j h))
          (same_or_other j i);
      slots = λ j h. ⊎_elim
          (λ same. ap (slot_in b) same ∙ shown b i (Pointer.Normal to) (sym moved.here) ∙ ap (λ (x : List ℕ). Slot.Normal (decoded_version x)) moved.part
          ∙ sym (shown old i (Pointer.Normal e) (sym is)) ∙ ap (slot_in old) (sym same))
          (λ other. let below = below_or_last j i h other in
          slot-kept new b j (pointers j below) (λ d there. over_new j d below there) ∙ packed.slots j below)
          (same_or_other j i);
      bare = λ j h none. ⊎_elim
          (λ same. absurd (none e (ap (pointer_in old) same ∙ is)))
          (λ other. let below = below_or_last j i h other in pointers j below ∙ packed.bare j below none)
          (same_or_other j i);
      over = λ j d h there. ⊎_elim
          (λ same. subst (LiesOver b top) (same_extent to d (sym moved.here ∙ ap (pointer_in b) (sym same) ∙ there)) to_over)
          (λ other. let below = below_or_last j i h other in
          let was : pointer_in new j ≡ Pointer.Normal d = sym (pointers j below) ∙ there in
          let o = packed.over j d below was in
          let from : upper ≤ d.from = o.over in
          record { over = omega arith; aligned = o.aligned; least = o.least; within = o.within; faultless = ap first_fault (over_new j d below was) ∙ o.faultless })
          (same_or_other j i);
      order = λ j d h there. ⊎_elim
          (λ same. subst (λ (x : Extent). x.from + sum_by bytes_taken (take (j + 1) (slots_in count old)) ≡ 8192)
          (same_extent to d (sym moved.here ∙ ap (pointer_in b) (sym same) ∙ there))
          (subst (λ (k : ℕ). top + sum_by bytes_taken (take (k + 1) (slots_in count old)) ≡ 8192) (sym same) total))
          (λ other. let below = below_or_last j i h other in packed.order j d below (sym (pointers j below) ∙ there))
          (same_or_other j i);
      normal = λ j d h there. ⊎_elim
          (λ same. (to, ap (pointer_in b) same ∙ moved.here))
          (λ other. let below = below_or_last j i h other in let n = packed.normal j d below there in (n.0, pointers j below ∙ n.1))
          (same_or_other j i);
      apart = λ j k h g. ⊎_elim
          (λ same. ⊎_elim
          (λ too. inl (same ∙ sym too))
          (λ other. let below = below_or_last k i g other in
          inr (subst (λ (q : Pointer). AreApart q (pointer_in b k)) (sym (ap (pointer_in b) same ∙ moved.here))
          (above-apart to (pointer_in b k) (λ d there. all_over k d below (sym (pointers k below) ∙ there)))))
          (same_or_other k i))
          (λ other. let below_j = below_or_last j i h other in ⊎_elim
          (λ same. inr (subst (λ (q : Pointer). AreApart (pointer_in b j) q) (sym (ap (pointer_in b) same ∙ moved.here))
          (apart-above to (pointer_in b j) (λ d there. all_over j d below_j (sym (pointers j below_j) ∙ there)))))
          (λ too. let below_k = below_or_last k i g too in
          ⊎_elim inl (λ far. inr (subst (λ (q : Pointer). AreApart q (pointer_in b k)) (sym (pointers j below_j))
          (subst (λ (q : Pointer). AreApart (pointer_in new j) q) (sym (pointers k below_k)) far))) (packed.apart j k below_j below_k))
          (same_or_other k i))
          (same_or_other j i);
    }
  where
    all_over : (j : ℕ) (d : Extent) → j < i → pointer_in new j ≡ Pointer.Normal d → top + next_multiple_of e.len 8 ≤ d.from
    all_over j d h there = let from : upper ≤ d.from = (packed.over j d h there).over in omega arith

-- a slot without a version is passed

pub none-taken : (bytes : List ℕ) (i : ℕ) (p : Pointer) → p ≡ pointer_in bytes i → ((e : Extent) → p ≡ Pointer.Normal e → ⊥) → bytes_taken (slot_in bytes i) ≡ 0
none-taken bytes i Pointer.Unused is none = ap bytes_taken (shown bytes i Pointer.Unused is)
none-taken bytes i (Pointer.Normal e) is none = absurd (none e refl)
none-taken bytes i (Pointer.Redirect target) is none = ap bytes_taken (shown bytes i (Pointer.Redirect target) is)
none-taken bytes i Pointer.Dead is none = ap bytes_taken (shown bytes i Pointer.Dead is)

none-apart : (p q : Pointer) → ((e : Extent) → p ≡ Pointer.Normal e → ⊥) → AreApart p q
none-apart Pointer.Unused q none = tt
none-apart (Pointer.Normal e) q none = absurd (none e refl)
none-apart (Pointer.Redirect target) q none = tt
none-apart Pointer.Dead q none = tt

apart-none : (q p : Pointer) → ((e : Extent) → p ≡ Pointer.Normal e → ⊥) → AreApart q p
apart-none Pointer.Unused p none = tt
apart-none (Pointer.Normal d) Pointer.Unused none = tt
apart-none (Pointer.Normal d) (Pointer.Normal e) none = absurd (none e refl)
apart-none (Pointer.Normal d) (Pointer.Redirect target) none = tt
apart-none (Pointer.Normal d) Pointer.Dead none = tt
apart-none (Pointer.Redirect target) p none = tt
apart-none Pointer.Dead p none = tt

-- what the first so many slots take
pub taken-more : (old : List ℕ) (count i : ℕ) → i < count → sum_by bytes_taken (take (i + 1) (slots_in count old)) ≡ sum_by bytes_taken (take i (slots_in count old)) + bytes_taken (slot_in old i)
taken-more old count i within =
    let long = length-slots_in count old in
    sum_by_more bytes_taken (slots_in count old) i Slot.Unused (omega arith)
    ∙ ap (λ (s : Slot). sum_by bytes_taken (take i (slots_in count old)) + bytes_taken s) (slots_in-at count old i Slot.Unused within)

pub packed-none : (old new : List ℕ) (count i upper : ℕ) (p : Pointer) → i < count → p ≡ pointer_in old i → ((e : Extent) → p ≡ Pointer.Normal e → ⊥)
    → IsPacked old new count i upper → IsPacked old new count (i + 1) upper
packed-none old new count i upper p within is none packed =
    let here : pointer_in new i ≡ p = packed.later i (omega arith) within ∙ sym is in
    let nothing : (e : Extent) → pointer_in new i ≡ Pointer.Normal e → ⊥ = λ e there. none e (sym here ∙ there) in
    let same_pointer : pointer_in new i ≡ pointer_in old i = here ∙ is in
    record {
      long = packed.long;
      total = ap (λ (n : ℕ). upper + n) (taken-more old count i within) ∙ ap (λ (n : ℕ). upper + (sum_by bytes_taken (take i (slots_in count old)) + n)) (none-taken old i p is none) ∙ same_total packed.total;
      even = packed.even;
      header = packed.header;
      later = λ j h k. packed.later j (omega arith) k;
      plain = packed.plain;
      slots = λ j h. ⊎_elim
          (λ same. ap (slot_in new) same ∙ slot-kept old new i same_pointer (λ e there. absurd (none e (is ∙ there))) ∙ ap (slot_in old) (sym same))
          (λ other. packed.slots j (below_or_last j i h other)) (same_or_other j i);
      bare = λ j h no. ⊎_elim (λ same. ap (pointer_in new) same ∙ same_pointer ∙ ap (pointer_in old) (sym same)) (λ other. packed.bare j (below_or_last j i h other) no) (same_or_other j i);
      over = λ j d h there. ⊎_elim (λ same. absurd (nothing d (ap (pointer_in new) (sym same) ∙ there))) (λ other. packed.over j d (below_or_last j i h other) there) (same_or_other j i);
      order = λ j d h there. ⊎_elim (λ same. absurd (nothing d (ap (pointer_in new) (sym same) ∙ there))) (λ other. packed.order j d (below_or_last j i h other) there) (same_or_other j i);
      normal = λ j d h there. ⊎_elim (λ same. absurd (none d (is ∙ ap (pointer_in old) (sym same) ∙ there))) (λ other. packed.normal j d (below_or_last j i h other) there) (same_or_other j i);
      apart = λ j k h g. ⊎_elim
          (λ same. inr (none-apart (pointer_in new j) (pointer_in new k) (λ e there. nothing e (ap (pointer_in new) (sym same) ∙ there))))
          (λ other. ⊎_elim
          (λ same. inr (apart-none (pointer_in new j) (pointer_in new k) (λ e there. nothing e (ap (pointer_in new) (sym same) ∙ there))))
          (λ too. packed.apart j k (below_or_last j i h other) (below_or_last k i g too))
          (same_or_other k i))
          (same_or_other j i);
    }
  where
    same_total : upper + sum_by bytes_taken (take i (slots_in count old)) ≡ 8192 → upper + (sum_by bytes_taken (take i (slots_in count old)) + 0) ≡ 8192
    same_total e = omega arith

-- what one version more leaves of the page
pub record Fits (old : List ℕ) (count i upper : ℕ) (e : Extent) : Type 0 where
  pub size : next_multiple_of e.len 8 ≤ upper
  pub low : 24 + 4 * count ≤ upper - next_multiple_of e.len 8
  pub total : (upper - next_multiple_of e.len 8) + sum_by bytes_taken (take (i + 1) (slots_in count old)) ≡ 8192

pub version-fits : (old new : List ℕ) (count i upper : ℕ) (e : Extent) → IsSound old count → i < count → pointer_in old i ≡ Pointer.Normal e
    → 4 * count + sum_by bytes_taken (slots_in count old) ≤ 8168 → IsPacked old new count i upper → Fits old count i upper e
version-fits old new count i upper e sound within is room packed =
    let good = extent-in old count i e sound within is in
    let more = taken-more old count i within in
    let size = taken-shown old i e sound.long good (sym is) in
    let all = sum_by-take-le bytes_taken (slots_in count old) (i + 1) in
    let sum = packed.total in
    record { size = omega arith; low = omega arith; total = omega arith }

pub part-size : (old : List ℕ) (e : Extent) → e.from + e.len ≤ length old → length (part_of old e) ≡ e.len
part-size old e within = rw (length-take, length-drop) (omega arith)

-- Once all are packed and the upper bound is written, the bytes are a page again.
pub record IsCompacted (old b : List ℕ) (count top : ℕ) : Type 0 where
  pub sound : IsSound b count
  pub slots : SlotsBecome old b count (slots_in count old)
  pub upper : upper_in b + sum_by bytes_taken (slots_in count old) ≡ 8192
  pub order : LieInOrder b (slots_in count old) count

extent-packed : (new b : List ℕ) (top : ℕ) (d : Extent) → upper_in b ≡ top → part_of b d ≡ part_of new d → LiesOver new top d → IsExtent b d
extent-packed new b top d is same o = record {
  over = subst (λ (u : ℕ). u ≤ d.from) (sym is) o.over;
  aligned = o.aligned;
  least = o.least;
  within = o.within;
  faultless = ap first_fault same ∙ o.faultless;
}

pub compacted : (old new b : List ℕ) (count top : ℕ) → IsSound old count → IsPacked old new count count top → 4 * count + sum_by bytes_taken (slots_in count old) ≤ 8168
    → b ≡ with_number 14 2 top new → IsCompacted old b count top
compacted old new b count top sound packed room written =
    let few = sound.few in
    let whole = packed.long in
    let long = length-slots_in count old in
    let all : take count (slots_in count old) ≡ slots_in count old = take_all count (slots_in count old) (omega arith) in
    let sum : top + sum_by bytes_taken (slots_in count old) ≡ 8192 = subst (λ (xs : List Slot). top + sum_by bytes_taken xs ≡ 8192) all packed.total in
    let agrees : Agrees 14 16 new b = subst (Agrees 14 16 new) (sym written) (agrees-with_number 14 2 top new (omega arith)) in
    let is : upper_in b ≡ top = ap upper_in written ∙ number-written 14 2 top new (omega arith) (omega arith) in
    let at : (m n : ℕ) → m + n ≤ 24 → (m + n ≤ 14) ⊎ (16 ≤ m) → number_at m n b ≡ number_at m n old = λ m n k h. number-outside 14 16 m n new b agrees h ∙ packed.header m n k in
    let pointers : (j : ℕ) → pointer_in b j ≡ pointer_in new j = λ j. pointer-outside 14 16 j new b agrees (inr (omega arith)) in
    let parts : (j : ℕ) (d : Extent) → j < count → pointer_in new j ≡ Pointer.Normal d → part_of b d ≡ part_of new d = λ j d h there.
    let o = packed.over j d h there in
    let from : top ≤ d.from = o.over in
    let end : d.from + next_multiple_of d.len 8 ≤ 8192 = o.within in
    let up = rounded-up d.len in
    part-outside 14 16 d new b agrees (omega arith) (inr (omega arith)) in
    let extents : (j : ℕ) (d : Extent) → j < count → pointer_in new j ≡ Pointer.Normal d → IsExtent b d = λ j d h there. extent-packed new b top d is (parts j d h there) (packed.over j d h there) in
    record {
      sound = record {
        long = agrees.long ∙ whole;
        few = few;
        lower = at 12 2 (omega arith) (inl (omega arith)) ∙ sound.lower;
        gap = subst (λ (u : ℕ). 24 + 4 * count ≤ u) (sym is) (omega arith);
        upper = subst (λ (u : ℕ). u ≤ 8192) (sym is) (omega arith);
        aligned = ap (λ (u : ℕ). u % 8) is ∙ packed.even;
        headed = headed-by old b (λ m n low h w. at m n h (⊎_elim (λ x. inl (omega arith)) inr w)) sound.headed;
        pointers = λ j h. good j h (pointer_in old j) refl (pointers j) (extents j);
        plain = λ j h. plain-outside 14 16 j new b agrees (inr (omega arith)) (packed.plain j h);
        apart = λ i j h k. apart-same new b i j (pointers i) (pointers j) (packed.apart i j h k);
      };
      slots = record {
        are = slots-kept count old b (λ j h. slot-kept new b j (pointers j) (λ d there. parts j d h there) ∙ packed.slots j h);
        change = at 0 8 (omega arith) (inl (omega arith));
        flags = at 10 2 (omega arith) (inl (omega arith));
      };
      upper = subst (λ (u : ℕ). u + sum_by bytes_taken (slots_in count old) ≡ 8192) (sym is) sum;
      order = λ j d h there. packed.order j d h (sym (pointers j) ∙ there);
    }
  where
    good : (j : ℕ) → j < count → (p : Pointer) → p ≡ pointer_in old j → pointer_in b j ≡ pointer_in new j
        → ((d : Extent) → j < count → pointer_in new j ≡ Pointer.Normal d → IsExtent b d) → IsPointer b count (pointer_in b j)
    good j h (Pointer.Normal e) is same extents =
        let n = packed.normal j e h (sym is) in
        subst (IsPointer b count) (sym (same ∙ n.1)) (extents n.0 h n.1)
    good j h Pointer.Unused is same extents = subst (IsPointer b count) (is ∙ sym (same ∙ packed.bare j h (λ e there. absurd (no_1 e (is ∙ there))))) tt
      where
        no_1 : (e : Extent) → Pointer.Unused ≡ Pointer.Normal e → ⊥
        no_1 e x = absurd (cc)
    good j h (Pointer.Redirect target) is same extents =
        subst (IsPointer b count) (is ∙ sym (same ∙ packed.bare j h (λ e there. absurd (no_2 e (is ∙ there))))) (subst (IsPointer old count) (sym is) (sound.pointers j h))
      where
        no_2 : (e : Extent) → Pointer.Redirect target ≡ Pointer.Normal e → ⊥
        no_2 e x = absurd (cc)
    good j h Pointer.Dead is same extents = subst (IsPointer b count) (is ∙ sym (same ∙ packed.bare j h (λ e there. absurd (no_3 e (is ∙ there))))) tt
      where
        no_3 : (e : Extent) → Pointer.Dead ≡ Pointer.Normal e → ⊥
        no_3 e x = absurd (cc)
