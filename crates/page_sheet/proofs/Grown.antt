-- What a page keeps when it gets one more slot, which is unused.
use Rattle.std.proofs.Common.{◌≡◌, ⊎_elim, inl, inr, ◌⊎◌, ℕ, ◌+◌, ◌*◌, ◌%◌, ◌<◌, ◌≤◌, List, [], ◌∷◌, ◌++◌, sym, ap, ◌∙◌, subst, refl, arith}
use Rattle.std.proofs.lemmas.List.FromFn.{map-range_with_len_more}
use Rattle.tuple_header.specs.Layout.{number_at, with_number}
use Rattle.tuple_header.specs.Faults.{first_fault}
use Rattle.page_layout.specs.declared.pointer.Pointer.{Pointer}
use Rattle.page_layout.specs.declared.pointer.Extent.{Extent}
use Rattle.page_sheet.specs.declared.slot.Slot.{Slot}
use Rattle.page_layout.specs.Layout.{pointer_of, pointer_in, part_of, lower_in, upper_in}
use Rattle.page_sheet.specs.Layout.{slot_in, slots_in, SlotsBecome}
use Rattle.page_layout.specs.Sound.{IsSound, IsPointer, AreApart, HasPlainWord}
use Rattle.page_sheet.proofs.Shown.{shown, part-long}
use Rattle.page_layout.proofs.OrderLemmas.{same_or_other, below_or_last}
use Rattle.page_layout.proofs.Frames.{Agrees, agrees-with_number, number-written, number-outside, pointer-outside, plain-outside, plain-written, part-outside}
use Rattle.page_layout.proofs.PointerLemmas.{pointer-read, word-small}
use Rattle.page_sheet.proofs.Sounds.{extent-in, part-kept, slot-kept, slots-kept, headed-by, apart-same}

pub record IsGrown (a b : List ℕ) (count : ℕ) : Type 0 where
  pub sound : IsSound b (count + 1)
  pub slots : SlotsBecome a b (count + 1) (slots_in count a ++ Slot.Unused ∷ [])
  pub upper : upper_in b ≡ upper_in a
  pub pointers : (j : ℕ) → j < count → pointer_in b j ≡ pointer_in a j
  pub last : pointer_in b count ≡ Pointer.Unused

pointer-grown : (a b : List ℕ) (count : ℕ) (p : Pointer) → upper_in b ≡ upper_in a → IsPointer a count p
    → ((e : Extent) → p ≡ Pointer.Normal e → part_of b e ≡ part_of a e) → IsPointer b (count + 1) p
pointer-grown a b count Pointer.Unused upper good parts = tt
pointer-grown a b count (Pointer.Normal e) upper good parts =
    let over : upper_in a ≤ e.from = good.over in
    record { over = omega arith; aligned = good.aligned; least = good.least; within = good.within; faultless = ap first_fault (parts e refl) ∙ good.faultless }
pointer-grown a b count (Pointer.Redirect target) upper good parts = (good.0, omega (arith, good.1))
pointer-grown a b count Pointer.Dead upper good parts = tt

unused-apart : (p : Pointer) → AreApart p Pointer.Unused
unused-apart Pointer.Unused = tt
unused-apart (Pointer.Normal e) = tt
unused-apart (Pointer.Redirect target) = tt
unused-apart Pointer.Dead = tt

pub grown : (a m b : List ℕ) (count : ℕ) → IsSound a count → count < 291 → 28 + 4 * count ≤ upper_in a → m ≡ with_number (24 + 4 * count) 4 0 a
    → b ≡ with_number 12 2 (24 + 4 * (count + 1)) m → IsGrown a b count
grown a m b count sound few room first second =
    let whole = sound.long in
    let top : upper_in a ≤ 8192 = sound.upper in
    let lo = 24 + 4 * count in
    let hi = 24 + 4 * count + 4 in
    let agrees_1 : Agrees lo hi a m = subst (Agrees lo hi a) (sym first) (agrees-with_number lo 4 0 a (omega arith)) in
    let middle = agrees_1.long in
    let agrees_2 : Agrees 12 14 m b = subst (Agrees 12 14 m) (sym second) (agrees-with_number 12 2 (24 + 4 * (count + 1)) m (omega arith)) in
    let at : (i n : ℕ) → i + n ≤ 24 → (i + n ≤ 12) ⊎ (14 ≤ i) → number_at i n b ≡ number_at i n a = λ i n h g.
    number-outside 12 14 i n m b agrees_2 g ∙ number-outside lo hi i n a m agrees_1 (inl (omega arith)) in
    let pointers : (j : ℕ) → j < count → pointer_in b j ≡ pointer_in a j = λ j h.
    pointer-outside 12 14 j m b agrees_2 (inr (omega arith)) ∙ pointer-outside lo hi j a m agrees_1 (inl (omega arith)) in
    let zero_read : number_at lo 4 m ≡ 0 = ap (number_at lo 4) first ∙ number-written lo 4 0 a (omega arith) (word-small Pointer.Unused tt) in
    let last : pointer_in b count ≡ Pointer.Unused = pointer-outside 12 14 count m b agrees_2 (inr (omega arith)) ∙ pointer-read m count ∙ ap pointer_of zero_read in
    let lower : lower_in b ≡ 24 + 4 * (count + 1) = ap lower_in second ∙ number-written 12 2 (24 + 4 * (count + 1)) m (omega arith) (omega arith) in
    let upper : upper_in b ≡ upper_in a = at 14 2 (omega arith) (inr (omega arith)) in
    let parts : (j : ℕ) (d : Extent) → j < count → pointer_in a j ≡ Pointer.Normal d → part_of b d ≡ part_of a d = λ j d h is.
    let good = extent-in a count j d sound h is in
    let over : upper_in a ≤ d.from = good.over in
    let size = part-long a d whole good in
    part-outside 12 14 d m b agrees_2 (omega arith) (inr (omega arith)) ∙ part-kept a m count lo hi j d sound agrees_1 h is (inr (omega arith)) in
    record {
      sound = record {
        long = agrees_2.long ∙ agrees_1.long ∙ whole;
        few = omega arith;
        lower = lower;
        gap = subst (λ (u : ℕ). 24 + 4 * (count + 1) ≤ u) (sym upper) (omega arith);
        upper = subst (λ (u : ℕ). u ≤ 8192) (sym upper) top;
        aligned = ap (λ (u : ℕ). u % 8) upper ∙ sound.aligned;
        headed = headed-by a b (λ m n low h w. at m n h (⊎_elim inl (λ x. inr (omega arith)) w)) sound.headed;
        pointers = λ j h. ⊎_elim
            (λ same. subst (IsPointer b (count + 1)) (sym (ap (pointer_in b) same ∙ last)) tt)
            (λ other. let below = below_or_last j count h other in
            subst (IsPointer b (count + 1)) (sym (pointers j below)) (pointer-grown a b count (pointer_in a j) upper (sound.pointers j below) (λ e is. parts j e below is)))
            (same_or_other j count);
        plain = λ j h. ⊎_elim
            (λ same. subst (HasPlainWord b) (sym same) (plain-written b count Pointer.Unused (number-outside 12 14 lo 4 m b agrees_2 (inr (omega arith)) ∙ zero_read) last))
            (λ other. let below = below_or_last j count h other in
            plain-outside 12 14 j m b agrees_2 (inr (omega arith)) (plain-outside lo hi j a m agrees_1 (inl (omega arith)) (sound.plain j below)))
            (same_or_other j count);
        apart = λ j k h g. ⊎_elim
            (λ same. inr (subst (λ (q : Pointer). AreApart q (pointer_in b k)) (sym (ap (pointer_in b) same ∙ last)) tt))
            (λ other. ⊎_elim
            (λ same. inr (subst (λ (q : Pointer). AreApart (pointer_in b j) q) (sym (ap (pointer_in b) same ∙ last)) (unused-apart (pointer_in b j))))
            (λ too. let below_j = below_or_last j count h other in
            let below_k = below_or_last k count g too in
            apart-same a b j k (pointers j below_j) (pointers k below_k) (sound.apart j k below_j below_k))
            (same_or_other k count))
            (same_or_other j count);
      };
      slots = record {
        are = map-range_with_len_more (slot_in b) 0 count count (omega arith)
            ∙ ap (λ (s : Slot). slots_in count b ++ s ∷ []) (shown b count Pointer.Unused (sym last))
            ∙ ap (λ (xs : List Slot). xs ++ Slot.Unused ∷ []) (slots-kept count a b (λ j h. slot-kept a b j (pointers j h) (λ d is. parts j d h is)));
        change = at 0 8 (omega arith) (inl (omega arith));
        flags = at 10 2 (omega arith) (inl (omega arith));
      };
      upper = upper;
      pointers = pointers;
      last = last;
    }
