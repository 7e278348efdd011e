-- What a page keeps when a pointer without a version is written.
use Rattle.std.proofs.Common.{◌≡◌, ◌≢◌, ⊎_elim, inl, inr, ℕ, ◌+◌, ◌*◌, ◌%◌, ◌<◌, ◌≤◌, false, List, [], set, sym, ap, ◌∙◌, subst, refl, arith}
use Rattle.tuple_header.specs.Layout.{number_at, with_number}
use Rattle.tuple_header.specs.Faults.{first_fault}
use Rattle.page_layout.specs.declared.pointer.Pointer.{Pointer}
use Rattle.page_layout.specs.declared.pointer.Extent.{Extent}
use Rattle.page_layout.specs.Layout.{pointer_of, word_of, IsPointed, pointer_in, part_of, lower_in, upper_in}
use Rattle.page_sheet.specs.Layout.{shown_by, slots_in, SlotsBecome}
use Rattle.page_sheet.specs.Slots.{is_unused, bytes_taken}
use Rattle.page_layout.specs.Sound.{IsSound, IsPointer, AreApart, HasPlainWord, HoldsNoVersion}
use Rattle.page_sheet.proofs.Shown.{shown}
use Rattle.page_layout.proofs.OrderLemmas.{same_or_other}
use Rattle.page_layout.proofs.Frames.{Agrees, agrees-with_number, number-written, number-outside, pointer-outside, plain-outside, plain-written}
use Rattle.page_sheet.proofs.Sounds.{extent-in, part-kept, slot-kept, slots-set, pointer-kept, headed-kept, apart-same}
use Rattle.page_layout.proofs.PointerLemmas.{word-back, word-small, pointer-read, beside}

-- Pointers without a version.

pub bare-pointed : (count : ℕ) (p : Pointer) → count ≤ 291 → HoldsNoVersion count p → IsPointed p
bare-pointed count Pointer.Unused few bare = bare
bare-pointed count (Pointer.Normal e) few bare = absurd bare
bare-pointed count (Pointer.Redirect target) few bare = omega (arith, bare.0, bare.1)
bare-pointed count Pointer.Dead few bare = bare

bare-good : (b : List ℕ) (count : ℕ) (p : Pointer) → HoldsNoVersion count p → IsPointer b count p
bare-good b count Pointer.Unused bare = bare
bare-good b count (Pointer.Normal e) bare = absurd bare
bare-good b count (Pointer.Redirect target) bare = bare
bare-good b count Pointer.Dead bare = bare

bare-apart : (count : ℕ) (p q : Pointer) → HoldsNoVersion count p → AreApart p q
bare-apart count Pointer.Unused q bare = tt
bare-apart count (Pointer.Normal e) q bare = absurd bare
bare-apart count (Pointer.Redirect target) q bare = tt
bare-apart count Pointer.Dead q bare = tt

apart-bare : (count : ℕ) (p q : Pointer) → HoldsNoVersion count q → AreApart p q
apart-bare count p Pointer.Unused bare = by p
  where
    by : (p : Pointer) → AreApart p Pointer.Unused
    by Pointer.Unused = tt
    by (Pointer.Normal e) = tt
    by (Pointer.Redirect target) = tt
    by Pointer.Dead = tt
apart-bare count p (Pointer.Normal e) bare = absurd bare
apart-bare count p (Pointer.Redirect target) bare = by p
  where
    by : (p : Pointer) → AreApart p (Pointer.Redirect target)
    by Pointer.Unused = tt
    by (Pointer.Normal e) = tt
    by (Pointer.Redirect t) = tt
    by Pointer.Dead = tt
apart-bare count p Pointer.Dead bare = by p
  where
    by : (p : Pointer) → AreApart p Pointer.Dead
    by Pointer.Unused = tt
    by (Pointer.Normal e) = tt
    by (Pointer.Redirect target) = tt
    by Pointer.Dead = tt

bare-shown : (count : ℕ) (p : Pointer) (b : List ℕ) → HoldsNoVersion count p → shown_by b p ≡ shown_by [] p
bare-shown count Pointer.Unused b bare = refl
bare-shown count (Pointer.Normal e) b bare = absurd bare
bare-shown count (Pointer.Redirect target) b bare = refl
bare-shown count Pointer.Dead b bare = refl

pub record IsRepointed (a b : List ℕ) (count i : ℕ) (p : Pointer) : Type 0 where
  pub sound : IsSound b count
  pub slots : SlotsBecome a b count (set (slots_in count a) i (shown_by [] p))
  pub upper : upper_in b ≡ upper_in a
  pub here : pointer_in b i ≡ p
  pub others : (j : ℕ) → j ≢ i → pointer_in b j ≡ pointer_in a j

pub pointer-set : (a b : List ℕ) (count i : ℕ) (p : Pointer) → IsSound a count → i < count → HoldsNoVersion count p → b ≡ with_number (24 + 4 * i) 4 (word_of p) a → IsRepointed a b count i p
pointer-set a b count i p sound within bare written =
    let long = sound.long in
    let few = sound.few in
    let gap : 24 + 4 * count ≤ upper_in a = sound.gap in
    let fits = bare-pointed count p few bare in
    let lo = 24 + 4 * i in
    let hi = 24 + 4 * i + 4 in
    let agrees : Agrees lo hi a b = subst (Agrees lo hi a) (sym written) (agrees-with_number lo 4 (word_of p) a (omega arith)) in
    let at : (m n : ℕ) → m + n ≤ 24 → number_at m n b ≡ number_at m n a = λ m n h. number-outside lo hi m n a b agrees (inl (omega arith)) in
    let word : number_at lo 4 b ≡ word_of p = ap (number_at lo 4) written ∙ number-written lo 4 (word_of p) a (omega arith) (word-small p fits) in
    let here : pointer_in b i ≡ p = pointer-read b i ∙ ap pointer_of word ∙ word-back p fits in
    let pointers : (j : ℕ) → j ≢ i → pointer_in b j ≡ pointer_in a j = λ j other. pointer-outside lo hi j a b agrees (beside i j other) in
    let parts : (j : ℕ) (e : Extent) → j < count → pointer_in a j ≡ Pointer.Normal e → part_of b e ≡ part_of a e = λ j e h is.
    let over : upper_in a ≤ e.from = (extent-in a count j e sound h is).over in
    part-kept a b count lo hi j e sound agrees h is (inr (omega arith)) in
    let lower : lower_in b ≡ lower_in a = at 12 2 (omega arith) in
    let upper : upper_in b ≡ upper_in a = at 14 2 (omega arith) in
    record {
      sound = record {
        long = agrees.long ∙ long;
        few = few;
        lower = lower ∙ sound.lower;
        gap = subst (λ (u : ℕ). 24 + 4 * count ≤ u) (sym upper) gap;
        upper = subst (λ (u : ℕ). u ≤ 8192) (sym upper) sound.upper;
        aligned = ap (λ (u : ℕ). u % 8) upper ∙ sound.aligned;
        headed = headed-kept a b lo hi sound.headed agrees (inl (omega arith));
        pointers = λ j h. ⊎_elim
            (λ same. subst (IsPointer b count) (sym (ap (pointer_in b) same ∙ here)) (bare-good b count p bare))
            (λ other. subst (IsPointer b count) (sym (pointers j other)) (pointer-kept a b count (pointer_in a j) upper (sound.pointers j h)
            (λ e is. ap first_fault (parts j e h is) ∙ (extent-in a count j e sound h is).faultless)))
            (same_or_other j i);
        plain = λ j h. ⊎_elim
            (λ same. subst (HasPlainWord b) (sym same) (plain-written b i p word here))
            (λ other. plain-outside lo hi j a b agrees (beside i j other) (sound.plain j h))
            (same_or_other j i);
        apart = λ j k h g. ⊎_elim
            (λ same. inr (subst (λ (q : Pointer). AreApart q (pointer_in b k)) (sym (ap (pointer_in b) same ∙ here)) (bare-apart count p (pointer_in b k) bare)))
            (λ other. ⊎_elim
            (λ same. inr (subst (λ (q : Pointer). AreApart (pointer_in b j) q) (sym (ap (pointer_in b) same ∙ here)) (apart-bare count (pointer_in b j) p bare)))
            (λ too. apart-same a b j k (pointers j other) (pointers k too) (sound.apart j k h g))
            (same_or_other k i))
            (same_or_other j i);
      };
      slots = record {
        are = slots-set count i a b (shown_by [] p) within (shown b i p (sym here) ∙ bare-shown count p b bare)
            (λ j h other. slot-kept a b j (pointers j other) (λ e is. parts j e h is));
        change = at 0 8 (omega arith);
        flags = at 10 2 (omega arith);
      };
      upper = upper;
      here = here;
      others = pointers;
    }

pub bare-takes_none : (count : ℕ) (p : Pointer) → HoldsNoVersion count p → bytes_taken (shown_by [] p) ≡ 0
bare-takes_none count Pointer.Unused bare = refl
bare-takes_none count (Pointer.Normal e) bare = absurd bare
bare-takes_none count (Pointer.Redirect target) bare = refl
bare-takes_none count Pointer.Dead bare = refl

pub bare-used : (count : ℕ) (p : Pointer) → HoldsNoVersion count p → (p ≡ Pointer.Unused → ⊥) → is_unused (shown_by [] p) ≡ false
bare-used count Pointer.Unused bare other = absurd (other refl)
bare-used count (Pointer.Normal e) bare other = absurd bare
bare-used count (Pointer.Redirect target) bare other = refl
bare-used count Pointer.Dead bare other = refl
