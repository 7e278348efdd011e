-- Versions are moved up at once, and their pointers are raised.
use Rattle.std.proofs.Common.{◌≡◌, ⊎_elim, inl, inr, ℕ, ◌+◌, ◌*◌, ◌≤◌, List, length, take, sym, ap, ◌∙◌, subst, refl, arith}
use Rattle.std.specs.Int.{next_multiple_of}
use Rattle.tuple_header.specs.Layout.{number_at, with_bytes, with_number}
use Rattle.page_layout.specs.declared.pointer.Pointer.{Pointer}
use Rattle.page_layout.specs.Layout.{pointer_of, word_of, IsPointed, pointer_in}
use Rattle.page_layout.specs.Sound.{IsSound, IsPointer, HasPlainWord}
use Rattle.page_layout.specs.Raising.{AreRaisable, moved_up, IsRaised}
use Rattle.page_layout.proofs.PointerLemmas.{rounded-up, word-back, word-small, pointer-read}
use Rattle.page_layout.proofs.Frames.{Agrees, agrees-with_bytes, agrees-with_number, number-written, part-written, plain-written, pointer-outside, plain-outside}
use Rattle.page_layout.proofs.OrderLemmas.{last_or_before}

-- a block that was written to the beginning of other bytes is read back
pub block-back : (n : ℕ) (block out : List ℕ) → length block ≡ n → n ≤ length out → take n (with_bytes 0 block out) ≡ block
block-back n block out size room =
    ap (λ (k : ℕ). take k (with_bytes 0 block out)) (sym size) ∙ part-written 0 block out (omega arith)

-- Pointers are raised one by one.

-- those that are to come are as they were
pub to-come : (old m : List ℕ) (first i j by : ℕ) → IsRaised old m first i by → i ≤ j → (pointer_in m j ≡ pointer_in old j) × (HasPlainWord old j → HasPlainWord m j)
to-come old m first i j by raised_ after =
    let agrees : Agrees (24 + 4 * first) (24 + 4 * i) old m = record { long = raised_.long; same = raised_.same } in
    (pointer-outside (24 + 4 * first) (24 + 4 * i) j old m agrees (inr (omega arith)), plain-outside (24 + 4 * first) (24 + 4 * i) j old m agrees (inr (omega arith)))

pub raise-more : (old m b : List ℕ) (first i by : ℕ) → IsRaised old m first i by → first ≤ i → 24 + 4 * (i + 1) ≤ length old → IsPointed (moved_up by (pointer_in m i))
    → b ≡ with_number (24 + 4 * i) 4 (word_of (moved_up by (pointer_in m i))) m → IsRaised old b first (i + 1) by
raise-more old m b first i by was from room fits written =
    let long = was.long in
    let lo = 24 + 4 * i in
    let hi = 24 + 4 * i + 4 in
    let p = moved_up by (pointer_in m i) in
    let agrees : Agrees lo hi m b = subst (Agrees lo hi m) (sym written) (agrees-with_number lo 4 (word_of p) m (omega arith)) in
    let word : number_at lo 4 b ≡ word_of p = ap (number_at lo 4) written ∙ number-written lo 4 (word_of p) m (omega arith) (word-small p fits) in
    let here : pointer_in b i ≡ p = pointer-read b i ∙ ap pointer_of word ∙ word-back p fits in
    let come = to-come old m first i i by was (omega arith) in
    record {
      long = agrees.long ∙ long;
      same = λ k outside. agrees.same k (⊎_elim (λ x. inl (omega arith)) (λ x. inr (omega arith)) outside)
          ∙ was.same k (⊎_elim (λ x. inl x) (λ x. inr (omega arith)) outside);
      raised = λ j h k. ⊎_elim
          (λ same. ap (pointer_in b) same ∙ here ∙ ap (moved_up by) come.0 ∙ ap (λ (n : ℕ). moved_up by (pointer_in old n)) (sym same))
          (λ before. pointer-outside lo hi j m b agrees (inl (omega arith)) ∙ was.raised j h before)
          (last_or_before j i k);
      plain = λ j h k. ⊎_elim
          (λ same. subst (HasPlainWord b) (sym same) (plain-written b i p word here))
          (λ before. plain-outside lo hi j m b agrees (inl (omega arith)) (was.plain j h before))
          (last_or_before j i k);
    }

raised-fits : (bytes : List ℕ) (count by : ℕ) (p : Pointer) → count ≤ 291 → IsPointer bytes count p → by ≤ 8192 → IsPointed (moved_up by p)
raised-fits bytes count by Pointer.Unused few good most = tt
raised-fits bytes count by (Pointer.Normal e) few good most =
    let end : e.from + next_multiple_of e.len 8 ≤ 8192 = good.within in
    let up = rounded-up e.len in
    (omega arith, omega arith)
raised-fits bytes count by (Pointer.Redirect target) few good most = omega (arith, good.0, good.1)
raised-fits bytes count by Pointer.Dead few good most = tt

-- after a block behind the pointers was moved, they may be raised
pub raisable : (old m block : List ℕ) (count first at by : ℕ) → IsSound old count → 24 + 4 * count ≤ at → at + length block ≤ 8192 → m ≡ with_bytes at block old → by ≤ 8192
    → AreRaisable m first count by
raisable old m block count first at by sound behind within written most =
    let whole = sound.long in
    let hi = at + length block in
    let agrees : Agrees at hi old m = subst (Agrees at hi old) (sym written) (agrees-with_bytes at hi block old (omega arith) refl) in
    record {
      plain = λ j h k. plain-outside at hi j old m agrees (inl (omega arith)) (sound.plain j k);
      fits = λ j h k. subst (λ (p : Pointer). IsPointed (moved_up by p)) (sym (pointer-outside at hi j old m agrees (inl (omega arith))))
          (raised-fits old count by (pointer_in old j) sound.few (sound.pointers j k) most);
    }
