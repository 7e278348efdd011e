-- The marks of the headers that writes make.
use Rattle.std.proofs.Common.{◌≡◌, ℕ, ◌≤◌, Bool, true, false, not, ◌&&◌, ◌||◌, nat_eq, nat_lt, None, bit_and, arith, refl, ap, ◌∙◌}
use Rattle.std.proofs.lemmas.Bool.Decides.{nat_tests}
use Rattle.std.proofs.lemmas.Nat.{and_or_apart, and_assoc, or_comm}
use Rattle.std.specs.Int.Bits.{and_zero_r}
use Rattle.std.proofs.lemmas.Bool.{or_parts}
use Rattle.tuple_header.specs.declared.version.Header.{Header}
use Rattle.tuple_header.specs.Faults.{has_mark, header_fault, is_wrong_in}
use Rattle.tuple_header.specs.declared.fault.TupleFault.TheVariants.{Masks}
use Rattle.tuple_header.specs.Marks.{is_hot_updated, is_heap_only, is_frozen}
use Rattle.visibility.proofs.Headers.{no-fault, fault-no}
use Rattle.tuple_writes.specs.Headers.{marked_hot, without_deleter, replaced_header, root_header}

-- what clearing the mark of a HOT update, and setting it, leaves
cleared-other : (m n : ℕ) → bit_and 0xbfff n ≡ n → bit_and (bit_and m 0xbfff) n ≡ bit_and m n
cleared-other m n f = and_assoc n m 0xbfff ∙ ap (bit_and m) f

hot-other : (hot : Bool) (m n : ℕ) → bit_and 0x4000 n ≡ 0 → bit_and 0xbfff n ≡ n → bit_and (marked_hot hot m) n ≡ bit_and m n
hot-other false m n e f = cleared-other m n f
hot-other true m n e f = ap (λ y. bit_and y n) (or_comm 0x4000 (bit_and m 0xbfff)) ∙ and_or_apart n (bit_and m 0xbfff) 0x4000 e ∙ cleared-other m n f

hot-itself : (hot : Bool) (m : ℕ) → has_mark (marked_hot hot m) 0x4000 ≡ hot
hot-itself false m = ap (λ y. not (nat_eq y 0)) (and_assoc 0x4000 m 0xbfff ∙ and_zero_r m)
hot-itself true m =
    let apart : bit_and (bit_and m 0xbfff) 0x4000 ≡ 0 = and_assoc 0x4000 m 0xbfff ∙ and_zero_r m in
    ap (λ y. not (nat_eq y 0)) (and_or_apart 0x4000 0x4000 (bit_and m 0xbfff) apart)

pub replaced-hot : (h : Header) (x page slot : ℕ) (hot : Bool) → is_hot_updated (replaced_header h x page slot hot) ≡ hot
replaced-hot h x page slot hot = hot-itself hot h.mask2

pub replaced-heap_only : (h : Header) (x page slot : ℕ) (hot : Bool) → is_heap_only (replaced_header h x page slot hot) ≡ is_heap_only h
replaced-heap_only h x page slot hot = ap (λ y. not (nat_eq y 0)) (hot-other hot h.mask2 0x8000 refl refl)

pub replaced-frozen : (h : Header) (x page slot : ℕ) (hot : Bool) → is_frozen (replaced_header h x page slot hot) ≡ is_frozen h
replaced-frozen h x page slot hot = ap (λ y. nat_eq y 0x0300) (and_assoc 0x0300 h.mask 0xf3ff)

pub root-plain : (updated : Bool) (x page slot : ℕ) → is_heap_only (root_header updated x page slot) ≡ false
root-plain updated x page slot = refl

pub root-thawed : (updated : Bool) (x page slot : ℕ) → is_frozen (root_header updated x page slot) ≡ false
root-thawed true x page slot = refl
root-thawed false x page slot = refl

-- Faults.

normal-xmax : (x : ℕ) (b : Bool) → 3 ≤ x → nat_eq x 1 || nat_eq x 2 || (nat_eq x 0 && b) ≡ false
normal-xmax x b h = grind (arith, nat_tests)

slot-in : (n : ℕ) → 1 ≤ n → n ≤ 291 → nat_eq n 0 || nat_lt 291 n ≡ false
slot-in n a b = grind (arith, nat_tests)

-- without marks of the deleter no two contradict each other
cleared-masks : (hot : Bool) (h : Header) → is_wrong_in Masks h ≡ false
    → has_mark (marked_hot hot h.mask2) 0x3800 || has_mark (without_deleter h.mask) 0xd0ff || (has_mark (without_deleter h.mask) 0x0400 && has_mark (without_deleter h.mask) 0x0800) ≡ false
cleared-masks hot h e =
    let outer = or_parts _ _ e in
    let inner = or_parts _ _ outer.0 in
    let first : has_mark (marked_hot hot h.mask2) 0x3800 ≡ false = ap (λ y. not (nat_eq y 0)) (hot-other hot h.mask2 0x3800 refl refl) ∙ inner.0 in
    let second : has_mark (without_deleter h.mask) 0xd0ff ≡ false = ap (λ y. not (nat_eq y 0)) (and_assoc 0xd0ff h.mask 0xf3ff) ∙ inner.1 in
    let third : has_mark (without_deleter h.mask) 0x0400 ≡ false = ap (λ y. not (nat_eq y 0)) (and_assoc 0x0400 h.mask 0xf3ff ∙ and_zero_r h.mask) in
    rw (first, second, third) refl

pub replaced-faultless : (h : Header) (x page slot : ℕ) (hot : Bool) → header_fault h ≡ None → 3 ≤ x → 1 ≤ slot → slot ≤ 291
    → header_fault (replaced_header h x page slot hot) ≡ None
replaced-faultless h x page slot hot e normal from to =
    let was = no-fault h e in
    fault-no (replaced_header h x page slot hot) (record {
      attributes = ap (λ y. not (nat_eq y 6)) (hot-other hot h.mask2 0x07ff refl refl) ∙ was.attributes;
      masks = cleared-masks hot h was.masks;
      xmin = was.xmin;
      xmax = normal-xmax x _ normal;
      ctid = slot-in slot from to;
    })
