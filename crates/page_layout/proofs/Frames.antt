-- What a write leaves of the bytes of a page.
use Rattle.std.proofs.Common.{◌≡◌, ⊎_elim, inl, inr, ◌⊎◌, ℕ, zero, suc, ◌+◌, ◌*◌, ◌<◌, ◌≤◌, ◌-◌, ◌^◌, List, [], ◌++◌, length, take, drop, slice_index, sym, ap, ◌∙◌, refl, arith, get_or-drop, get_or-take, length-take, length-take-le, length-drop, length-append, append-nil, add-zero, zero-add}
use Rattle.std.proofs.lemmas.List.{ext_get_or, get_or_append_left, get_or-append_right, take_all}
use Rattle.byteorder.specs.Endian.{little_from, little_number, little_bytes}
use Rattle.byteorder.specs.Numbers.{little_number-reads_back, length-bytes_low_first}
use Rattle.tuple_header.specs.Layout.{number_at, with_bytes, with_number}
use Rattle.page_layout.specs.declared.pointer.Extent.{Extent}
use Rattle.page_layout.specs.Layout.{pointer_of, word_of, pointer_in, part_of}
use Rattle.page_layout.specs.declared.pointer.Pointer.{Pointer}
use Rattle.page_layout.specs.Sound.{HasPlainWord}

-- the same bytes stand from two places on
abbrev pub AreSame : ℕ → ℕ → ℕ → List ℕ → List ℕ → Type 0
AreSame i j n a b = (k : ℕ) → k < n → slice_index b (j + k) ≡ slice_index a (i + k)

number-from : (n q i j : ℕ) (a b : List ℕ) → ((k : ℕ) → k < n → slice_index b (j + (q + k)) ≡ slice_index a (i + (q + k)))
    → little_from q n (drop j b) ≡ little_from q n (drop i a)
number-from zero q i j a b same = refl
number-from (suc n) q i j a b same =
    let first : slice_index b (j + q) ≡ slice_index a (i + q) = rw add-zero at (same 0 (omega arith)) in
    let next : (p k : ℕ) → p + (q + suc k) ≡ p + (suc q + k) = λ p k. omega arith in
    let rest = number-from n (suc q) i j a b (λ k h. ap (slice_index b) (sym (next j k)) ∙ same (suc k) (omega arith) ∙ ap (slice_index a) (next i k)) in
    let x : slice_index (drop j b) q ≡ slice_index b (j + q) = get_or-drop j b q 0 in
    let y : slice_index (drop i a) q ≡ slice_index a (i + q) = get_or-drop i a q 0 in
    cc

-- so they are the same number
pub number-same : (i j n : ℕ) (a b : List ℕ) → AreSame i j n a b → number_at j n b ≡ number_at i n a
unfolding number_at
number-same i j n a b same = number-from n 0 i j a b (λ k h. rw zero-add (same k h))

-- and the same part
pub part-same : (i j n : ℕ) (a b : List ℕ) → i + n ≤ length a → j + n ≤ length b → AreSame i j n a b
    → take n (drop j b) ≡ take n (drop i a)
part-same i j n a b within there same =
    let long : length (take n (drop j b)) ≡ n = rw (length-take, length-drop) (omega arith) in
    let other : length (take n (drop i a)) ≡ n = rw (length-take, length-drop) (omega arith) in
    ext_get_or 0 (take n (drop j b)) (take n (drop i a)) (long ∙ sym other)
    (λ k h. get_or-take n (drop j b) k 0 (omega arith) ∙ get_or-drop j b k 0 ∙ same k (omega arith) ∙ sym (get_or-drop i a k 0) ∙ sym (get_or-take n (drop i a) k 0 (omega arith)))

-- A write of some bytes from a place on.

pub with_bytes-below : (at k : ℕ) (bytes out : List ℕ) → at ≤ length out → k < at → slice_index (with_bytes at bytes out) k ≡ slice_index out k
unfolding with_bytes
with_bytes-below at k bytes out within below =
    let long : length (take at out) ≡ at = length-take-le at out within in
    get_or_append_left (take at out) (bytes ++ drop (at + length bytes) out) 0 k (omega arith) ∙ get_or-take at out k 0 below

pub with_bytes-within : (at k : ℕ) (bytes out : List ℕ) → at ≤ length out → k < length bytes → slice_index (with_bytes at bytes out) (at + k) ≡ slice_index bytes k
unfolding with_bytes
with_bytes-within at k bytes out within below =
    let long : length (take at out) ≡ at = length-take-le at out within in
    let e : (at + k) - at ≡ k = omega arith in
    get_or-append_right (take at out) (bytes ++ drop (at + length bytes) out) at (at + k) 0 long (omega arith)
    ∙ ap (slice_index (bytes ++ drop (at + length bytes) out)) e
    ∙ get_or_append_left bytes (drop (at + length bytes) out) 0 k below

pub with_bytes-above : (at k : ℕ) (bytes out : List ℕ) → at + length bytes ≤ length out → at + length bytes ≤ k → slice_index (with_bytes at bytes out) k ≡ slice_index out k
unfolding with_bytes
with_bytes-above at k bytes out within above =
    let long : length (take at out) ≡ at = length-take-le at out (omega arith) in
    let e : at + length bytes + (k - at - length bytes) ≡ k = omega arith in
    get_or-append_right (take at out) (bytes ++ drop (at + length bytes) out) at k 0 long (omega arith)
    ∙ get_or-append_right bytes (drop (at + length bytes) out) (length bytes) (k - at) 0 refl (omega arith)
    ∙ get_or-drop (at + length bytes) out (k - at - length bytes) 0
    ∙ ap (slice_index out) e

pub length-with_bytes : (at : ℕ) (bytes out : List ℕ) → at + length bytes ≤ length out → length (with_bytes at bytes out) ≡ length out
unfolding with_bytes
length-with_bytes at bytes out within =
    let long : length (take at out) ≡ at = length-take-le at out (omega arith) in
    let rest : length (drop (at + length bytes) out) ≡ length out - (at + length bytes) = length-drop (at + length bytes) out in
    let outer = length-append (take at out) (bytes ++ drop (at + length bytes) out) in
    let inner = length-append bytes (drop (at + length bytes) out) in
    omega arith

-- a number that was written is read back, and so is a part
number-alone : (n x : ℕ) → x < 256 ^ n → number_at 0 n (little_bytes n x) ≡ x
unfolding number_at
number-alone n x small = ap (little_number n) (sym (append-nil (little_bytes n x))) ∙ little_number-reads_back n x [] small

pub number-written : (at n x : ℕ) (out : List ℕ) → at + n ≤ length out → x < 256 ^ n → number_at at n (with_number at n x out) ≡ x
number-written at n x out within small =
    let bytes = little_bytes n x in
    let long : length bytes ≡ n = length-bytes_low_first 0 n x in
    number-same 0 at n bytes (with_bytes at bytes out) (λ k h. rw zero-add (with_bytes-within at k bytes out (omega arith) (omega arith)))
    ∙ number-alone n x small

pub part-written : (at : ℕ) (bytes out : List ℕ) → at + length bytes ≤ length out → take (length bytes) (drop at (with_bytes at bytes out)) ≡ bytes
part-written at bytes out within =
    let long = length-with_bytes at bytes out within in
    part-same 0 at (length bytes) bytes (with_bytes at bytes out) (omega arith) (omega arith)
    (λ k h. rw zero-add (with_bytes-within at k bytes out (omega arith) h)) ∙ take_all (length bytes) bytes (omega arith)

-- Bytes that are the same but for those from one place to before another.
pub record Agrees (lo hi : ℕ) (a b : List ℕ) : Type 0 where
  pub long : length b ≡ length a
  pub same : (k : ℕ) → (k < lo) ⊎ (hi ≤ k) → slice_index b k ≡ slice_index a k

pub agrees-with_bytes : (at hi : ℕ) (bytes out : List ℕ) → at + length bytes ≤ length out → hi ≡ at + length bytes → Agrees at hi out (with_bytes at bytes out)
agrees-with_bytes at hi bytes out within e = record {
  long = length-with_bytes at bytes out within;
  same = λ k where_. ⊎_elim (λ below. with_bytes-below at k bytes out (omega arith) below) (λ above. with_bytes-above at k bytes out within (omega arith)) where_;
}

pub agrees-with_number : (at n x : ℕ) (out : List ℕ) → at + n ≤ length out → Agrees at (at + n) out (with_number at n x out)
agrees-with_number at n x out within =
    let long = length-bytes_low_first 0 n x in
    agrees-with_bytes at (at + n) (little_bytes n x) out (omega arith) (omega arith)

pub same-outside : (lo hi i n : ℕ) (a b : List ℕ) → Agrees lo hi a b → (i + n ≤ lo) ⊎ (hi ≤ i) → AreSame i i n a b
same-outside lo hi i n a b agrees where_ k h =
    agrees.same (i + k) (⊎_elim (λ below. inl (omega arith)) (λ above. inr (omega arith)) where_)

pub number-outside : (lo hi i n : ℕ) (a b : List ℕ) → Agrees lo hi a b → (i + n ≤ lo) ⊎ (hi ≤ i) → number_at i n b ≡ number_at i n a
number-outside lo hi i n a b agrees where_ = number-same i i n a b (same-outside lo hi i n a b agrees where_)

pub pointer-outside : (lo hi i : ℕ) (a b : List ℕ) → Agrees lo hi a b → (24 + 4 * i + 4 ≤ lo) ⊎ (hi ≤ 24 + 4 * i) → pointer_in b i ≡ pointer_in a i
unfolding pointer_in
pointer-outside lo hi i a b agrees where_ = ap pointer_of (number-outside lo hi (24 + 4 * i) 4 a b agrees where_)

-- so a plain word stays, and one that is written is plain
pub plain-outside : (lo hi i : ℕ) (a b : List ℕ) → Agrees lo hi a b → (24 + 4 * i + 4 ≤ lo) ⊎ (hi ≤ 24 + 4 * i) → HasPlainWord a i → HasPlainWord b i
plain-outside lo hi i a b agrees where_ plain =
    number-outside lo hi (24 + 4 * i) 4 a b agrees where_ ∙ plain ∙ sym (ap word_of (pointer-outside lo hi i a b agrees where_))

pub plain-written : (b : List ℕ) (i : ℕ) (p : Pointer) → number_at (24 + 4 * i) 4 b ≡ word_of p → pointer_in b i ≡ p → HasPlainWord b i
plain-written b i p word is = word ∙ sym (ap word_of is)

pub part-outside : (lo hi : ℕ) (e : Extent) (a b : List ℕ) → Agrees lo hi a b → e.from + e.len ≤ length a → (e.from + e.len ≤ lo) ⊎ (hi ≤ e.from) → part_of b e ≡ part_of a e
part-outside lo hi e a b agrees within where_ =
    let long = agrees.long in
    part-same e.from e.from e.len a b within (omega arith) (same-outside lo hi e.from e.len a b agrees where_)
