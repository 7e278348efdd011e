-- The bytes of a page with no slot.
use Rattle.std.proofs.Common.{◌≡◌, ⊎_elim, inl, inr, ◌⊎◌, ℕ, zero, suc, ◌+◌, ◌-◌, ◌≤◌, List, length, slice_index, sym, ap, ◌∙◌, subst, refl, arith}
use Rattle.std.specs.Prelude.{replicate}
use Rattle.std.proofs.lemmas.List.{length-replicate, drop-replicate}
use Rattle.byteorder.specs.Endian.{little_from, little_number}
use Rattle.tuple_header.specs.Layout.{number_at, with_number}
use Rattle.page_layout.specs.Layout.{change_in, flags_in, upper_in}
use Rattle.page_layout.specs.Sound.{IsSound}
use Rattle.page_layout.proofs.Frames.{Agrees, agrees-with_number, number-written, number-outside}

zero-at : (k j : ℕ) → slice_index (replicate k 0) j ≡ 0
zero-at zero j = refl
zero-at (suc k) zero = refl
zero-at (suc k) (suc j) = zero-at k j

zeros-from : (j n k : ℕ) → little_from j n (replicate k 0) ≡ 0
zeros-from j zero k = refl
zeros-from j (suc n) k =
    let here = zero-at k j in
    let rest = zeros-from (suc j) n k in
    rw (here, rest) refl

number-zeros : (i n m : ℕ) → number_at i n (replicate m 0) ≡ 0
unfolding number_at
number-zeros i n m = ap (little_number n) (drop-replicate i m 0) ∙ zeros-from 0 n (m - i)

pub record IsBlank (b : List ℕ) : Type 0 where
  pub sound : IsSound b 0
  pub change : change_in b ≡ 0
  pub flags : flags_in b ≡ 0
  pub upper : upper_in b ≡ 8192

-- the four numbers of a header, written over zeros
pub blank : (z a b c d : List ℕ) → z ≡ replicate 8192 0 → a ≡ with_number 12 2 24 z → b ≡ with_number 14 2 8192 a
    → c ≡ with_number 16 2 8192 b → d ≡ with_number 18 2 8196 c → IsBlank d
blank z a b c d zeros first second third fourth =
    let long_z : length z ≡ 8192 = ap length zeros ∙ length-replicate {A = ℕ} 8192 0 in
    let on_a : Agrees 12 14 z a = subst (Agrees 12 14 z) (sym first) (agrees-with_number 12 2 24 z (omega arith)) in
    let long_a : length a ≡ 8192 = on_a.long ∙ long_z in
    let on_b : Agrees 14 16 a b = subst (Agrees 14 16 a) (sym second) (agrees-with_number 14 2 8192 a (omega arith)) in
    let long_b : length b ≡ 8192 = on_b.long ∙ long_a in
    let on_c : Agrees 16 18 b c = subst (Agrees 16 18 b) (sym third) (agrees-with_number 16 2 8192 b (omega arith)) in
    let long_c : length c ≡ 8192 = on_c.long ∙ long_b in
    let on_d : Agrees 18 20 c d = subst (Agrees 18 20 c) (sym fourth) (agrees-with_number 18 2 8196 c (omega arith)) in
    let long_d : length d ≡ 8192 = on_d.long ∙ long_c in
    let none : (i n : ℕ) → (i + n ≤ 12) ⊎ (20 ≤ i) → number_at i n d ≡ 0 = λ i n h.
    number-outside 18 20 i n c d on_d (⊎_elim (λ x. inl (omega arith)) (λ x. inr (omega arith)) h)
    ∙ number-outside 16 18 i n b c on_c (⊎_elim (λ x. inl (omega arith)) (λ x. inr (omega arith)) h)
    ∙ number-outside 14 16 i n a b on_b (⊎_elim (λ x. inl (omega arith)) (λ x. inr (omega arith)) h)
    ∙ number-outside 12 14 i n z a on_a (⊎_elim (λ x. inl (omega arith)) (λ x. inr (omega arith)) h)
    ∙ ap (number_at i n) zeros ∙ number-zeros i n 8192 in
    let lower : number_at 12 2 d ≡ 24 =
    number-outside 18 20 12 2 c d on_d (inl (omega arith)) ∙ number-outside 16 18 12 2 b c on_c (inl (omega arith))
    ∙ number-outside 14 16 12 2 a b on_b (inl (omega arith)) ∙ ap (number_at 12 2) first ∙ number-written 12 2 24 z (omega arith) (omega arith) in
    let upper : number_at 14 2 d ≡ 8192 =
    number-outside 18 20 14 2 c d on_d (inl (omega arith)) ∙ number-outside 16 18 14 2 b c on_c (inl (omega arith))
    ∙ ap (number_at 14 2) second ∙ number-written 14 2 8192 a (omega arith) (omega arith) in
    let special : number_at 16 2 d ≡ 8192 =
    number-outside 18 20 16 2 c d on_d (inl (omega arith)) ∙ ap (number_at 16 2) third ∙ number-written 16 2 8192 b (omega arith) (omega arith) in
    let version : number_at 18 2 d ≡ 8196 = ap (number_at 18 2) fourth ∙ number-written 18 2 8196 c (omega arith) (omega arith) in
    record {
      sound = record {
        long = long_d;
        few = omega arith;
        lower = lower;
        gap = omega (arith, upper);
        upper = omega (arith, upper);
        aligned = omega (arith, upper);
        headed = record {
          checksum = none 8 2 (inl (omega arith));
          flags = inl (none 10 2 (inl (omega arith)));
          special = special;
          version = version;
          prune_id = none 20 4 (inr (omega arith));
        };
        pointers = λ i h. absurd (omega arith);
        plain = λ i h. absurd (omega arith);
        apart = λ i j h k. absurd (omega arith);
      };
      change = none 0 8 (inl (omega arith));
      flags = none 10 2 (inl (omega arith));
      upper = upper;
    }
