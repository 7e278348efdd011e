-- What is read is spelled so, and what is spelled so is read.
use Rattle.std.proofs.Common.{◌≡◌, ℕ, ℤ, ◌+◌, ◌-◌, ◌*◌, ◌/◌, ◌%◌, ◌^◌, ◌<◌, ◌≤◌, List, [], ◌∷◌, ◌++◌, length, refl, ap, append_assoc, ◌∙◌, sym, arith, Option, None, Some, true, false, cond, eqb, nat_lt, nat_le, ◌&&◌, leb-true, le-leb, inl, inr, codes, Result, Ok, Err, IfOk}
use Rattle.std.specs.Int.{w64}
use Rattle.std.specs.Prelude.{FitsSigned}
use Rattle.std.specs.Option.{option_map}
use Rattle.std.specs.List.{flat_map, AllByRecursion}
use Rattle.std.specs.Str.{bytes_eq}
use Rattle.std.specs.Fmt.{decimal, signed_decimal, digit_glyph}
use Rattle.std.proofs.lemmas.Option.{none-some, same_Some}
use Rattle.std.proofs.lemmas.Bool.Decides.{nat_tests}
use Rattle.std.proofs.lemmas.Slice.Eq.{bytes_eq-Decides}
use Rattle.std.proofs.lemmas.Bool.{lt-leb, cases_lt, and_right, and_parts}
use Rattle.std.proofs.lemmas.List.{nil_from_length, append-nil}
use Rattle.calls.specs.Words.{RowToWrite, PlanToApply}
use Rattle.calls.specs.declared.step.Step.TheVariants as step
use Rattle.calls.specs.declared.vacuum.Mode.TheVariants as mode
use Rattle.script_text.specs.declared.line.Line.{Line}
use Rattle.script_text.specs.declared.line.Line.TheVariants.{Do, VacuumFinish, Ids, Page, Entries}
use Rattle.script_text.specs.Grammar.{LineFits, Spells, KeyFits, RowFits, RangeFits, BoundsFit, spelling, spaced, hex_text, body_text, row_text, key_words, row_words, range_words, bounds_words, plan_words}
use Rattle.script_text.specs.Reading.{Verbs, all_verbs, written_verbs, other_verbs, numbered_steps, as_verbs, vacuum_line_of, line_in, line_at, cut, number_of, number_then, column_then, bound_of, bound_then, nibble_of, pair_and, pairs_of, body_of, row_words_of, key_words_of, count_words_of, page_words_of, range_words_of, bounds_words_of, plan_words_of}
use Rattle.script_text.proofs.ByteLemmas.{Free, Free-append, free_text}
use Rattle.script_text.proofs.NumberLaws.{guarded, bound, mapped, cut_says, cut-free, number_of_says, number_of-decimal, number_then_says, number_then-decimal, decimal_free}
use Rattle.script_text.proofs.PlanLaws.{plan_words_of_says, plan_words_of-words, plan_words_free, chosen}
use Rattle.script_text.proofs.SignedLaws.{signed_free, column_then_says, column_then-signed, bound_free, bound_of_says, bound_of-signed, bound_then_says, bound_then-signed}

pair_is : (x y a b : ℕ) (xs ys : List ℕ) → x ≡ a → y ≡ b → xs ≡ ys → x ∷ y ∷ xs ≡ a ∷ b ∷ ys
pair_is x y a b xs ys e f g = cc

one_is : (x a : ℕ) (xs : List ℕ) → x ≡ a → xs ≡ [] → x ∷ xs ≡ a ∷ []
one_is x a xs e f = cc

low_glyph : (a : ℕ) → a < 10 → digit_glyph false a ≡ 48 + a
low_glyph a h = let t : nat_lt a 10 ≡ true = grind (arith, nat_tests) in rw t refl

high_glyph : (a : ℕ) → 10 ≤ a → digit_glyph false a ≡ 87 + a
high_glyph a h = let t : nat_lt a 10 ≡ false = grind (arith, nat_tests) in rw t refl

nibble_of_says : (c a : ℕ) → nibble_of c ≡ Some a → (c ≡ digit_glyph false a) × (a < 16)
unfolding nibble_of
nibble_of_says c a h = elim (chosen (nat_le 48 c && nat_le c 57) (Some (c - 48)) (cond (nat_le 97 c && nat_le c 102) (Some (c - 87)) None) (Some a) h) [
  | inl l ↦
      let t = and_parts (nat_le 48 c) (nat_le c 57) l.0 in
      let from = leb-true 48 c t.0 in
      let to = leb-true c 57 t.1 in
      let e = same_Some (c - 48) a l.1 in
      (rw (low_glyph a (omega arith)) (omega arith), omega arith)
  | inr r ↦
      let g = guarded (nat_le 97 c && nat_le c 102) (Some (c - 87)) a r.1 in
      let t = and_parts (nat_le 97 c) (nat_le c 102) g.0 in
      let from = leb-true 97 c t.0 in
      let to = leb-true c 102 t.1 in
      let e = same_Some (c - 87) a g.1 in
      (rw (high_glyph a (omega arith)) (omega arith), omega arith)
]

nibble_low : (a : ℕ) → a < 10 → nibble_of (48 + a) ≡ Some a
unfolding nibble_of
nibble_low a h =
    let back : 48 + a - 48 ≡ a = omega arith in
    rw (le-leb 48 (48 + a) (omega arith), le-leb (48 + a) 57 (omega arith), back) refl

nibble_high : (a : ℕ) → 10 ≤ a → a < 16 → nibble_of (87 + a) ≡ Some a
unfolding nibble_of
nibble_high a h k =
    let back : 87 + a - 87 ≡ a = omega arith in
    rw (le-leb 48 (87 + a) (omega arith), lt-leb (87 + a) 57 (omega arith), le-leb 97 (87 + a) (omega arith), le-leb (87 + a) 102 (omega arith), back) refl

nibble_of-glyph : (a : ℕ) → a < 16 → nibble_of (digit_glyph false a) ≡ Some a
nibble_of-glyph a h = elim (cases_lt a 10) [
  | inl l ↦ rw (low_glyph a l) (nibble_low a l)
  | inr g ↦ rw (high_glyph a g) (nibble_high a g h)
]

pair_some : (x y : Option ℕ) (r : Option (List ℕ)) (bs : List ℕ) → pair_and x y r ≡ Some bs
    → (a : ℕ) × (b : ℕ) × (ds : List ℕ) × (x ≡ Some a) × (y ≡ Some b) × (r ≡ Some ds) × ((16 * a + b) ∷ ds ≡ bs)
pair_some None y r bs h = absurd (none-some bs h)
pair_some (Some a) None r bs h = absurd (none-some bs h)
pair_some (Some a) (Some b) None bs h = absurd (none-some bs h)
pair_some (Some a) (Some b) (Some ds) bs h = (a, b, ds, refl, refl, refl, same_Some _ bs h)

pairs_of_says : (w bs : List ℕ) → pairs_of w ≡ Some bs → (w ≡ hex_text bs) × AllByRecursion (λ b. b < 2 ^ 8) bs
unfolding pairs_of
pairs_of_says [] bs h = rw (← same_Some [] bs h) (refl, tt)
pairs_of_says (x ∷ []) bs h = absurd (none-some bs h)
pairs_of_says (x ∷ y ∷ rest) bs h =
    let p = pair_some (nibble_of x) (nibble_of y) (pairs_of rest) bs h in
    let high = nibble_of_says x p.0 p.3 in
    let low = nibble_of_says y p.1 p.4 in
    let r = pairs_of_says rest p.2 p.5 in
    let over : (16 * p.0 + p.1) / 16 ≡ p.0 = omega (arith, low.1) in
    let under : (16 * p.0 + p.1) % 16 ≡ p.1 = omega (arith, low.1) in
    rw (← p.6) (rw (over, under) (pair_is x y _ _ rest _ high.0 low.0 r.0), (omega (arith, high.1, low.1), r.1))

pairs_of-hex : (bs : List ℕ) → AllByRecursion (λ b. b < 2 ^ 8) bs → pairs_of (hex_text bs) ≡ Some bs
unfolding pairs_of
pairs_of-hex [] h = refl
pairs_of-hex (b ∷ bs) h =
    let small = h.0 in
    let whole : 16 * (b / 16) + b % 16 ≡ b = omega arith in
    rw (nibble_of-glyph (b / 16) (omega arith), nibble_of-glyph (b % 16) (omega arith), pairs_of-hex bs h.1, whole) refl

hex_body : (w bs : List ℕ) → 0 < length w → (w ≡ hex_text bs) × AllByRecursion (λ b. b < 2 ^ 8) bs → (w ≡ body_text bs) × AllByRecursion (λ b. b < 2 ^ 8) bs
hex_body w [] some h = let e = rw h.0 at some in absurd (omega arith)
hex_body w (b ∷ bs) some h = h

body_of_says : (w bs : List ℕ) → body_of w ≡ Some bs → (w ≡ body_text bs) × AllByRecursion (λ b. b < 2 ^ 8) bs
unfolding body_of
body_of_says [] bs h = absurd (none-some bs h)
body_of_says (x ∷ xs) bs h = elim (chosen (eqb x 45 && eqb (length xs) 0) (Some []) (pairs_of (x ∷ xs)) (Some bs) h) [
  | inl l ↦
      let t = and_parts (eqb x 45) (eqb (length xs) 0) l.0 in
      let x_is : x ≡ 45 = let e = t.0 in grind (arith, nat_tests) in
      let none : length xs ≡ 0 = let e = t.1 in grind (arith, nat_tests) in
      rw (← same_Some [] bs l.1) (one_is x 45 xs x_is (nil_from_length xs none), tt)
  | inr r ↦ hex_body (x ∷ xs) bs (omega arith) (pairs_of_says (x ∷ xs) bs r.1)
]

body_of-text : (bs : List ℕ) → AllByRecursion (λ b. b < 2 ^ 8) bs → body_of (body_text bs) ≡ Some bs
unfolding body_of
body_of-text [] h = refl
body_of-text (b ∷ bs) h =
    let more : eqb (length (digit_glyph false (b % 16) ∷ hex_text bs)) 0 ≡ false = grind (arith, nat_tests) in
    rw (more, and_right (eqb (digit_glyph false (b / 16)) 45) false refl) (pairs_of-hex (b ∷ bs) h)

key_words_of_says : (xs : List ℕ) (p : ℕ × ℕ) → key_words_of xs ≡ Some p → KeyFits p.0 p.1 × (xs ≡ key_words p.0 p.1)
unfolding key_words_of
key_words_of_says xs p h =
    let s = bound (number_then 255 xs) _ p h in
    let k = bound (number_of (2 ^ 64 - 1) s.0.1) _ p s.2 in
    let s_is = number_then_says 255 xs s.0.0 s.0.1 (omega arith) s.1 in
    let k_is = number_of_says (2 ^ 64 - 1) s.0.1 k.0 (omega arith) k.1 in
    rw (← same_Some _ p k.2) ((omega (arith, s_is.1), omega (arith, k_is.1)), s_is.0 ∙ ap (λ r. decimal s.0.0 ++ spaced r) k_is.0)

count_words_of_says : (xs : List ℕ) (p : ℕ × ℕ) → count_words_of xs ≡ Some p → ((p.0 < 2 ^ 8) × (p.1 < 2 ^ 16)) × (xs ≡ key_words p.0 p.1)
unfolding count_words_of
count_words_of_says xs p h =
    let s = bound (number_then 255 xs) _ p h in
    let n = bound (number_of 65535 s.0.1) _ p s.2 in
    let s_is = number_then_says 255 xs s.0.0 s.0.1 (omega arith) s.1 in
    let n_is = number_of_says 65535 s.0.1 n.0 (omega arith) n.1 in
    rw (← same_Some _ p n.2) ((omega (arith, s_is.1), omega (arith, n_is.1)), s_is.0 ∙ ap (λ r. decimal s.0.0 ++ spaced r) n_is.0)

page_words_of_says : (xs : List ℕ) (p : ℕ × ℕ) → page_words_of xs ≡ Some p → ((p.0 < 2 ^ 8) × (p.1 < 2 ^ 32)) × (xs ≡ key_words p.0 p.1)
unfolding page_words_of
page_words_of_says xs p h =
    let s = bound (number_then 255 xs) _ p h in
    let n = bound (number_of 4294967295 s.0.1) _ p s.2 in
    let s_is = number_then_says 255 xs s.0.0 s.0.1 (omega arith) s.1 in
    let n_is = number_of_says 4294967295 s.0.1 n.0 (omega arith) n.1 in
    rw (← same_Some _ p n.2) ((omega (arith, s_is.1), omega (arith, n_is.1)), s_is.0 ∙ ap (λ r. decimal s.0.0 ++ spaced r) n_is.0)

range_chain : (xs r0 r1 r2 ds di sl sh : List ℕ) → xs ≡ ds ++ 32 ∷ r0 → r0 ≡ di ++ 32 ∷ r1 → r1 ≡ sl ++ 32 ∷ r2 → r2 ≡ sh → xs ≡ ds ++ 32 ∷ (di ++ 32 ∷ (sl ++ 32 ∷ sh))
range_chain xs r0 r1 r2 ds di sl sh a b c d = cc

range_words_of_says : (xs : List ℕ) (p : ℕ × ℕ × ℤ × ℤ) → range_words_of xs ≡ Some p → RangeFits p.0 p.1 p.2 p.3 × (xs ≡ range_words p.0 p.1 p.2 p.3)
unfolding range_words_of
range_words_of_says xs p h =
    let s = bound (number_then 255 xs) _ p h in
    let i = bound (number_then 255 s.0.1) _ p s.2 in
    let low = bound (bound_then i.0.1) _ p i.2 in
    let high = bound (bound_of low.0.1) _ p low.2 in
    let s_is = number_then_says 255 xs s.0.0 s.0.1 (omega arith) s.1 in
    let i_is = number_then_says 255 s.0.1 i.0.0 i.0.1 (omega arith) i.1 in
    let low_is = bound_then_says i.0.1 low.0.0 low.0.1 low.1 in
    let high_is = bound_of_says low.0.1 high.0 high.1 in
    rw (← same_Some _ p high.2) (
      (omega (arith, s_is.1), omega (arith, i_is.1), low_is.1, high_is.1),
      range_chain xs s.0.1 i.0.1 low.0.1 (decimal s.0.0) (decimal i.0.0) (signed_decimal low.0.0) (signed_decimal high.0) s_is.0 i_is.0 low_is.0 high_is.0,
    )

bounds_chain : (xs r0 r1 ds sl sh : List ℕ) → xs ≡ ds ++ 32 ∷ r0 → r0 ≡ sl ++ 32 ∷ r1 → r1 ≡ sh → xs ≡ ds ++ 32 ∷ (sl ++ 32 ∷ sh)
bounds_chain xs r0 r1 ds sl sh a b c = cc

bounds_words_of_says : (xs : List ℕ) (p : ℕ × ℤ × ℤ) → bounds_words_of xs ≡ Some p → BoundsFit p.0 p.1 p.2 × (xs ≡ bounds_words p.0 p.1 p.2)
unfolding bounds_words_of
bounds_words_of_says xs p h =
    let s = bound (number_then 255 xs) _ p h in
    let low = bound (bound_then s.0.1) _ p s.2 in
    let high = bound (bound_of low.0.1) _ p low.2 in
    let s_is = number_then_says 255 xs s.0.0 s.0.1 (omega arith) s.1 in
    let low_is = bound_then_says s.0.1 low.0.0 low.0.1 low.1 in
    let high_is = bound_of_says low.0.1 high.0 high.1 in
    rw (← same_Some _ p high.2)
    ((omega (arith, s_is.1), low_is.1, high_is.1), bounds_chain xs s.0.1 low.0.1 (decimal s.0.0) (signed_decimal low.0.0) (signed_decimal high.0) s_is.0 low_is.0 high_is.0)

pub row_chain : (xs r0 r1 r2 r3 r4 r5 ds dk s0 s1 s2 s3 sb : List ℕ) → xs ≡ ds ++ 32 ∷ r0 → r0 ≡ dk ++ 32 ∷ r1 → r1 ≡ s0 ++ 32 ∷ r2 → r2 ≡ s1 ++ 32 ∷ r3 → r3 ≡ s2 ++ 32 ∷ r4 → r4 ≡ s3 ++ 32 ∷ r5 → r5 ≡ sb
    → xs ≡ ds ++ 32 ∷ (dk ++ 32 ∷ (s0 ++ 32 ∷ (s1 ++ 32 ∷ (s2 ++ 32 ∷ (s3 ++ 32 ∷ sb)))))
row_chain xs r0 r1 r2 r3 r4 r5 ds dk s0 s1 s2 s3 sb a b c d e f g = cc

regroup : (dk s0 s1 s2 s3 sb : List ℕ) → dk ++ 32 ∷ (s0 ++ 32 ∷ (s1 ++ 32 ∷ (s2 ++ 32 ∷ (s3 ++ 32 ∷ sb)))) ≡ dk ++ ((spaced s0 ++ (spaced s1 ++ (spaced s2 ++ (spaced s3 ++ [])))) ++ spaced sb)
regroup dk s0 s1 s2 s3 sb =
    let e3 : (s3 ++ []) ++ (32 ∷ sb) ≡ s3 ++ 32 ∷ sb = ap (λ r. r ++ 32 ∷ sb) (append-nil s3) in
    let e2 : (s2 ++ 32 ∷ (s3 ++ [])) ++ (32 ∷ sb) ≡ s2 ++ 32 ∷ (s3 ++ 32 ∷ sb) = append_assoc s2 (32 ∷ (s3 ++ [])) (32 ∷ sb) ∙ ap (λ r. s2 ++ 32 ∷ r) e3 in
    let e1 : (s1 ++ 32 ∷ (s2 ++ 32 ∷ (s3 ++ []))) ++ (32 ∷ sb) ≡ s1 ++ 32 ∷ (s2 ++ 32 ∷ (s3 ++ 32 ∷ sb)) = append_assoc s1 (32 ∷ (s2 ++ 32 ∷ (s3 ++ []))) (32 ∷ sb) ∙ ap (λ r. s1 ++ 32 ∷ r) e2 in
    let e0 : (s0 ++ 32 ∷ (s1 ++ 32 ∷ (s2 ++ 32 ∷ (s3 ++ [])))) ++ (32 ∷ sb) ≡ s0 ++ 32 ∷ (s1 ++ 32 ∷ (s2 ++ 32 ∷ (s3 ++ 32 ∷ sb))) = append_assoc s0 (32 ∷ (s1 ++ 32 ∷ (s2 ++ 32 ∷ (s3 ++ [])))) (32 ∷ sb) ∙ ap (λ r. s0 ++ 32 ∷ r) e1 in
    ap (λ r. dk ++ 32 ∷ r) (sym e0)

row_words_of_says : (xs : List ℕ) (p : ℕ × RowToWrite) → row_words_of xs ≡ Some p → RowFits p.0 p.1 × (xs ≡ row_words p.0 p.1)
unfolding row_words_of
row_words_of_says xs p h =
    let s = bound (number_then 255 xs) _ p h in
    let k = bound (number_then (2 ^ 64 - 1) s.0.1) _ p s.2 in
    let c0 = bound (column_then k.0.1) _ p k.2 in
    let c1 = bound (column_then c0.0.1) _ p c0.2 in
    let c2 = bound (column_then c1.0.1) _ p c1.2 in
    let c3 = bound (column_then c2.0.1) _ p c2.2 in
    let b = bound (body_of c3.0.1) _ p c3.2 in
    let s_is = number_then_says 255 xs s.0.0 s.0.1 (omega arith) s.1 in
    let k_is = number_then_says (2 ^ 64 - 1) s.0.1 k.0.0 k.0.1 (omega arith) k.1 in
    let d0 = column_then_says k.0.1 c0.0.0 c0.0.1 c0.1 in
    let d1 = column_then_says c0.0.1 c1.0.0 c1.0.1 c1.1 in
    let d2 = column_then_says c1.0.1 c2.0.0 c2.0.1 c2.1 in
    let d3 = column_then_says c2.0.1 c3.0.0 c3.0.1 c3.1 in
    let b_is = body_of_says c3.0.1 b.0 b.1 in
    rw (← same_Some _ p b.2) (
      (omega (arith, s_is.1), omega (arith, k_is.1), refl, (d0.1, (d1.1, (d2.1, (d3.1, tt)))), b_is.1),
      row_chain xs _ _ _ _ _ _ (decimal s.0.0) (decimal k.0.0) (signed_decimal c0.0.0) (signed_decimal c1.0.0) (signed_decimal c2.0.0) (signed_decimal c3.0.0) (body_text b.0) s_is.0 k_is.0 d0.0 d1.0 d2.0 d3.0 b_is.0
          ∙ ap (λ r. decimal s.0.0 ++ 32 ∷ r) (regroup (decimal k.0.0) (signed_decimal c0.0.0) (signed_decimal c1.0.0) (signed_decimal c2.0.0) (signed_decimal c3.0.0) (body_text b.0)),
    )

pub verb_is : (v w : List ℕ) → bytes_eq v w ≡ true → v ≡ w
verb_is v w h = (bytes_eq-Decides v w).0 h

-- what a verb asks for is spelled so
abbrev pub IsSpelled : List ℕ × (List ℕ → Option Line) → Type 0
IsSpelled verb = (rest : List ℕ) (l : Line) → verb.1 rest ≡ Some l → LineFits l × (verb.0 ++ spaced rest ≡ spelling l)

-- a verb and one number
number_verb : (verb : List ℕ) (max : ℕ) (make : ℕ → Line) → max < 10 ^ 64 → ((n : ℕ) → n ≤ max → LineFits (make n)) → ((n : ℕ) → verb ++ spaced (decimal n) ≡ spelling (make n))
    → IsSpelled (verb, λ rest. option_map make (number_of max rest))
number_verb verb max make small fits text rest l h =
    let m = mapped (number_of max rest) make l h in
    let says = number_of_says max rest m.0 small m.1 in
    rw (← m.2) (fits m.0 says.1, ap (λ r. verb ++ spaced r) says.0 ∙ text m.0)

-- a verb and several words, whose reading says what they are
words_verb : {A : Type 0} (verb : List ℕ) (read : List ℕ → Option A) (make : A → Line) (words : A → List ℕ) → ((xs : List ℕ) (a : A) → read xs ≡ Some a → LineFits (make a) × (xs ≡ words a))
    → ((a : A) → verb ++ spaced (words a) ≡ spelling (make a)) → IsSpelled (verb, λ rest. option_map make (read rest))
words_verb verb read make words says text rest l h =
    let m = mapped (read rest) make l h in
    let is = says rest m.0 m.1 in
    rw (← m.2) (is.0, ap (λ r. verb ++ spaced r) is.1 ∙ text m.0)

get_spelled : IsSpelled (codes "get", λ rest. option_map (λ p. Do (step.Get p.0 p.1)) (key_words_of rest))
get_spelled = words_verb (codes "get") key_words_of (λ p. Do (step.Get p.0 p.1)) (λ p. key_words p.0 p.1) key_words_of_says (λ p. refl)

delete_spelled : IsSpelled (codes "delete", λ rest. option_map (λ p. Do (step.Delete p.0 p.1)) (key_words_of rest))
delete_spelled = words_verb (codes "delete") key_words_of (λ p. Do (step.Delete p.0 p.1)) (λ p. key_words p.0 p.1) key_words_of_says (λ p. refl)

insert_spelled : IsSpelled (codes "insert", λ rest. option_map (λ p. Do (step.Insert p.0 p.1)) (row_words_of rest))
insert_spelled = words_verb (codes "insert") row_words_of (λ p. Do (step.Insert p.0 p.1)) (λ p. row_words p.0 p.1) row_words_of_says (λ p. refl)

update_spelled : IsSpelled (codes "update", λ rest. option_map (λ p. Do (step.Update p.0 p.1)) (row_words_of rest))
update_spelled = words_verb (codes "update") row_words_of (λ p. Do (step.Update p.0 p.1)) (λ p. row_words p.0 p.1) row_words_of_says (λ p. refl)

next_spelled : IsSpelled (codes "next", λ rest. option_map (λ p. Do (step.Next p.0 p.1)) (count_words_of rest))
next_spelled = words_verb (codes "next") count_words_of (λ p. Do (step.Next p.0 p.1)) (λ p. key_words p.0 p.1) count_words_of_says (λ p. refl)

openindex_spelled : IsSpelled (codes "openindex", λ rest. option_map (λ p. Do (step.OpenIndex p.0 p.1 p.2 p.3)) (range_words_of rest))
openindex_spelled = words_verb (codes "openindex") range_words_of (λ p. Do (step.OpenIndex p.0 p.1 p.2 p.3)) (λ p. range_words p.0 p.1 p.2 p.3) range_words_of_says (λ p. refl)

openkeys_spelled : IsSpelled (codes "openkeys", λ rest. option_map (λ p. Do (step.OpenKeys p.0 p.1 p.2)) (bounds_words_of rest))
openkeys_spelled = words_verb (codes "openkeys") bounds_words_of (λ p. Do (step.OpenKeys p.0 p.1 p.2)) (λ p. bounds_words p.0 p.1 p.2) bounds_words_of_says (λ p. refl)

takepage_spelled : IsSpelled (codes "takepage", λ rest. option_map (λ p. Do (step.TakePage p.0 p.1)) (page_words_of rest))
takepage_spelled = words_verb (codes "takepage") page_words_of (λ p. Do (step.TakePage p.0 p.1)) (λ p. key_words p.0 p.1) page_words_of_says (λ p. refl)

prune_spelled : IsSpelled (codes "prune", λ rest. option_map (λ p. Do (step.Prune p)) (number_of 4294967295 rest))
prune_spelled = number_verb (codes "prune") 4294967295 (λ p. Do (step.Prune p)) (omega arith) (λ p h. omega (arith, h)) (λ p. refl)

apply_spelled : IsSpelled (codes "apply", λ rest. option_map (λ p. Do (step.ApplyPlan p.0 p.1)) (plan_words_of rest))
apply_spelled = words_verb (codes "apply") plan_words_of (λ p. Do (step.ApplyPlan p.0 p.1)) (λ p. plan_words p.0 p.1) plan_words_of_says (λ p. refl)

createindex_spelled : IsSpelled (codes "createindex", λ rest. option_map (λ c. Do (step.CreateIndex c)) (number_of 255 rest))
createindex_spelled = number_verb (codes "createindex") 255 (λ c. Do (step.CreateIndex c)) (omega arith) (λ c h. omega (arith, h)) (λ c. refl)

page_spelled : IsSpelled (codes "page", λ rest. option_map (λ p. Page p) (number_of 4294967295 rest))
page_spelled = number_verb (codes "page") 4294967295 (λ p. Page p) (omega arith) (λ p h. omega (arith, h)) (λ p. refl)

entries_spelled : IsSpelled (codes "entries", λ rest. option_map (λ i. Entries i) (number_of 255 rest))
entries_spelled = number_verb (codes "entries") 255 (λ i. Entries i) (omega arith) (λ i h. omega (arith, h)) (λ i. refl)

-- one phrase, and else what other phrases say
phrase_says : (words phrase : List ℕ) (line : Line) (others : Option Line) (l : Line) → cond (bytes_eq words phrase) (Some line) others ≡ Some l → LineFits line × (codes "vacuum" ++ spaced phrase ≡ spelling line)
    → (others ≡ Some l → LineFits l × (codes "vacuum" ++ spaced words ≡ spelling l)) → LineFits l × (codes "vacuum" ++ spaced words ≡ spelling l)
phrase_says words phrase line others l h says more = elim (chosen (bytes_eq words phrase) (Some line) others (Some l) h) [
  | inl a ↦ rw (← same_Some line l a.1) (says.0, ap (λ w. codes "vacuum" ++ spaced w) (verb_is words phrase a.0) ∙ says.1)
  | inr a ↦ more a.1
]

vacuum_spelled : IsSpelled (codes "vacuum", vacuum_line_of)
vacuum_spelled words l h =
    phrase_says words (codes "step") (Do step.VacuumStep) _ l h (tt, refl) (λ h1.
    phrase_says words (codes "finish") VacuumFinish _ l h1 (tt, refl) (λ h2.
    phrase_says words (codes "begin normal") (Do (step.VacuumBegin mode.Normal)) _ l h2 (tt, refl) (λ h3.
    phrase_says words (codes "begin aggressive") (Do (step.VacuumBegin mode.Aggressive)) _ l h3 (tt, refl) (λ h4.
    phrase_says words (codes "cancel") (Do step.VacuumCancel) None l h4 (tt, refl) (λ h5.
    absurd (none-some l h5))))))

-- a verb and a session alone
session_verb : (verb : List ℕ) (make : ℕ → Line) → ((s : ℕ) → s < 2 ^ 8 → LineFits (make s)) → ((s : ℕ) → verb ++ spaced (decimal s) ≡ spelling (make s))
    → IsSpelled (verb, λ rest. option_map make (number_of 255 rest))
session_verb verb make fits text = number_verb verb 255 make (omega arith) (λ s h. fits s (omega (arith, h))) text

written_spelled : AllByRecursion IsSpelled written_verbs
written_spelled = (insert_spelled, (update_spelled, (apply_spelled, tt)))

numbered_spelled : AllByRecursion IsSpelled (as_verbs numbered_steps)
numbered_spelled = (session_verb (codes "begin") (λ s. Do (step.Begin s)) (λ s h. h) (λ s. refl), (session_verb (codes "beginrc") (λ s. Do (step.BeginReadCommitted s)) (λ s h. h) (λ s. refl), (session_verb (codes "commit") (λ s. Do (step.Commit s)) (λ s h. h) (λ s. refl), (session_verb (codes "abort") (λ s. Do (step.Abort s)) (λ s h. h) (λ s. refl), (session_verb (codes "savepoint") (λ s. Do (step.Savepoint s)) (λ s h. h) (λ s. refl), (session_verb (codes "rollbackto") (λ s. Do (step.RollbackTo s)) (λ s h. h) (λ s. refl), (session_verb (codes "release") (λ s. Do (step.Release s)) (λ s h. h) (λ s. refl), (session_verb (codes "openheap") (λ s. Do (step.OpenHeap s)) (λ s h. h) (λ s. refl), (session_verb (codes "close") (λ s. Do (step.Close s)) (λ s h. h) (λ s. refl), (createindex_spelled, tt))))))))))

other_spelled : AllByRecursion IsSpelled other_verbs
other_spelled = (get_spelled, (delete_spelled, (next_spelled, (openindex_spelled, (openkeys_spelled, (takepage_spelled, (prune_spelled, (vacuum_spelled, (page_spelled, (entries_spelled, tt))))))))))

All-append : (xs ys : Verbs) → AllByRecursion IsSpelled xs → AllByRecursion IsSpelled ys → AllByRecursion IsSpelled (xs ++ ys)
All-append [] ys h k = k
All-append (x ∷ xs) ys h k = (h.0, All-append xs ys h.1 k)

all_spelled : AllByRecursion IsSpelled all_verbs
all_spelled = All-append written_verbs (as_verbs numbered_steps ++ other_verbs) written_spelled (All-append (as_verbs numbered_steps) other_verbs numbered_spelled other_spelled)

line_in_says : (verbs : Verbs) (word rest : List ℕ) (l : Line) → AllByRecursion IsSpelled verbs → line_in verbs word rest ≡ Some l → LineFits l × (word ++ spaced rest ≡ spelling l)
line_in_says [] word rest l spelled h = absurd (none-some l h)
line_in_says (verb ∷ verbs) word rest l spelled h = elim (chosen (bytes_eq word verb.0) (verb.1 rest) (line_in verbs word rest) (Some l) h) [
  | inl a ↦ let says = spelled.0 rest l a.1 in (says.0, ap (λ w. w ++ spaced rest) (verb_is word verb.0 a.0) ∙ says.1)
  | inr a ↦ line_in_says verbs word rest l spelled.1 a.1
]

pub line_at_says : (w : List ℕ) (l : Line) → line_at w ≡ Some l → LineFits l × (w ≡ spelling l)
unfolding line_at
line_at_says w l h = elim (chosen (bytes_eq w (codes "ids")) (Some Ids) _ (Some l) h) [
  | inl a ↦ rw (← same_Some Ids l a.1) (tt, verb_is w (codes "ids") a.0)
  | inr a ↦
      let p = bound (cut w) _ l a.1 in
      let says = line_in_says all_verbs p.0.0 p.0.1 l all_spelled p.2 in
      (says.0, cut_says w p.0.0 p.0.1 p.1 ∙ says.1)
]

four : (cols : List ℤ) → length cols ≡ 4 → (a : ℤ) × (b : ℤ) × (c : ℤ) × (d : ℤ) × (cols ≡ a ∷ b ∷ c ∷ d ∷ [])
four [] h = absurd (omega arith)
four (a ∷ []) h = absurd (omega arith)
four (a ∷ b ∷ []) h = absurd (omega arith)
four (a ∷ b ∷ c ∷ []) h = absurd (omega arith)
four (a ∷ b ∷ c ∷ d ∷ []) h = (a, b, c, d, refl)
four (a ∷ b ∷ c ∷ d ∷ e ∷ r) h = absurd (omega arith)

row_words_of-spelled : (s k : ℕ) (c0 c1 c2 c3 : ℤ) (body : List ℕ) → s < 2 ^ 8 → k < 2 ^ 64 → FitsSigned w64 c0 → FitsSigned w64 c1 → FitsSigned w64 c2 → FitsSigned w64 c3 → AllByRecursion (λ b. b < 2 ^ 8) body
    → row_words_of (decimal s ++ 32 ∷ (decimal k ++ 32 ∷ (signed_decimal c0 ++ 32 ∷ (signed_decimal c1 ++ 32 ∷ (signed_decimal c2 ++ 32 ∷ (signed_decimal c3 ++ 32 ∷ body_text body)))))) ≡ Some (s, record { key = k; cols = c0 ∷ c1 ∷ c2 ∷ c3 ∷ []; body = body })
unfolding row_words_of
row_words_of-spelled s k c0 c1 c2 c3 body hs hk h0 h1 h2 h3 hb =
    rw (
      number_then-decimal 255 s (decimal k ++ 32 ∷ (signed_decimal c0 ++ 32 ∷ (signed_decimal c1 ++ 32 ∷ (signed_decimal c2 ++ 32 ∷ (signed_decimal c3 ++ 32 ∷ body_text body))))) (omega arith) (omega arith),
      number_then-decimal (2 ^ 64 - 1) k (signed_decimal c0 ++ 32 ∷ (signed_decimal c1 ++ 32 ∷ (signed_decimal c2 ++ 32 ∷ (signed_decimal c3 ++ 32 ∷ body_text body)))) (omega arith) (omega arith),
      column_then-signed c0 (signed_decimal c1 ++ 32 ∷ (signed_decimal c2 ++ 32 ∷ (signed_decimal c3 ++ 32 ∷ body_text body))) h0,
      column_then-signed c1 (signed_decimal c2 ++ 32 ∷ (signed_decimal c3 ++ 32 ∷ body_text body)) h1,
      column_then-signed c2 (signed_decimal c3 ++ 32 ∷ body_text body) h2,
      column_then-signed c3 (body_text body) h3,
      body_of-text body hb,
    ) refl

-- a verb is found again, and no line of a verb is the line of the ids
pub with_verb : (verb rest : List ℕ) (line : Option Line) → Free 32 verb → bytes_eq (verb ++ 32 ∷ rest) (codes "ids") ≡ false → line_in all_verbs verb rest ≡ line
    → line_at (verb ++ 32 ∷ rest) ≡ line
unfolding line_at
with_verb verb rest line free other same = rw (other, cut-free verb rest free) same

row_words_of-columns : (s k : ℕ) (c0 c1 c2 c3 : ℤ) (body : List ℕ) → s < 2 ^ 8 → k < 2 ^ 64 → FitsSigned w64 c0 → FitsSigned w64 c1 → FitsSigned w64 c2 → FitsSigned w64 c3 → AllByRecursion (λ b. b < 2 ^ 8) body
    → row_words_of (decimal s ++ spaced (row_text k (c0 ∷ c1 ∷ c2 ∷ c3 ∷ []) body)) ≡ Some (s, record { key = k; cols = c0 ∷ c1 ∷ c2 ∷ c3 ∷ []; body = body })
row_words_of-columns s k c0 c1 c2 c3 body hs hk h0 h1 h2 h3 hb =
    ap (λ r. row_words_of (decimal s ++ 32 ∷ r)) (sym (regroup (decimal k) (signed_decimal c0) (signed_decimal c1) (signed_decimal c2) (signed_decimal c3) (body_text body)))
    ∙ row_words_of-spelled s k c0 c1 c2 c3 body hs hk h0 h1 h2 h3 hb

row_words_of-words : (s : ℕ) (row : RowToWrite) → RowFits s row → row_words_of (row_words s row) ≡ Some (s, row)
row_words_of-words s row h =
    let f = four row.cols h.2 in
    let all = rw f.4 at h.3 in
    let same : record row { cols = f.0 ∷ f.1 ∷ f.2 ∷ f.3 ∷ [] } ≡ row = ap (λ (cols : List ℤ). record row { cols = cols }) (sym f.4) in
    ap (λ (cols : List ℤ). row_words_of (decimal s ++ spaced (row_text row.key cols row.body))) f.4
    ∙ row_words_of-columns s row.key f.0 f.1 f.2 f.3 row.body h.0 h.1 all.0 all.1.0 all.1.1.0 all.1.1.1.0 h.4
    ∙ ap (λ (r : RowToWrite). Some (s, r)) same

key_words_of-words : (s k : ℕ) → s < 2 ^ 8 → k < 2 ^ 64 → key_words_of (key_words s k) ≡ Some (s, k)
unfolding key_words_of
key_words_of-words s k hs hk = rw (number_then-decimal 255 s (decimal k) (omega arith) (omega arith), number_of-decimal (2 ^ 64 - 1) k (omega arith) (omega arith)) refl

count_words_of-words : (s n : ℕ) → s < 2 ^ 8 → n < 2 ^ 16 → count_words_of (key_words s n) ≡ Some (s, n)
unfolding count_words_of
count_words_of-words s n hs hn = rw (number_then-decimal 255 s (decimal n) (omega arith) (omega arith), number_of-decimal 65535 n (omega arith) (omega arith)) refl

page_words_of-words : (s p : ℕ) → s < 2 ^ 8 → p < 2 ^ 32 → page_words_of (key_words s p) ≡ Some (s, p)
unfolding page_words_of
page_words_of-words s p hs hp = rw (number_then-decimal 255 s (decimal p) (omega arith) (omega arith), number_of-decimal 4294967295 p (omega arith) (omega arith)) refl

range_words_of-words : (s index : ℕ) (low high : ℤ) → RangeFits s index low high → range_words_of (range_words s index low high) ≡ Some (s, index, low, high)
unfolding range_words_of
range_words_of-words s index low high h =
    rw (
      number_then-decimal 255 s (decimal index ++ 32 ∷ (signed_decimal low ++ 32 ∷ signed_decimal high)) (omega (arith, h.0)) (omega arith),
      number_then-decimal 255 index (signed_decimal low ++ 32 ∷ signed_decimal high) (omega (arith, h.1)) (omega arith),
      bound_then-signed low (signed_decimal high) h.2,
      bound_of-signed high h.3,
    ) refl

bounds_words_of-words : (s : ℕ) (low high : ℤ) → BoundsFit s low high → bounds_words_of (bounds_words s low high) ≡ Some (s, low, high)
unfolding bounds_words_of
bounds_words_of-words s low high h = rw (
  number_then-decimal 255 s (signed_decimal low ++ 32 ∷ signed_decimal high) (omega (arith, h.0)) (omega arith),
  bound_then-signed low (signed_decimal high) h.1,
  bound_of-signed high h.2,
) refl

ids_line : line_at (codes "ids") ≡ Some Ids
unfolding line_at
ids_line = refl

pub line_at-spelling : (l : Line) → LineFits l → line_at (spelling l) ≡ Some l
line_at-spelling (Do (step.Begin s)) h =
    with_verb (codes "begin") (decimal s) _ (free_text 32 (codes "begin") refl) refl (ap (λ (o : Option ℕ). option_map (λ s. Do (step.Begin s)) o) (number_of-decimal 255 s (omega arith) (omega arith)))
line_at-spelling (Do (step.BeginReadCommitted s)) h =
    with_verb (codes "beginrc") (decimal s) _ (free_text 32 (codes "beginrc") refl) refl (ap (λ (o : Option ℕ). option_map (λ s. Do (step.BeginReadCommitted s)) o) (number_of-decimal 255 s (omega arith) (omega arith)))
line_at-spelling (Do (step.Get s k)) h =
    with_verb (codes "get") (key_words s k) _ (free_text 32 (codes "get") refl) refl (ap (λ (o : Option (ℕ × ℕ)). option_map (λ p. Do (step.Get p.0 p.1)) o) (key_words_of-words s k h.0 h.1))
line_at-spelling (Do (step.Insert s row)) h =
    with_verb (codes "insert") (row_words s row) _ (free_text 32 (codes "insert") refl) refl (ap (λ (o : Option (ℕ × RowToWrite)). option_map (λ p. Do (step.Insert p.0 p.1)) o) (row_words_of-words s row h))
line_at-spelling (Do (step.Update s row)) h =
    with_verb (codes "update") (row_words s row) _ (free_text 32 (codes "update") refl) refl (ap (λ (o : Option (ℕ × RowToWrite)). option_map (λ p. Do (step.Update p.0 p.1)) o) (row_words_of-words s row h))
line_at-spelling (Do (step.Delete s k)) h =
    with_verb (codes "delete") (key_words s k) _ (free_text 32 (codes "delete") refl) refl (ap (λ (o : Option (ℕ × ℕ)). option_map (λ p. Do (step.Delete p.0 p.1)) o) (key_words_of-words s k h.0 h.1))
line_at-spelling (Do (step.Savepoint s)) h =
    with_verb (codes "savepoint") (decimal s) _ (free_text 32 (codes "savepoint") refl) refl (ap (λ (o : Option ℕ). option_map (λ s. Do (step.Savepoint s)) o) (number_of-decimal 255 s (omega arith) (omega arith)))
line_at-spelling (Do (step.RollbackTo s)) h =
    with_verb (codes "rollbackto") (decimal s) _ (free_text 32 (codes "rollbackto") refl) refl (ap (λ (o : Option ℕ). option_map (λ s. Do (step.RollbackTo s)) o) (number_of-decimal 255 s (omega arith) (omega arith)))
line_at-spelling (Do (step.Release s)) h =
    with_verb (codes "release") (decimal s) _ (free_text 32 (codes "release") refl) refl (ap (λ (o : Option ℕ). option_map (λ s. Do (step.Release s)) o) (number_of-decimal 255 s (omega arith) (omega arith)))
line_at-spelling (Do (step.Commit s)) h =
    with_verb (codes "commit") (decimal s) _ (free_text 32 (codes "commit") refl) refl (ap (λ (o : Option ℕ). option_map (λ s. Do (step.Commit s)) o) (number_of-decimal 255 s (omega arith) (omega arith)))
line_at-spelling (Do (step.Abort s)) h =
    with_verb (codes "abort") (decimal s) _ (free_text 32 (codes "abort") refl) refl (ap (λ (o : Option ℕ). option_map (λ s. Do (step.Abort s)) o) (number_of-decimal 255 s (omega arith) (omega arith)))
line_at-spelling (Do (step.OpenIndex s index low high)) h =
    with_verb (codes "openindex") (range_words s index low high) _ (free_text 32 (codes "openindex") refl) refl (ap (λ (o : Option (ℕ × ℕ × ℤ × ℤ)). option_map (λ p. Do (step.OpenIndex p.0 p.1 p.2 p.3)) o) (range_words_of-words s index low high h))
line_at-spelling (Do (step.OpenHeap s)) h =
    with_verb (codes "openheap") (decimal s) _ (free_text 32 (codes "openheap") refl) refl (ap (λ (o : Option ℕ). option_map (λ s. Do (step.OpenHeap s)) o) (number_of-decimal 255 s (omega arith) (omega arith)))
line_at-spelling (Do (step.OpenKeys s low high)) h =
    with_verb (codes "openkeys") (bounds_words s low high) _ (free_text 32 (codes "openkeys") refl) refl (ap (λ (o : Option (ℕ × ℤ × ℤ)). option_map (λ p. Do (step.OpenKeys p.0 p.1 p.2)) o) (bounds_words_of-words s low high h))
line_at-spelling (Do (step.Next s n)) h =
    with_verb (codes "next") (key_words s n) _ (free_text 32 (codes "next") refl) refl (ap (λ (o : Option (ℕ × ℕ)). option_map (λ p. Do (step.Next p.0 p.1)) o) (count_words_of-words s n h.0 h.1))
line_at-spelling (Do (step.Close s)) h =
    with_verb (codes "close") (decimal s) _ (free_text 32 (codes "close") refl) refl (ap (λ (o : Option ℕ). option_map (λ s. Do (step.Close s)) o) (number_of-decimal 255 s (omega arith) (omega arith)))
line_at-spelling (Do (step.TakePage s p)) h =
    with_verb (codes "takepage") (key_words s p) _ (free_text 32 (codes "takepage") refl) refl (ap (λ (o : Option (ℕ × ℕ)). option_map (λ p. Do (step.TakePage p.0 p.1)) o) (page_words_of-words s p h.0 h.1))
line_at-spelling (Do (step.Prune p)) h =
    with_verb (codes "prune") (decimal p) _ (free_text 32 (codes "prune") refl) refl (ap (λ (o : Option ℕ). option_map (λ p. Do (step.Prune p)) o) (number_of-decimal 4294967295 p (omega arith) (omega arith)))
line_at-spelling (Do (step.ApplyPlan p plan)) h =
    with_verb (codes "apply") (plan_words p plan) _ (free_text 32 (codes "apply") refl) refl (ap (λ (o : Option (ℕ × PlanToApply)). option_map (λ p. Do (step.ApplyPlan p.0 p.1)) o) (plan_words_of-words p plan h))
line_at-spelling (Do (step.VacuumBegin mode.Normal)) h = with_verb (codes "vacuum") (codes "begin normal") _ (free_text 32 (codes "vacuum") refl) refl refl
line_at-spelling (Do (step.VacuumBegin mode.Aggressive)) h = with_verb (codes "vacuum") (codes "begin aggressive") _ (free_text 32 (codes "vacuum") refl) refl refl
line_at-spelling (Do step.VacuumStep) h = with_verb (codes "vacuum") (codes "step") _ (free_text 32 (codes "vacuum") refl) refl refl
line_at-spelling (Do step.VacuumCancel) h = with_verb (codes "vacuum") (codes "cancel") _ (free_text 32 (codes "vacuum") refl) refl refl
line_at-spelling (Do (step.CreateIndex c)) h =
    with_verb (codes "createindex") (decimal c) _ (free_text 32 (codes "createindex") refl) refl (ap (λ (o : Option ℕ). option_map (λ c. Do (step.CreateIndex c)) o) (number_of-decimal 255 c (omega arith) (omega arith)))
line_at-spelling VacuumFinish h = with_verb (codes "vacuum") (codes "finish") _ (free_text 32 (codes "vacuum") refl) refl refl
line_at-spelling Ids h = ids_line
line_at-spelling (Page p) h =
    with_verb (codes "page") (decimal p) _ (free_text 32 (codes "page") refl) refl (ap (λ (o : Option ℕ). option_map (λ p. Page p) o) (number_of-decimal 4294967295 p (omega arith) (omega arith)))
line_at-spelling (Entries i) h =
    with_verb (codes "entries") (decimal i) _ (free_text 32 (codes "entries") refl) refl (ap (λ (o : Option ℕ). option_map (λ i. Entries i) o) (number_of-decimal 255 i (omega arith) (omega arith)))

-- what is read of a line is what it spells
spells : (text : List ℕ) (o : Option Line) → o ≡ line_at text → Spells text o
spells text None e = λ l fits is. none-some l (e ∙ ap line_at is ∙ line_at-spelling l fits)
spells text (Some l) e = line_at_says text l (sym e)

pub spells_read : {E : Type 0} (r : Result (Option Line) E) (text : List ℕ) → IfOk r (λ o. o ≡ line_at text) → IfOk r (λ o. Spells text o)
spells_read (Ok o) text h = spells text o h
spells_read (Err e) text h = tt

columns_free : (cols : List ℤ) → AllByRecursion (λ c. FitsSigned w64 c) cols → Free 10 (flat_map (λ c. spaced (signed_decimal c)) cols)
columns_free [] h = tt
columns_free (c ∷ cs) h = Free-append 10 (spaced (signed_decimal c)) (flat_map (λ c. spaced (signed_decimal c)) cs) (refl, signed_free 10 c (omega arith) h.0) (columns_free cs h.1)

far_from : (k : ℕ) → 10 < k → eqb k 10 ≡ false
far_from k h = grind (arith, nat_tests)

glyph_free : (a : ℕ) → a < 16 → eqb (digit_glyph false a) 10 ≡ false
glyph_free a h = elim (cases_lt a 10) [
  | inl l ↦ rw (low_glyph a l) (far_from (48 + a) (omega arith))
  | inr g ↦ rw (high_glyph a g) (far_from (87 + a) (omega arith))
]

hex_free : (bs : List ℕ) → AllByRecursion (λ b. b < 2 ^ 8) bs → Free 10 (hex_text bs)
hex_free [] h = tt
hex_free (b ∷ bs) h = let small = h.0 in (glyph_free (b / 16) (omega arith), (glyph_free (b % 16) (omega arith), hex_free bs h.1))

body_free : (bs : List ℕ) → AllByRecursion (λ b. b < 2 ^ 8) bs → Free 10 (body_text bs)
body_free [] h = (refl, tt)
body_free (b ∷ bs) h = hex_free (b ∷ bs) h

pub one_free : (n : ℕ) → n < 2 ^ 64 → Free 10 (spaced (decimal n))
one_free n h = (refl, decimal_free 10 n (omega arith) (omega arith))

row_free : (row : RowToWrite) → row.key < 2 ^ 64 → AllByRecursion (λ c. FitsSigned w64 c) row.cols → AllByRecursion (λ b. b < 2 ^ 8) row.body → Free 10 (row_text row.key row.cols row.body)
row_free row k cols body = Free-append 10 (decimal row.key) _ (decimal_free 10 row.key (omega arith) (omega (arith, k))) (Free-append 10 _ (spaced (body_text row.body)) (columns_free row.cols cols) (refl, body_free row.body body))

key_words_free : (s k : ℕ) → KeyFits s k → Free 10 (spaced (key_words s k))
key_words_free s k h = (refl, Free-append 10 (decimal s) (spaced (decimal k)) (decimal_free 10 s (omega arith) (omega (arith, h.0))) (one_free k h.1))

range_words_free : (s index : ℕ) (low high : ℤ) → RangeFits s index low high → Free 10 (spaced (range_words s index low high))
range_words_free s index low high h = (
  refl,
  Free-append 10 (decimal s) (spaced (decimal index ++ spaced (signed_decimal low ++ spaced (signed_decimal high)))) (decimal_free 10 s (omega arith) (omega (arith, h.0))) (
    refl,
    Free-append 10 (decimal index) (spaced (signed_decimal low ++ spaced (signed_decimal high))) (decimal_free 10 index (omega arith) (omega (arith, h.1)))
        (refl, Free-append 10 (signed_decimal low) (spaced (signed_decimal high)) (bound_free 10 low (omega arith) h.2) (refl, bound_free 10 high (omega arith) h.3)),
  ),
)

bounds_words_free : (s : ℕ) (low high : ℤ) → BoundsFit s low high → Free 10 (spaced (bounds_words s low high))
bounds_words_free s low high h = (
  refl,
  Free-append 10 (decimal s) (spaced (signed_decimal low ++ spaced (signed_decimal high))) (decimal_free 10 s (omega arith) (omega (arith, h.0)))
      (refl, Free-append 10 (signed_decimal low) (spaced (signed_decimal high)) (bound_free 10 low (omega arith) h.1) (refl, bound_free 10 high (omega arith) h.2)),
)

row_words_free : (s : ℕ) (row : RowToWrite) → RowFits s row → Free 10 (spaced (row_words s row))
row_words_free s row h =
    (refl, Free-append 10 (decimal s) (spaced (row_text row.key row.cols row.body)) (decimal_free 10 s (omega arith) (omega (arith, h.0))) (refl, row_free row h.1 h.3 h.4))

-- no line feed is in a line's text
pub Free-spelling : (l : Line) → LineFits l → Free 10 (spelling l)
Free-spelling (Do (step.Begin s)) h = Free-append 10 (codes "begin") (spaced (decimal s)) (free_text 10 (codes "begin") refl) (one_free s (omega arith))
Free-spelling (Do (step.BeginReadCommitted s)) h = Free-append 10 (codes "beginrc") (spaced (decimal s)) (free_text 10 (codes "beginrc") refl) (one_free s (omega arith))
Free-spelling (Do (step.Get s k)) h = Free-append 10 (codes "get") (spaced (key_words s k)) (free_text 10 (codes "get") refl) (key_words_free s k h)
Free-spelling (Do (step.Insert s row)) h = Free-append 10 (codes "insert") (spaced (row_words s row)) (free_text 10 (codes "insert") refl) (row_words_free s row h)
Free-spelling (Do (step.Update s row)) h = Free-append 10 (codes "update") (spaced (row_words s row)) (free_text 10 (codes "update") refl) (row_words_free s row h)
Free-spelling (Do (step.Delete s k)) h = Free-append 10 (codes "delete") (spaced (key_words s k)) (free_text 10 (codes "delete") refl) (key_words_free s k h)
Free-spelling (Do (step.Savepoint s)) h = Free-append 10 (codes "savepoint") (spaced (decimal s)) (free_text 10 (codes "savepoint") refl) (one_free s (omega arith))
Free-spelling (Do (step.RollbackTo s)) h = Free-append 10 (codes "rollbackto") (spaced (decimal s)) (free_text 10 (codes "rollbackto") refl) (one_free s (omega arith))
Free-spelling (Do (step.Release s)) h = Free-append 10 (codes "release") (spaced (decimal s)) (free_text 10 (codes "release") refl) (one_free s (omega arith))
Free-spelling (Do (step.Commit s)) h = Free-append 10 (codes "commit") (spaced (decimal s)) (free_text 10 (codes "commit") refl) (one_free s (omega arith))
Free-spelling (Do (step.Abort s)) h = Free-append 10 (codes "abort") (spaced (decimal s)) (free_text 10 (codes "abort") refl) (one_free s (omega arith))
Free-spelling (Do (step.OpenIndex s index low high)) h = Free-append 10 (codes "openindex") (spaced (range_words s index low high)) (free_text 10 (codes "openindex") refl) (range_words_free s index low high h)
Free-spelling (Do (step.OpenHeap s)) h = Free-append 10 (codes "openheap") (spaced (decimal s)) (free_text 10 (codes "openheap") refl) (one_free s (omega arith))
Free-spelling (Do (step.OpenKeys s low high)) h = Free-append 10 (codes "openkeys") (spaced (bounds_words s low high)) (free_text 10 (codes "openkeys") refl) (bounds_words_free s low high h)
Free-spelling (Do (step.Next s n)) h = Free-append 10 (codes "next") (spaced (key_words s n)) (free_text 10 (codes "next") refl) (key_words_free s n (h.0, omega (arith, h.1)))
Free-spelling (Do (step.Close s)) h = Free-append 10 (codes "close") (spaced (decimal s)) (free_text 10 (codes "close") refl) (one_free s (omega arith))
Free-spelling (Do (step.TakePage s p)) h = Free-append 10 (codes "takepage") (spaced (key_words s p)) (free_text 10 (codes "takepage") refl) (key_words_free s p (h.0, omega (arith, h.1)))
Free-spelling (Do (step.Prune p)) h = Free-append 10 (codes "prune") (spaced (decimal p)) (free_text 10 (codes "prune") refl) (one_free p (omega arith))
Free-spelling (Do (step.ApplyPlan p plan)) h = Free-append 10 (codes "apply") (spaced (plan_words p plan)) (free_text 10 (codes "apply") refl) (plan_words_free p plan h)
Free-spelling (Do (step.VacuumBegin mode.Normal)) h = free_text 10 (codes "vacuum begin normal") refl
Free-spelling (Do (step.VacuumBegin mode.Aggressive)) h = free_text 10 (codes "vacuum begin aggressive") refl
Free-spelling (Do step.VacuumStep) h = free_text 10 (codes "vacuum step") refl
Free-spelling (Do step.VacuumCancel) h = free_text 10 (codes "vacuum cancel") refl
Free-spelling (Do (step.CreateIndex c)) h = Free-append 10 (codes "createindex") (spaced (decimal c)) (free_text 10 (codes "createindex") refl) (one_free c (omega arith))
Free-spelling VacuumFinish h = free_text 10 (codes "vacuum finish") refl
Free-spelling Ids h = (refl, (refl, (refl, tt)))
Free-spelling (Page p) h = Free-append 10 (codes "page") (spaced (decimal p)) (free_text 10 (codes "page") refl) (one_free p (omega arith))
Free-spelling (Entries i) h = Free-append 10 (codes "entries") (spaced (decimal i)) (free_text 10 (codes "entries") refl) (one_free i (omega arith))
