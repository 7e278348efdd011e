-- A number of up to 64 digits, so also one of 128 bits, is written so that its digits give it back.
use Rattle.std.proofs.Common.{◌≡◌, ℕ, ◌+◌, ◌*◌, ◌/◌, ◌%◌, ◌^◌, ◌<◌, ◌≤◌, List, [], ◌∷◌, ◌++◌, length, get_or, length-append, ap, append_assoc, ◌∙◌, sym, arith}
use Rattle.std.proofs.Math.ListN.{get_or-append}
use Rattle.std.specs.Str.Parse.{AllDigits, digits_value_after, digits_value}
use Rattle.std.specs.Char.{digit_value}
use Rattle.std.specs.Fmt.{decimal}
use Rattle.std.proofs.lemmas.List.{append-nil}
use Rattle.std.proofs.lemmas.Str.{digit_value_digit}
use Rattle.std.proofs.lemmas.Str.Parse.{IsNumeralModel, digit_from_value}
use Rattle.std.proofs.lemmas.Fmt.{decimal_is_IsNumeral_wide, decimal_step_wide, decimal_by_steps_wide, decimal_digit}

pub decimal_nonempty : (n : ℕ) → n < 10 ^ 64 → 0 < length (decimal n)
decimal_nonempty n h = (decimal_is_IsNumeral_wide n h).0.0

pub first_decimal : (n : ℕ) → 0 < n → n < 10 ^ 64 → 48 < get_or (decimal n) 0 0
first_decimal n some small = (decimal_by_steps_wide (λ m ds. (0 < length ds) × (0 < m → 48 < get_or ds 0 0)) (λ m l. (omega arith, λ a. omega arith))
    (λ m ds l h. (omega (arith, length-append ds ((48 + m % 10) ∷ [])), λ a. omega (arith, get_or-append ds ((48 + m % 10) ∷ []) 0 0 h.0, h.1 (omega arith)))) n small).1 some

pub digits_decimal : {P : List ℕ → Type 0} {v : List ℕ → ℕ} → IsNumeralModel P v → (n : ℕ) → n < 10 ^ 64 → P (decimal n)
digits_decimal own n h = own.from (decimal n) (decimal_is_IsNumeral_wide n h).0.1

pub digits_value-decimal : {P : List ℕ → Type 0} {v : List ℕ → ℕ} → IsNumeralModel P v → (n : ℕ) → n < 10 ^ 64 → v (decimal n) ≡ n
digits_value-decimal own n h = own.same (decimal n) (decimal_is_IsNumeral_wide n h).0.1 ∙ (decimal_is_IsNumeral_wide n h).1

le_value_after : (n : ℕ) (ds : List ℕ) → n ≤ digits_value_after 10 n ds
le_value_after n [] = omega arith
le_value_after n (c ∷ cs) = omega (arith, le_value_after (n * 10 + digit_value c) cs)

decimal_value_after : (n : ℕ) (ds : List ℕ) → 0 < n → AllDigits 10 ds → digits_value_after 10 n ds < 10 ^ 64 → decimal (digits_value_after 10 n ds) ≡ decimal n ++ ds
decimal_value_after n [] some d small = sym (append-nil (decimal n))
decimal_value_after n (c ∷ cs) some d small =
    let m : ℕ = n * 10 + digit_value c in
    let k = digit_value_digit c (digit_from_value c d.0) in
    let prefix : m / 10 ≡ n = omega (arith, d.0) in
    let end : 48 + m % 10 ≡ c = omega (arith, d.0) in
    decimal_value_after m cs (omega arith) d.1 small
    ∙ ap (λ x. x ++ cs) (decimal_step_wide m (omega arith) (omega (arith, le_value_after m cs)) ∙ (λ i. decimal (prefix i) ++ (end i ∷ [])))
    ∙ append_assoc (decimal n) (c ∷ []) cs

decimal_value_digits : (ds : List ℕ) → AllDigits 10 ds → 0 < length ds → (get_or ds 0 0 ≡ 48 → length ds ≡ 1) → digits_value 10 ds < 10 ^ 64 → decimal (digits_value 10 ds) ≡ ds
decimal_value_digits [] d some lead small = absurd (omega arith)
decimal_value_digits (c ∷ []) d some lead small =
    let k = digit_value_digit c (digit_from_value c d.0) in
    decimal_digit (0 * 10 + digit_value c) (omega (arith, d.0)) ∙ ap (λ x. x ∷ []) (omega arith)
decimal_value_digits (c ∷ e ∷ cs) d some lead small =
    let k = digit_value_digit c (digit_from_value c d.0) in
    let no : c ≡ 48 → ⊥ = λ z. omega (arith, lead z) in
    let is : 48 + (0 * 10 + digit_value c) ≡ c = omega arith in
    decimal_value_after (0 * 10 + digit_value c) (e ∷ cs) (omega arith) d.1 small
    ∙ ap (λ x. x ++ (e ∷ cs)) (decimal_digit (0 * 10 + digit_value c) (omega (arith, d.0)) ∙ ap (λ x. x ∷ []) is)

-- digits with no leading zero, or just `0`, are what is written of their value
pub decimal-digits_value : {P : List ℕ → Type 0} {v : List ℕ → ℕ} → IsNumeralModel P v → (ds : List ℕ) → P ds → 0 < length ds → (get_or ds 0 0 ≡ 48 → length ds ≡ 1) → v ds < 10 ^ 64 → decimal (v ds) ≡ ds
decimal-digits_value own ds p some lead small = let d = own.to ds p in ap decimal (own.same ds d) ∙ decimal_value_digits ds d some lead (omega (arith, own.same ds d))
