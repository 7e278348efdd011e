-- Lines that are read one by one, and counted.
use Rattle.std.proofs.Common.{◌≡◌, ℕ, ◌+◌, ◌-◌, ◌^◌, ◌<◌, ◌≤◌, suc, zero, List, [], ◌∷◌, ◌++◌, length, map, get_or, refl, ap, ◌∙◌, sym, subst, arith, Option, None, Some, Bool, true, false, cond, eqb, eq-eqb}
use Rattle.std.specs.List.{flat_map, AllByRecursion, slice_split, join_with_byte}
use Rattle.std.specs.Fmt.{decimal}
use Rattle.std.specs.Str.{bytes_eq}
use Rattle.std.proofs.lemmas.Option.{none-some, same_Some}
use Rattle.std.proofs.lemmas.Bool.Decides.{nat_tests}
use Rattle.std.proofs.lemmas.Fmt.{decimal_digit}
use Rattle.std.proofs.lemmas.List.{append-nil}
use Rattle.std.proofs.lemmas.List.Splits.{join_with_byte-slice_split, length-slice_split}
use Rattle.script_text.specs.Reading.{◌>>=◌, cut, cut_at, number_of}
use Rattle.script_text.proofs.ByteLemmas.{Free}
use Rattle.script_text.proofs.NumberLaws.{guarded, bound, cut_says, cut-free, cut_at_says, cut_at-free, number_of_says, number_of-decimal, decimal_free}
use Rattle.script_text.proofs.GrammarLaws.{verb_is}
use Rattle.reply_text.specs.Replies.{AllFit}
use Rattle.reply_text.specs.Reading.{behind, each_of, feed_split, so_many, lines_behind, counted_of}

-- A text is cut into its lines.

feed_split-free : (w : List ℕ) → Free 10 w → feed_split w ≡ w ∷ []
feed_split-free [] h = refl
feed_split-free (b ∷ bs) h = rw (h.0, feed_split-free bs h.1) refl

feed_split-cons : (w rest : List ℕ) → Free 10 w → feed_split (w ++ 10 ∷ rest) ≡ w ∷ feed_split rest
feed_split-cons [] rest h = refl
feed_split-cons (b ∷ bs) rest h = rw (h.0, feed_split-cons bs rest h.1) refl

-- the first word, and what stands behind it
pub behind_says : (word line rest : List ℕ) → behind word line ≡ Some rest → line ≡ word ++ 32 ∷ rest
unfolding behind
behind_says word line rest h =
    let parts = bound (cut line) _ rest h in
    let g = guarded (bytes_eq parts.0.0 word) (Some parts.0.1) rest parts.2 in
    cut_says line parts.0.0 parts.0.1 parts.1 ∙ ap (λ w. w ++ 32 ∷ parts.0.1) (verb_is parts.0.0 word g.0) ∙ ap (λ r. word ++ 32 ∷ r) (same_Some parts.0.1 rest g.1)

pub behind-word : (word rest : List ℕ) → Free 32 word → bytes_eq word word ≡ true → behind word (word ++ 32 ∷ rest) ≡ Some rest
unfolding behind
behind-word word rest free same = rw (cut-free word rest free, same) refl

-- what one line more says goes behind what those before it say
pub each_of-more : {A : Type 0} (read : List ℕ → Option A) (lines : List (List ℕ)) (line : List ℕ) (xs : List A) (x : A) → each_of read lines ≡ Some xs → read line ≡ Some x
    → each_of read (lines ++ line ∷ []) ≡ Some (xs ++ x ∷ [])
unfolding each_of
each_of-more read [] line xs x h e = rw (← same_Some [] xs h, e) refl
each_of-more read (first ∷ lines) line xs x h e =
    let front = bound (read first) _ xs h in
    let more = bound (each_of read lines) _ xs front.2 in
    let all = each_of-more read lines line more.0 x more.1 e in
    rw (front.1, all) (ap (λ ys. Some (ys ++ x ∷ [])) (same_Some (front.0 ∷ more.0) xs more.2))

none_after : {A : Type 0} (o : Option A) (rest : Option (List A)) → rest ≡ None → (o >>= λ x. rest >>= λ xs. Some (x ∷ xs)) ≡ None
none_after None rest e = refl
none_after (Some x) rest e = rw e refl

-- where one line says nothing, all say nothing
pub each_of-stop : {A : Type 0} (read : List ℕ → Option A) (lines : List (List ℕ)) (i : ℕ) (line : List ℕ) → i < length lines → line ≡ get_or lines i line → read line ≡ None → each_of read lines ≡ None
unfolding each_of
each_of-stop read [] i line h at e = absurd (omega arith)
each_of-stop read (first ∷ lines) zero line h at e = rw (← at, e) refl
each_of-stop read (first ∷ lines) (suc i) line h at e = none_after (read first) (each_of read lines) (each_of-stop read lines i line (omega arith) at e)

-- how the values of lines are spelled and read
pub record AreLines {A : Type 0} (read : List ℕ → Option A) (text : A → List ℕ) (Fits : A → Type 0) : Type 0 where
  pub says : (w : List ℕ) (x : A) → read w ≡ Some x → Fits x × (w ≡ text x)
  pub reads : (x : A) → Fits x → read (text x) ≡ Some x
  pub free : (x : A) → Fits x → Free 10 (text x)

cons_is : {A : Type 0} (x y : A) (xs ys : List A) → x ≡ y → xs ≡ ys → x ∷ xs ≡ y ∷ ys
cons_is x y xs ys e f = cc

each_of_says : {A : Type 0} (read : List ℕ → Option A) (text : A → List ℕ) (Fits : A → Type 0) (lines : List (List ℕ)) (xs : List A) → AreLines read text Fits → each_of read lines ≡ Some xs
    → AllByRecursion Fits xs × (lines ≡ map text xs)
unfolding each_of
each_of_says read text Fits [] xs are h = rw (← same_Some [] xs h) (tt, refl)
each_of_says read text Fits (line ∷ lines) xs are h =
    let first = bound (read line) _ xs h in
    let more = bound (each_of read lines) _ xs first.2 in
    let says = are.says line first.0 first.1 in
    let rest = each_of_says read text Fits lines more.0 are more.1 in
    rw (← same_Some _ xs more.2) ((says.0, rest.0), cons_is line (text first.0) lines (map text more.0) says.1 rest.1)

each_of-map : {A : Type 0} (read : List ℕ → Option A) (text : A → List ℕ) (Fits : A → Type 0) (xs : List A) → AreLines read text Fits → AllByRecursion Fits xs → each_of read (map text xs) ≡ Some xs
unfolding each_of
each_of-map read text Fits [] are h = refl
each_of-map read text Fits (x ∷ xs) are h = rw (are.reads x h.0, each_of-map read text Fits xs are h.1) refl

joined : {A : Type 0} (text : A → List ℕ) (x : A) (xs : List A) → join_with_byte 10 (map text (x ∷ xs)) ≡ text x ++ flat_map (λ y. 10 ∷ text y) xs
joined text x [] = sym (append-nil (text x))
joined text x (y ∷ ys) = ap (λ r. text x ++ 10 ∷ r) (joined text y ys)

split_joined : {A : Type 0} (read : List ℕ → Option A) (text : A → List ℕ) (Fits : A → Type 0) (x : A) (xs : List A) → AreLines read text Fits → Fits x → AllByRecursion Fits xs
    → feed_split (text x ++ flat_map (λ y. 10 ∷ text y) xs) ≡ map text (x ∷ xs)
split_joined read text Fits x [] are fit h = ap (λ w. feed_split w) (append-nil (text x)) ∙ feed_split-free (text x) (are.free x fit)
split_joined read text Fits x (y ∷ ys) are fit h =
    feed_split-cons (text x) (text y ++ flat_map (λ y. 10 ∷ text y) ys) (are.free x fit) ∙ ap (λ r. text x ∷ r) (split_joined read text Fits y ys are h.0 h.1)

-- the lines of values, and the text that they are lines of
lines_are : {A : Type 0} (text : A → List ℕ) (lines : List ℕ) (xs : List A) → feed_split lines ≡ map text xs → 10 ∷ lines ≡ flat_map (λ y. 10 ∷ text y) xs
lines_are text lines [] e =
    let some = length-slice_split (λ b. eqb b 10) lines in
    let none : length (feed_split lines) ≡ 0 = ap (λ (ls : List (List ℕ)). length ls) e in
    absurd (omega arith)
lines_are text lines (x ∷ xs) e = ap (λ r. 10 ∷ r) (sym (join_with_byte-slice_split 10 lines) ∙ ap (join_with_byte 10) e ∙ joined text x xs)

so_many_says : {A : Type 0} (n : ℕ) (xs ys : List A) → so_many n xs ≡ Some ys → (n ≡ length xs) × (xs ≡ ys)
so_many_says n xs ys h =
    let g = guarded (eqb n (length xs)) (Some xs) ys h in
    let t = g.0 in
    (grind (arith, nat_tests), same_Some xs ys g.1)

lines_behind_says : {A : Type 0} (read : List ℕ → Option A) (text : A → List ℕ) (Fits : A → Type 0) (words : List ℕ) (o : Option (List ℕ × List ℕ)) (xs : List A) → AreLines read text Fits
    → cut_at 10 words ≡ o → lines_behind read words o ≡ Some xs → AllFit Fits xs × (words ≡ decimal (length xs) ++ flat_map (λ x. 10 ∷ text x) xs)
lines_behind_says read text Fits words None xs are e h =
    let n = bound (number_of (2 ^ 64 - 1) words) _ xs h in
    let many = so_many_says n.0 [] xs n.2 in
    let says = number_of_says (2 ^ 64 - 1) words n.0 (omega arith) n.1 in
    rw (← many.1) (record { each = tt; few = omega arith }, says.0 ∙ ap (λ k. decimal k) many.0 ∙ sym (append-nil (decimal 0)))
lines_behind_says read text Fits words (Some parts) xs are e h =
    let n = bound (number_of (2 ^ 64 - 1) parts.0) _ xs h in
    let all = bound (each_of read (feed_split parts.1)) _ xs n.2 in
    let many = so_many_says n.0 all.0 xs all.2 in
    let says = number_of_says (2 ^ 64 - 1) parts.0 n.0 (omega arith) n.1 in
    let each = each_of_says read text Fits (feed_split parts.1) all.0 are all.1 in
    let is = lines_are text parts.1 all.0 each.1 in
    rw (← many.1) (
      record { each = each.0; few = omega (arith, says.1, many.0) },
      cut_at_says 10 words parts.0 parts.1 e ∙ ap (λ w. w ++ 10 ∷ parts.1) (says.0 ∙ ap (λ k. decimal k) many.0) ∙ ap (λ r. decimal (length all.0) ++ r) is,
    )

pub counted_of_says : {A : Type 0} (read : List ℕ → Option A) (text : A → List ℕ) (Fits : A → Type 0) (words : List ℕ) (xs : List A) → AreLines read text Fits
    → counted_of read words ≡ Some xs → AllFit Fits xs × (words ≡ decimal (length xs) ++ flat_map (λ x. 10 ∷ text x) xs)
counted_of_says read text Fits words xs are h = lines_behind_says read text Fits words (cut_at 10 words) xs are refl h

pub counted_of-lines : {A : Type 0} (read : List ℕ → Option A) (text : A → List ℕ) (Fits : A → Type 0) (xs : List A) → AreLines read text Fits → AllFit Fits xs
    → counted_of read (decimal (length xs) ++ flat_map (λ x. 10 ∷ text x) xs) ≡ Some xs
counted_of-lines read text Fits [] are h =
    let zero_text : decimal 0 ≡ 48 ∷ [] = decimal_digit 0 (omega arith) in
    let zero : number_of (2 ^ 64 - 1) (48 ∷ []) ≡ Some 0 = sym (ap (λ w. number_of (2 ^ 64 - 1) w) zero_text) ∙ number_of-decimal (2 ^ 64 - 1) 0 (omega arith) (omega arith) in
    ap (λ (d : List ℕ). counted_of read (d ++ [])) zero_text ∙ rw zero refl
counted_of-lines read text Fits (x ∷ xs) are h =
    let few = h.few in
    let n = length (x ∷ xs) in
    rw (
      cut_at-free 10 (decimal n) (text x ++ flat_map (λ y. 10 ∷ text y) xs) (decimal_free 10 n (omega arith) (omega arith)),
      number_of-decimal (2 ^ 64 - 1) n (omega arith) (omega arith),
      split_joined read text Fits x xs are h.each.0 h.each.1,
      each_of-map read text Fits (x ∷ xs) are h.each,
      eq-eqb n n refl,
    ) refl
