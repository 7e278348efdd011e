-- A row of the table is read just where it is written so, and a number and a key are.
use Rattle.std.proofs.Common.{◌≡◌, ℕ, ◌+◌, ◌-◌, ◌^◌, ◌<◌, ◌≤◌, List, [], ◌∷◌, ◌++◌, length, refl, ap, ◌∙◌, sym, subst, arith, Option, None, Some, Bool, true, false, cond, eqb, nat_le, ◌&&◌, leb-true, le-leb, codes}
use Rattle.std.specs.Option.{option_map}
use Rattle.std.specs.Fmt.{decimal}
use Rattle.std.proofs.lemmas.Option.{none-some, same_Some}
use Rattle.std.proofs.lemmas.Bool.Decides.{nat_tests}
use Rattle.std.proofs.lemmas.Fmt.{decimal_digit}
use Rattle.std.proofs.lemmas.Bool.{and_parts}
use Rattle.tuple_header.specs.declared.version.Row.{Row}
use Rattle.tuple_header.specs.declared.version.TheConstants.{MOST_BODY}
use Rattle.calls.specs.Words.{RowToWrite, row_of}
use Rattle.calls.specs.declared.step.Step.{Step}
use Rattle.calls.specs.declared.step.Step.TheVariants as step
use Rattle.script_text.specs.Grammar.{RowFits, Spells, spaced, row_text, row_words}
use Rattle.script_text.specs.Answers.{found_text, key_text, labelled}
use Rattle.script_text.specs.Reading.{◌>>=◌, number_of, row_words_of, line_at}
use Rattle.script_text.specs.declared.line.Line.{Line}
use Rattle.script_text.specs.declared.line.Line.TheVariants.{Do}
use Rattle.script_text.proofs.ByteLemmas.{Free, Free-append, free_text}
use Rattle.script_text.proofs.NumberLaws.{guarded, bound, mapped, number_of_says, number_of-decimal, decimal_free}
use Rattle.script_text.proofs.GrammarLaws.{line_at_says, line_at-spelling, with_verb, Free-spelling}
use Rattle.reply_text.specs.Replies.{TableRowFits, SpellsStep}
use Rattle.reply_text.specs.Reading.{table_row_of, behind, row_line_of, key_line_of}
use Rattle.reply_text.proofs.LineLaws.{AreLines, behind_says, behind-word}

zero_text : decimal 0 ≡ 48 ∷ []
zero_text = decimal_digit 0 (omega arith)

-- The step of a line.

-- a line that is no step spells no step
pub no_step : (text : List ℕ) (line : Line) → Spells text (Some line) → ((s : Step) → line ≡ Do s → ⊥) → SpellsStep text None
no_step text line says other = λ s fits is.
    other s (same_Some line (Do s) (sym (line_at-spelling line says.0) ∙ ap line_at (sym says.1 ∙ is) ∙ line_at-spelling (Do s) fits))

pub no_line : (text : List ℕ) → Spells text None → SpellsStep text None
no_line text none = λ s fits is. none (Do s) fits is

-- what two steps that a text spells are
same_step : (text : List ℕ) (a b : Step) → SpellsStep text (Some a) → SpellsStep text (Some b) → a ≡ b
same_step text a b f g = of_line (same_Some (Do a) (Do b) (sym (line_at-spelling (Do a) f.0) ∙ ap line_at (sym f.1 ∙ g.1) ∙ line_at-spelling (Do b) g.0))
  where
    of_line : Do a ≡ Do b → a ≡ b
    of_line e = cc

only : (text : List ℕ) (o : Option Step) (s : Step) → SpellsStep text o → SpellsStep text (Some s) → o ≡ Some s
only text None s f g = absurd (f s g.0 g.1)
only text (Some a) s f g = ap (λ (x : Step). Some x) (same_step text a s f g)

-- A number is the key of a get.

pub number_read : (w : List ℕ) (s n max : ℕ) → SpellsStep (codes "get 0 " ++ w) (Some (step.Get s n)) → s ≡ 0 → n ≤ max → max < 10 ^ 64 → Some n ≡ number_of max w
number_read w s n max says zero small fits =
    let text : codes "get 0 " ++ w ≡ codes "get 0 " ++ decimal n = says.1 ∙ ap (λ (d : List ℕ). codes "get" ++ spaced (d ++ spaced (decimal n))) (ap (λ k. decimal k) zero ∙ zero_text) in
    let is : w ≡ decimal n = behind_six text in
    sym (ap (λ x. number_of max x) is ∙ number_of-decimal max n small fits)
  where
    behind_six : codes "get 0 " ++ w ≡ codes "get 0 " ++ decimal n → w ≡ decimal n
    behind_six e = cc

pub session_of_get : (a b m n : ℕ) → step.Get a m ≡ step.Get b n → a ≡ b
session_of_get a b m n e = cc

pub key_of_get : (a b m n : ℕ) → step.Get a m ≡ step.Get b n → m ≡ n
key_of_get a b m n e = cc

pub session_of_insert : (a b : ℕ) (r q : RowToWrite) → step.Insert a r ≡ step.Insert b q → a ≡ b
session_of_insert a b r q e = cc

number_spelled : (w : List ℕ) (max n : ℕ) → max < 2 ^ 64 → number_of max w ≡ Some n → SpellsStep (codes "get 0 " ++ w) (Some (step.Get 0 n)) × (n ≤ max)
number_spelled w max n small h =
    let says = number_of_says max w n (omega arith) h in
    (((omega arith, omega (arith, says.1)), ap (λ x. codes "get 0 " ++ x) says.0 ∙ sym (ap (λ (d : List ℕ). codes "get" ++ spaced (d ++ spaced (decimal n))) zero_text)), says.1)

pub no_number : (w : List ℕ) (o : Option Step) (max : ℕ) → max < 2 ^ 64 → SpellsStep (codes "get 0 " ++ w) o → ((n : ℕ) → o ≡ Some (step.Get 0 n) → n ≤ max → ⊥) → None ≡ number_of max w
no_number w o max small says other = by (number_of max w) refl
  where
    by : (a : Option ℕ) → number_of max w ≡ a → None ≡ a
    by None e = refl
    by (Some n) e = let spelled = number_spelled w max n small e in absurd (other n (only (codes "get 0 " ++ w) o (step.Get 0 n) says spelled.0) spelled.1)

-- A row is that of an insert.

inserted : (xs : List ℕ) → line_at (codes "insert 0 " ++ xs) ≡ option_map (λ p. Do (step.Insert p.0 p.1)) (row_words_of (codes "0 " ++ xs))
inserted xs = with_verb (codes "insert") (codes "0 " ++ xs) _ (free_text 32 (codes "insert") refl) refl refl

row_spelled : (xs : List ℕ) (p : ℕ × RowToWrite) → row_words_of (codes "0 " ++ xs) ≡ Some p → SpellsStep (codes "insert 0 " ++ xs) (Some (step.Insert p.0 p.1))
row_spelled xs p h = line_at_says (codes "insert 0 " ++ xs) (Do (step.Insert p.0 p.1)) (inserted xs ∙ ap (λ (o : Option (ℕ × RowToWrite)). option_map (λ p. Do (step.Insert p.0 p.1)) o) h)

insert_pair : (a b : ℕ) (r q : RowToWrite) → Do (step.Insert a r) ≡ Do (step.Insert b q) → ◌≡◌ {A = ℕ × RowToWrite} (a, r) (b, q)
insert_pair a b r q e = cc

row_words_read : (xs : List ℕ) (s : ℕ) (row : RowToWrite) → SpellsStep (codes "insert 0 " ++ xs) (Some (step.Insert s row)) → row_words_of (codes "0 " ++ xs) ≡ Some (s, row)
row_words_read xs s row says =
    let m = mapped (row_words_of (codes "0 " ++ xs)) (λ p. Do (step.Insert p.0 p.1)) (Do (step.Insert s row)) (sym (inserted xs) ∙ ap line_at says.1 ∙ line_at-spelling (Do (step.Insert s row)) says.0) in
    m.1 ∙ ap (λ (p : ℕ × RowToWrite). Some p) (insert_pair m.0.0 s m.0.1 row m.2)

-- the row of an insert by session 0, if it is short
pub row_read : (xs : List ℕ) (s : ℕ) (row : RowToWrite) (o : Option Row) → SpellsStep (codes "insert 0 " ++ xs) (Some (step.Insert s row)) → s ≡ 0
    → o ≡ cond (nat_le (length row.body) MOST_BODY) (Some (row_of row)) None → o ≡ table_row_of xs
unfolding table_row_of
row_read xs s row o says zero is = rw (row_words_read xs s row says, zero) is

pub no_row : (xs : List ℕ) (o : Option Step) → SpellsStep (codes "insert 0 " ++ xs) o → ((row : RowToWrite) → o ≡ Some (step.Insert 0 row) → ⊥) → None ≡ table_row_of xs
unfolding table_row_of
no_row xs o says other = by (row_words_of (codes "0 " ++ xs)) refl
  where
    tested : (s : ℕ) (row : RowToWrite) (t : Bool) → row_words_of (codes "0 " ++ xs) ≡ Some (s, row) → (eqb s 0 && nat_le (length row.body) MOST_BODY) ≡ t → None ≡ cond {A = Option Row} t (Some (row_of row)) None
    tested s row false e is = refl
    tested s row true e is =
        let test = (and_parts (eqb s 0) (nat_le (length row.body) MOST_BODY) is).0 in
        let zero : s ≡ 0 = grind (arith, nat_tests) in
        absurd (other row (only (codes "insert 0 " ++ xs) o (step.Insert s row) says (row_spelled xs (s, row) e) ∙ ap (λ k. Some (step.Insert k row)) zero))

    by : (a : Option (ℕ × RowToWrite)) → row_words_of (codes "0 " ++ xs) ≡ a → None ≡ ◌>>=◌ {B = Row} a (λ p. cond (eqb p.0 0 && nat_le (length p.1.body) MOST_BODY) (Some (row_of p.1)) None)
    by None e = refl
    by (Some p) e = tested p.0 p.1 _ e refl

pub table_row_of_says : (xs : List ℕ) (row : Row) → table_row_of xs ≡ Some row → TableRowFits row × (xs ≡ row_text row.key row.cols row.body.items)
unfolding table_row_of
table_row_of_says xs row h =
    let p = bound (row_words_of (codes "0 " ++ xs)) _ row h in
    let g = guarded (eqb p.0.0 0 && nat_le (length p.0.1.body) MOST_BODY) _ row p.2 in
    let t = and_parts (eqb p.0.0 0) (nat_le (length p.0.1.body) MOST_BODY) g.0 in
    let test = t.0 in
    let zero : p.0.0 ≡ 0 = grind (arith, nat_tests) in
    let says = row_spelled xs p.0 p.1 in
    let text : codes "insert 0 " ++ xs ≡ codes "insert 0 " ++ row_text p.0.1.key p.0.1.cols p.0.1.body = says.1 ∙ ap (λ (d : List ℕ). codes "insert" ++ spaced (d ++ spaced (row_text p.0.1.key p.0.1.cols p.0.1.body))) (ap (λ k. decimal k) zero ∙ zero_text) in
    rw (← same_Some _ row g.1) (
      record { key = says.0.1; columns = says.0.2; signed = says.0.3; bytes = says.0.4; short = leb-true (length p.0.1.body) MOST_BODY t.1 },
      behind_nine xs (row_text p.0.1.key p.0.1.cols p.0.1.body) text,
    )
  where
    behind_nine : (xs ys : List ℕ) → codes "insert 0 " ++ xs ≡ codes "insert 0 " ++ ys → xs ≡ ys
    behind_nine xs ys e = cc

-- the row, as it is written
abbrev written : Row → RowToWrite
written row = record { key = row.key; cols = row.cols; body = row.body.items }

insert_fits : (row : Row) → TableRowFits row → RowFits 0 (written row)
insert_fits row h = (omega arith, h.key, h.columns, h.signed, h.bytes)

pub table_row_of-text : (row : Row) → TableRowFits row → table_row_of (row_text row.key row.cols row.body.items) ≡ Some row
unfolding table_row_of
table_row_of-text row h =
    rw (row_words_read (row_text row.key row.cols row.body.items) 0 (written row) (insert_fits row h, sym (ap (λ (d : List ℕ). codes "insert" ++ spaced (d ++ spaced (row_text row.key row.cols row.body.items))) zero_text)), le-leb (length row.body.items) MOST_BODY h.short) refl

row_line_of_says : (line : List ℕ) (row : Row) → row_line_of line ≡ Some row → TableRowFits row × (line ≡ found_text row)
row_line_of_says line row h =
    let rest = bound (behind (codes "row") line) _ row h in
    let says = table_row_of_says rest.0 row rest.2 in
    (says.0, behind_says (codes "row") line rest.0 rest.1 ∙ ap (λ r. codes "row" ++ 32 ∷ r) says.1)

row_line_of-text : (row : Row) → TableRowFits row → row_line_of (found_text row) ≡ Some row
row_line_of-text row h =
    rw (behind-word (codes "row") (row_text row.key row.cols row.body.items) (free_text 32 (codes "row") refl) refl) (table_row_of-text row h)

row_free : (row : Row) → TableRowFits row → Free 10 (row_text row.key row.cols row.body.items)
row_free row h =
    let free = subst (λ (d : List ℕ). Free 10 (codes "insert" ++ spaced (d ++ spaced (row_text row.key row.cols row.body.items)))) zero_text (Free-spelling (Do (step.Insert 0 (written row))) (insert_fits row h)) in
    free.1.1.1.1.1.1.1.1.1

found_free : (row : Row) → TableRowFits row → Free 10 (found_text row)
found_free row h =
    Free-append 10 (codes "row") (spaced (row_text row.key row.cols row.body.items)) (free_text 10 (codes "row") refl) (refl, row_free row h)

-- the lines of rows
pub rows_are_lines : AreLines row_line_of (λ row. found_text row) (λ row. TableRowFits row)
rows_are_lines = record { says = row_line_of_says; reads = row_line_of-text; free = found_free }

key_line_of_says : (line : List ℕ) (key : ℕ) → key_line_of line ≡ Some key → (key < 2 ^ 64) × (line ≡ key_text key)
unfolding labelled
key_line_of_says line key h =
    let rest = bound (behind (codes "key") line) _ key h in
    let says = number_of_says (2 ^ 64 - 1) rest.0 key (omega arith) rest.2 in
    (omega (arith, says.1), behind_says (codes "key") line rest.0 rest.1 ∙ ap (λ r. codes "key" ++ 32 ∷ r) says.0)

key_line_of-text : (key : ℕ) → key < 2 ^ 64 → key_line_of (key_text key) ≡ Some key
unfolding labelled
key_line_of-text key h =
    rw (behind-word (codes "key") (decimal key) (free_text 32 (codes "key") refl) refl) (number_of-decimal (2 ^ 64 - 1) key (omega arith) (omega arith))

key_free : (key : ℕ) → key < 2 ^ 64 → Free 10 (key_text key)
unfolding labelled
key_free key h = Free-append 10 (codes "key") (spaced (decimal key)) (free_text 10 (codes "key") refl) (refl, decimal_free 10 key (omega arith) (omega arith))

-- the lines of keys
pub keys_are_lines : AreLines key_line_of (λ key. key_text key) (λ key. key < 2 ^ 64)
keys_are_lines = record { says = key_line_of_says; reads = key_line_of-text; free = key_free }
