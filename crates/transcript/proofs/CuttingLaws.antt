-- A transcript is cut just where an exchange is spelled.
use Rattle.std.proofs.Common.{◌≡◌, ℕ, ◌+◌, ◌<◌, ◌≤◌, suc, List, [], ◌∷◌, ◌++◌, length, take, drop, get_or, refl, ap, append_assoc, length-append, ◌∙◌, sym, subst, arith, Option, None, Some, Bool, true, false, cond, eqb, eq-eqb, nat_lt, ◌&&◌, ◌||◌, inl, inr, codes, position, drop-cons, add-one}
use Rattle.std.specs.Option.{option_map}
use Rattle.std.proofs.lemmas.Option.{none-some, same_Some}
use Rattle.std.proofs.lemmas.Bool.Decides.{nat_tests}
use Rattle.std.proofs.lemmas.Bool.{cases_lt, and_parts}
use Rattle.std.proofs.lemmas.List.{append-nil, drop_all, length-take-le, take_more}
use Rattle.script_text.specs.Grammar.{with_feed}
use Rattle.script_text.specs.Reading.{cut_at}
use Rattle.script_text.proofs.ByteLemmas.{Free, place, place-append_found, position_found, position_none}
use Rattle.script_text.proofs.NumberLaws.{guarded, mapped, cut_at_says, cut_at-free}
use Rattle.script_text.proofs.PlanLaws.{chosen}
use Rattle.transcript.specs.Transcripts.{is_prompted, is_next_or_end, IsOneAnswer}
use Rattle.transcript.specs.Cutting.{question_in, answer_in}

-- A line has no feed in it.

past_position : (w : List ℕ) → length w ≤ place 10 w → position (λ b. eqb b 10) w ≡ None
past_position w h = let past : nat_lt (place 10 w) (length w) ≡ false = grind (arith, nat_tests) in rw past refl

free_step : (b : ℕ) (bs : List ℕ) (t : Bool) → eqb b 10 ≡ t → (length bs ≤ place 10 bs → Free 10 bs) → suc (length bs) ≤ place 10 (b ∷ bs) → Free 10 (b ∷ bs)
free_step b bs true e ih h = let h' = rw e at h in absurd (omega arith)
free_step b bs false e ih h = let h' = rw e at h in (e, ih (omega arith))

past_free : (xs : List ℕ) → length xs ≤ place 10 xs → Free 10 xs
past_free [] h = tt
past_free (b ∷ bs) h = free_step b bs (eqb b 10) refl (past_free bs) h

line_free : (w : List ℕ) → position (λ b. eqb b 10) w ≡ None → Free 10 w
line_free w h = past_free w (position_none 10 w h)

cut_place : (xs w rest : List ℕ) → cut_at 10 xs ≡ Some (w, rest) → place 10 xs ≡ length w
cut_place xs w rest h =
    let m = mapped _ _ _ h in
    let f = position_found 10 xs m.0 m.1 in
    let is : take m.0 xs ≡ w = ap (λ (p : List ℕ × List ℕ). p.0) m.2 in
    let size : length (take m.0 xs) ≡ m.0 = length-take-le m.0 xs (omega (arith, f.0)) in
    f.1 ∙ sym size ∙ ap (λ (ys : List ℕ). length ys) is

cut_is_line : (xs w rest : List ℕ) → cut_at 10 xs ≡ Some (w, rest) → position (λ b. eqb b 10) w ≡ None
cut_is_line xs w rest h =
    let at = cut_place xs w rest h in
    let is = cut_at_says 10 xs w rest h in
    elim (cases_lt (place 10 w) (length w)) [
      | inl l ↦ let early = place-append_found 10 w (10 ∷ rest) l in let same : place 10 xs ≡ place 10 w = ap (λ (ys : List ℕ). place 10 ys) is ∙ early in absurd (omega arith)
      | inr g ↦ past_position w g
    ]

-- The prompt, and the line behind it.

is_62 : (a : ℕ) → eqb a 62 ≡ true → a ≡ 62
is_62 a h = grind (arith, nat_tests)

is_32 : (a : ℕ) → eqb a 32 ≡ true → a ≡ 32
is_32 a h = grind (arith, nat_tests)

two_are : (a b : ℕ) (rest : List ℕ) → a ≡ 62 → b ≡ 32 → a ∷ b ∷ rest ≡ 62 ∷ 32 ∷ rest
two_are a b rest e f = cc

pub prompted_is : (text : List ℕ) → is_prompted text ≡ true → text ≡ 62 ∷ 32 ∷ drop 2 text
prompted_is [] h = absurd (let e = h in cc e)
prompted_is (a ∷ []) h = let t = and_parts (eqb a 62) (eqb 0 32) h in absurd (let e = t.1 in cc e)
prompted_is (a ∷ b ∷ rest) h = let t = and_parts (eqb a 62) (eqb b 32) h in two_are a b rest (is_62 a t.0) (is_32 b t.1)

pub feed_behind : (asked more : List ℕ) → with_feed asked ++ more ≡ asked ++ 10 ∷ more
feed_behind asked more = append_assoc asked (10 ∷ []) more

pub question_says : (text asked left : List ℕ) → question_in text ≡ Some (asked, left) → (text ≡ codes "> " ++ (with_feed asked ++ left)) × (position (λ b. eqb b 10) asked ≡ None)
question_says text asked left h =
    let g = guarded (is_prompted text) (cut_at 10 (drop 2 text)) (asked, left) h in
    let is = cut_at_says 10 (drop 2 text) asked left g.1 in
    (prompted_is text g.0 ∙ ap (λ r. 62 ∷ 32 ∷ r) (is ∙ sym (feed_behind asked left)), cut_is_line (drop 2 text) asked left g.1)

pub question_in-text : (asked more : List ℕ) → position (λ b. eqb b 10) asked ≡ None → question_in (codes "> " ++ (with_feed asked ++ more)) ≡ Some (asked, more)
question_in-text asked more line = ap (cut_at 10) (feed_behind asked more) ∙ cut_at-free 10 asked more (line_free asked line)

-- The answer, up to the next prompt or the end.

prompted-append : (text more : List ℕ) → is_prompted text ≡ true → is_prompted (text ++ more) ≡ true
prompted-append [] more h = absurd (let e = h in cc e)
prompted-append (a ∷ []) more h = let t = and_parts (eqb a 62) (eqb 0 32) h in absurd (let e = t.1 in cc e)
prompted-append (a ∷ b ∷ rest) more h = h

or_second : (a b : Bool) → b ≡ true → (a || b) ≡ true
or_second true b h = refl
or_second false b h = h

and_false : (a b : Bool) → a ≡ true → b ≡ true → (a && b) ≡ false → ⊥
and_false a b e f h = let h' = rw (e, f) at h in cc h'

empty_one : (front back : List ℕ) → [] ≡ front ++ 10 ∷ back → ⊥
empty_one [] back e = cc e
empty_one (f ∷ fs) back e = cc e

head_is : (a b : ℕ) (xs ys : List ℕ) → a ∷ xs ≡ b ∷ ys → a ≡ b
head_is a b xs ys e = cc

tail_is : (a b : ℕ) (xs ys : List ℕ) → a ∷ xs ≡ b ∷ ys → xs ≡ ys
tail_is a b xs ys e = cc

longer_one : (b : ℕ) (bs : List ℕ) → IsOneAnswer bs → (b ≡ 10 → is_prompted bs ≡ true → ⊥) → IsOneAnswer (b ∷ bs)
longer_one b bs one first = λ front back e p. by front back e p
  where
    by : (front back : List ℕ) → b ∷ bs ≡ front ++ 10 ∷ back → is_prompted back ≡ true → ⊥
    by [] back e p = first (head_is b 10 bs back e) (subst (λ (ys : List ℕ). is_prompted ys ≡ true) (sym (tail_is b 10 bs back e)) p)
    by (f ∷ fs) back e p = one fs back (tail_is b f bs (fs ++ 10 ∷ back) e) p

pub answer_says : (text answer rest : List ℕ) → answer_in text ≡ Some (answer, rest) → (text ≡ with_feed answer ++ rest) × (is_next_or_end rest ≡ true) × IsOneAnswer answer
unfolding answer_in
answer_says [] answer rest h = absurd (none-some (answer, rest) h)
answer_says (b ∷ bs) answer rest h = elim (chosen (eqb b 10 && is_next_or_end bs) (Some ([], bs)) (option_map (λ (p : List ℕ × List ℕ). (b ∷ p.0, p.1)) (answer_in bs)) (Some (answer, rest)) h) [
  | inl a ↦
      let t = and_parts (eqb b 10) (is_next_or_end bs) a.0 in
      let feed : b ≡ 10 = let e = t.0 in grind (arith, nat_tests) in
      subst (λ (p : List ℕ × List ℕ). (b ∷ bs ≡ with_feed p.0 ++ p.1) × (is_next_or_end p.1 ≡ true) × IsOneAnswer p.0) (same_Some ([], bs) (answer, rest) a.1) (ap (λ x. x ∷ bs) feed, t.1, empty_one')
  | inr a ↦
      let m = mapped (answer_in bs) (λ (p : List ℕ × List ℕ). (b ∷ p.0, p.1)) (answer, rest) a.1 in
      let more = answer_says bs m.0.0 m.0.1 m.1 in
      let ends : is_prompted m.0.0 ≡ true → is_next_or_end bs ≡ true = λ p. or_second _ (is_prompted bs) (subst (λ (xs : List ℕ). is_prompted xs ≡ true) (sym (more.0 ∙ feed_behind m.0.0 m.0.1)) (prompted-append m.0.0 (10 ∷ m.0.1) p)) in
      let one = longer_one b m.0.0 more.2 (λ feed p. and_false (eqb b 10) (is_next_or_end bs) (eq-eqb b 10 feed) (ends p) a.0) in
      subst (λ (p : List ℕ × List ℕ). (b ∷ bs ≡ with_feed p.0 ++ p.1) × (is_next_or_end p.1 ≡ true) × IsOneAnswer p.0) m.2 (ap (λ r. b ∷ r) more.0, more.1, one)
]
  where
    empty_one' : IsOneAnswer []
    empty_one' front back e p = empty_one front back e

or_first : (n : ℕ) (b : Bool) → 0 < n → (eqb n 0 || b) ≡ true → b ≡ true
or_first n b h e = let none : eqb n 0 ≡ false = grind (arith, nat_tests) in rw none at e

-- only what stands before the feed can be a prompt
prompted_before : (bs rest : List ℕ) → is_prompted (bs ++ 10 ∷ rest) ≡ true → is_prompted bs ≡ true
prompted_before [] rest h = absurd (let e = h in cc e)
prompted_before (a ∷ []) rest h = let t = and_parts (eqb a 62) (eqb 10 32) h in absurd (let e = t.1 in cc e)
prompted_before (a ∷ b ∷ bs) rest h = h

goes_past : (b : ℕ) (bs rest : List ℕ) (t : Bool) → (eqb b 10 && is_next_or_end (with_feed bs ++ rest)) ≡ t → IsOneAnswer (b ∷ bs) → t ≡ false
goes_past b bs rest false e one = refl
goes_past b bs rest true e one =
    let t = and_parts (eqb b 10) (is_next_or_end (with_feed bs ++ rest)) e in
    let feed : b ≡ 10 = let e = t.0 in grind (arith, nat_tests) in
    let ends : is_next_or_end (bs ++ 10 ∷ rest) ≡ true = rw (feed_behind bs rest) at t.1 in
    let some : 0 < length (bs ++ 10 ∷ rest) = rw (length-append bs (10 ∷ rest)) (omega arith) in
    absurd (one [] bs (ap (λ x. x ∷ bs) feed) (prompted_before bs rest (or_first (length (bs ++ 10 ∷ rest)) (is_prompted (bs ++ 10 ∷ rest)) some ends)))

pub answer_in-text : (answer rest : List ℕ) → IsOneAnswer answer → is_next_or_end rest ≡ true → answer_in (with_feed answer ++ rest) ≡ Some (answer, rest)
unfolding answer_in
answer_in-text [] rest one ends = rw ends refl
answer_in-text (b ∷ bs) rest one ends =
    let past = goes_past b bs rest _ refl one in
    rw (past, answer_in-text bs rest (λ front back e p. one (b ∷ front) back (ap (λ r. b ∷ r) e) p) ends) refl

-- The byte at i is looked at next.

answer_in-drop : (w : List ℕ) (i : ℕ) → i < length w
    → answer_in (drop i w) ≡ cond (eqb (get_or w i 0) 10 && is_next_or_end (drop (i + 1) w)) (Some ([], drop (i + 1) w)) (option_map (λ (p : List ℕ × List ℕ). (get_or w i 0 ∷ p.0, p.1)) (answer_in (drop (i + 1) w)))
unfolding answer_in
answer_in-drop w i h = rw (add-one, drop-cons w i 0, answer_in) refl

-- what was passed stands before what is found
abbrev pub passed_before : List ℕ → Option (List ℕ × List ℕ) → Option (List ℕ × List ℕ)
passed_before front o = option_map (λ (p : List ℕ × List ℕ). (front ++ p.0, p.1)) o

passed-push : (front : List ℕ) (b : ℕ) (o : Option (List ℕ × List ℕ)) → passed_before front (option_map (λ (p : List ℕ × List ℕ). (b ∷ p.0, p.1)) o) ≡ passed_before (front ++ b ∷ []) o
passed-push front b None = refl
passed-push front b (Some p) = ap (λ (xs : List ℕ). Some (xs, p.1)) (sym (append_assoc front (b ∷ []) p.0))

pub found_at : (w : List ℕ) (i : ℕ) → i < length w → answer_in w ≡ passed_before (take i w) (answer_in (drop i w)) → (eqb (get_or w i 0) 10 && is_next_or_end (drop (i + 1) w)) ≡ true
    → Some (take i w, drop (i + 1) w) ≡ answer_in w
found_at w i h so ends =
    let now : answer_in (drop i w) ≡ Some ([], drop (i + 1) w) = answer_in-drop w i h ∙ rw ends refl in
    ap (λ (xs : List ℕ). Some (xs, drop (i + 1) w)) (sym (append-nil (take i w))) ∙ ap (passed_before (take i w)) (sym now) ∙ sym so

pub passed_at : (w : List ℕ) (i : ℕ) → i < length w → answer_in w ≡ passed_before (take i w) (answer_in (drop i w)) → (eqb (get_or w i 0) 10 && is_next_or_end (drop (i + 1) w)) ≡ false
    → answer_in w ≡ passed_before (take (i + 1) w) (answer_in (drop (i + 1) w))
passed_at w i h so past =
    let now = answer_in-drop w i h ∙ rw past refl in
    let more : take (i + 1) w ≡ take i w ++ get_or w i 0 ∷ [] = take_more w i 0 h in
    so ∙ ap (passed_before (take i w)) now ∙ passed-push (take i w) (get_or w i 0) (answer_in (drop (i + 1) w)) ∙ ap (λ (xs : List ℕ). passed_before xs (answer_in (drop (i + 1) w))) (sym more)

pub passed_all : (w : List ℕ) (i : ℕ) → length w ≤ i → answer_in w ≡ passed_before (take i w) (answer_in (drop i w)) → None ≡ answer_in w
unfolding answer_in
passed_all w i h so = let none : drop i w ≡ [] = drop_all i w h in sym (so ∙ ap (λ (xs : List ℕ). passed_before (take i w) (answer_in xs)) none)

pub passed_none : (w : List ℕ) → answer_in w ≡ passed_before (take 0 w) (answer_in (drop 0 w))
passed_none w = by (answer_in w)
  where
    by : (o : Option (List ℕ × List ℕ)) → o ≡ passed_before [] o
    by None = refl
    by (Some p) = refl
