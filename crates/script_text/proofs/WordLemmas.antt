-- The words of a text, and what they spell.
use Rattle.std.proofs.Common.{◌≡◌, ℕ, ◌+◌, ◌≤◌, suc, List, [], ◌∷◌, ◌++◌, length, take, drop, refl, ap, ◌∙◌, sym, arith, Option, None, Some, ◌-◌, ◌^◌, Bool, true, false, eqb, position}
use Rattle.std.specs.List.{flat_map, join_with_byte}
use Rattle.std.proofs.lemmas.List.{append-nil}
use Rattle.std.proofs.lemmas.List.Splits.{slice_split_first, join_with_byte-slice_split}
use Rattle.std.proofs.lemmas.Option.{none-some}
use Rattle.std.specs.Option.{option_map}
use Rattle.prune_actions.specs.declared.Action.{Action}
use Rattle.calls.specs.Words.{PlanToApply}
use Rattle.script_text.specs.Grammar.{spaced}
use Rattle.script_text.specs.Reading.{◌>>=◌, cut, words_of, number_of, actions_of, plan_of}
use Rattle.script_text.proofs.ByteLemmas.{Free, place, position_found, position_none}
use Rattle.script_text.proofs.NumberLaws.{mapped}

-- a text without a space is one word
pub words_of-free : (w : List ℕ) → Free 32 w → words_of w ≡ w ∷ []
words_of-free [] h = refl
words_of-free (b ∷ bs) h = rw (h.0, words_of-free bs h.1) refl

-- a word, and those behind it
pub words_of-cons : (w rest : List ℕ) → Free 32 w → words_of (w ++ 32 ∷ rest) ≡ w ∷ words_of rest
words_of-cons [] rest h = refl
words_of-cons (b ∷ bs) rest h = rw (h.0, words_of-cons bs rest h.1) refl

-- the word that is cut off is the first of the words
pub words_of-cut : (xs w rest : List ℕ) → cut xs ≡ Some (w, rest) → words_of xs ≡ w ∷ words_of rest
words_of-cut xs w rest h =
    let m = mapped _ _ _ h in
    let f = position_found 32 xs m.0 m.1 in
    let first = rw f.1 at (slice_split_first (λ b. eqb b 32) xs 0 (rw f.1 f.0)) in
    first ∙ ap (λ (p : List ℕ × List ℕ). p.0 ∷ words_of p.1) m.2

lacks_step : (b : ℕ) (bs : List ℕ) (t : Bool) → eqb b 32 ≡ t → (length bs ≤ place 32 bs → Free 32 bs) → suc (length bs) ≤ place 32 (b ∷ bs) → Free 32 (b ∷ bs)
lacks_step b bs true e ih h = let h' = rw e at h in absurd (omega arith)
lacks_step b bs false e ih h = let h' = rw e at h in (e, ih (omega arith))

past_free : (xs : List ℕ) → length xs ≤ place 32 xs → Free 32 xs
past_free [] h = tt
past_free (b ∷ bs) h = lacks_step b bs (eqb b 32) refl (past_free bs) h

none_mapped : (o : _) (xs : List ℕ) → o ≡ position (λ b. eqb b 32) xs → cut xs ≡ None → o ≡ None
none_mapped None xs e h = refl
none_mapped (Some i) xs e h = absurd (none-some (take i xs, drop (i + 1) xs) (let h' = rw (← e) at h in sym h'))

-- where none can be cut off, there is one word
pub words_of-uncut : (xs : List ℕ) → cut xs ≡ None → words_of xs ≡ xs ∷ []
words_of-uncut xs h = words_of-free xs (past_free xs (position_none 32 xs (none_mapped _ xs refl h)))

joined : (word : List ℕ) (words : List (List ℕ)) → join_with_byte 32 (word ∷ words) ≡ word ++ flat_map spaced words
joined word [] = sym (append-nil word)
joined word (next ∷ words) = ap (λ r. word ++ 32 ∷ r) (joined next words)

-- words give back the text that they are the words of
pub words_of_says : (xs word : List ℕ) (words : List (List ℕ)) → words_of xs ≡ word ∷ words → xs ≡ word ++ flat_map spaced words
words_of_says xs word words h = sym (join_with_byte-slice_split 32 xs) ∙ ap (join_with_byte 32) h ∙ joined word words

-- A plan, by its first word and the words behind it.

pub plan_of-alone : (text : List ℕ) → cut text ≡ None → plan_of (words_of text) ≡ option_map (λ n. record { change = n; actions = [] }) (number_of (2 ^ 64 - 1) text)
unfolding plan_of actions_of
plan_of-alone text h = ap plan_of (words_of-uncut text h) ∙ by (number_of (2 ^ 64 - 1) text)
  where
    by : (o : Option ℕ) → ◌>>=◌ {B = PlanToApply} o (λ n. Some (record { change = n; actions = [] })) ≡ option_map (λ n. record { change = n; actions = [] }) o
    by None = refl
    by (Some n) = refl

no_actions : (o : Option ℕ) (actions : Option (List (ℕ × Action))) → actions ≡ None
    → ◌>>=◌ {B = PlanToApply} o (λ n. ◌>>=◌ {B = PlanToApply} actions (λ more. Some (record { change = n; actions = more }))) ≡ None
no_actions None actions e = refl
no_actions (Some n) actions e = rw e refl

pub plan_of-unread : (text word rest : List ℕ) → cut text ≡ Some (word, rest) → number_of (2 ^ 64 - 1) word ≡ None → plan_of (words_of text) ≡ None
unfolding plan_of
plan_of-unread text word rest h e = rw (words_of-cut text word rest h, e) refl

pub plan_of-undone : (text word rest : List ℕ) → cut text ≡ Some (word, rest) → actions_of (words_of rest) ≡ None → plan_of (words_of text) ≡ None
unfolding plan_of
plan_of-undone text word rest h e = ap plan_of (words_of-cut text word rest h) ∙ no_actions (number_of (2 ^ 64 - 1) word) (actions_of (words_of rest)) e

pub plan_of-read : (text word rest : List ℕ) (change : ℕ) (actions : List (ℕ × Action)) → cut text ≡ Some (word, rest) → number_of (2 ^ 64 - 1) word ≡ Some change
    → actions_of (words_of rest) ≡ Some actions → plan_of (words_of text) ≡ Some (record { change = change; actions = actions })
unfolding plan_of
plan_of-read text word rest change actions h n a = rw (words_of-cut text word rest h, n, a) refl
