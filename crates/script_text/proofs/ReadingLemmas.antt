-- Steps of the reader's loops.
use Rattle.std.proofs.Common.{◌≡◌, ℕ, ◌+◌, ◌-◌, ◌*◌, ◌%◌, ◌<◌, ◌≤◌, suc, zero, List, [], ◌∷◌, ◌++◌, length, get_or, drop, refl, ap, arith, drop-cons, add-one, ◌∙◌, sym, ◌&&◌, nat_le, if◌then◌else◌, None, Some, Option, append_assoc}
use Rattle.std.proofs.lemmas.List.{drop_all, append-nil}
use Rattle.std.specs.Option.{option_map}
use Rattle.std.proofs.lemmas.Option.{same_Some}
use Rattle.prune_actions.specs.declared.Action.{Action}
use Rattle.script_text.proofs.NumberLaws.{bound}
use Rattle.std.specs.Char.{is_ascii_digit}
use Rattle.script_text.specs.Reading.{◌>>=◌, digits_on, pairs_of, nibble_of, pair_and, action_of, actions_of}

-- the digit at i is read next
pub digits_on-drop : (max n : ℕ) (w : List ℕ) (i : ℕ) → i < length w
    → digits_on max n (drop i w) ≡ (if is_ascii_digit (get_or w i 0) && nat_le (10 * n + (get_or w i 0 - 48)) max then digits_on max (10 * n + (get_or w i 0 - 48)) (drop (i + 1) w) else None)
unfolding digits_on
digits_on-drop max n w i h = rw (add-one, drop-cons w i 0, digits_on) refl

pub ruleset read_lemmas = (digits_on-drop)

none_pair : (a b : Option ℕ) → pair_and a b None ≡ None
none_pair None b = refl
none_pair (Some a) None = refl
none_pair (Some a) (Some b) = refl

-- an odd number of digits spells no bytes
pub pairs_of-odd : (w : List ℕ) → length w % 2 ≡ 1 → pairs_of w ≡ None
unfolding pairs_of
pairs_of-odd [] h = absurd (omega arith)
pairs_of-odd (a ∷ []) h = refl
pairs_of-odd (a ∷ b ∷ w) h = let e : pairs_of w ≡ None = pairs_of-odd w (omega arith) in rw e (none_pair (nibble_of a) (nibble_of b))

two_more : (w : List ℕ) (j k : ℕ) → j + 1 < length w → k ≡ j + 2 → drop j w ≡ get_or w j 0 ∷ get_or w (j + 1) 0 ∷ drop k w
two_more w j k h e =
    let first : drop j w ≡ get_or w j 0 ∷ drop (suc j) w = drop-cons w j 0 (omega arith) in
    let second : drop (suc j) w ≡ get_or w (suc j) 0 ∷ drop (suc (suc j)) w = drop-cons w (suc j) 0 (omega arith) in
    let next : j + 1 ≡ suc j = omega arith in
    let past : k ≡ suc (suc j) = omega arith in
    rw (next, past) (first ∙ ap (λ r. get_or w j 0 ∷ r) second)

-- the two digits at 2 * i are read next
pub pairs_of-drop : (w : List ℕ) (i : ℕ) → 2 * i + 1 < length w
    → pairs_of (drop (2 * i) w) ≡ pair_and (nibble_of (get_or w (2 * i) 0)) (nibble_of (get_or w (2 * i + 1) 0)) (pairs_of (drop (2 * (i + 1)) w))
unfolding pairs_of
pairs_of-drop w i h =
    let e : drop (2 * i) w ≡ get_or w (2 * i) 0 ∷ get_or w (2 * i + 1) 0 ∷ drop (2 * (i + 1)) w = two_more w (2 * i) (2 * (i + 1)) h (omega arith) in
    ap pairs_of e

after_pushed : (bytes : List ℕ) (v : ℕ) (rest : Option (List ℕ))
    → option_map (λ r. bytes ++ r) (option_map (λ bs. v ∷ bs) rest) ≡ option_map (λ r. (bytes ++ v ∷ []) ++ r) rest
after_pushed bytes v None = refl
after_pushed bytes v (Some r) = ap (λ x. Some x) (sym (append_assoc bytes (v ∷ []) r))

-- a byte that is read goes onto those read before it
pub pairs_step : (w bytes : List ℕ) (i a b : ℕ) → 2 * i + 1 < length w
    → nibble_of (get_or w (2 * i) 0) ≡ Some a → nibble_of (get_or w (2 * i + 1) 0) ≡ Some b
    → option_map (λ r. bytes ++ r) (pairs_of (drop (2 * i) w)) ≡ option_map (λ r. (bytes ++ (16 * a + b) ∷ []) ++ r) (pairs_of (drop (2 * (i + 1)) w))
pairs_step w bytes i a b h high low = rw (pairs_of-drop w i h, high, low) (after_pushed bytes (16 * a + b) (pairs_of (drop (2 * (i + 1)) w)))

pub pairs_end : (w bytes : List ℕ) (i : ℕ) → length w ≤ 2 * i → option_map (λ r. bytes ++ r) (pairs_of (drop (2 * i) w)) ≡ pairs_of w → Some bytes ≡ pairs_of w
unfolding pairs_of
pairs_end w bytes i h e =
    let none : drop (2 * i) w ≡ [] = drop_all (2 * i) w h in
    let e' = rw none at e in
    ap (λ x. Some x) (sym (append-nil bytes)) ∙ e'

pub ruleset pair_lemmas = (pairs_of-odd, pairs_of-drop, pairs_step, pairs_end)

-- what one word more does goes behind what those before it do
pub actions_of-more : (words : List (List ℕ)) (word : List ℕ) (actions : List (ℕ × Action)) (a : ℕ × Action) → actions_of words ≡ Some actions → action_of word ≡ Some a
    → actions_of (words ++ word ∷ []) ≡ Some (actions ++ a ∷ [])
unfolding actions_of
actions_of-more [] word actions a h e = rw (← same_Some [] actions h, e) refl
actions_of-more (first ∷ words) word actions a h e =
    let front = bound (action_of first) _ actions h in
    let more = bound (actions_of words) _ actions front.2 in
    let all = actions_of-more words word more.0 a more.1 e in
    rw (front.1, all) (ap (λ xs. Some (xs ++ a ∷ [])) (same_Some (front.0 ∷ more.0) actions more.2))

none_after : (o : Option (ℕ × Action)) (rest : Option (List (ℕ × Action))) → rest ≡ None → (o >>= λ a. rest >>= λ more. Some (a ∷ more)) ≡ None
none_after None rest e = refl
none_after (Some a) rest e = rw e refl

-- where one word does nothing, all do nothing
pub actions_of-stop : (words : List (List ℕ)) (i : ℕ) (word : List ℕ) → i < length words → word ≡ get_or words i word → action_of word ≡ None → actions_of words ≡ None
unfolding actions_of
actions_of-stop [] i word h at e = absurd (omega arith)
actions_of-stop (first ∷ words) zero word h at e = rw (← at, e) refl
actions_of-stop (first ∷ words) (suc i) word h at e = none_after (action_of first) (actions_of words) (actions_of-stop words i word (omega arith) at e)
