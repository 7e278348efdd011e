-- One element more, in what is written, joined and latest.
use Rattle.std.proofs.Common.{◌≡◌, ℕ, suc, ◌+◌, ◌<◌, List, [], ◌∷◌, ◌++◌, length, take, drop, get_or, Option, Some, None, sym, ap, ◌∙◌, add-one, append_assoc}
use Rattle.std.specs.Option.{option_or}
use Rattle.std.proofs.lemmas.List.{take_more, append-nil}
use Rattle.std.proofs.Math.Seq.{drop-cons}
use Rattle.history.specs.History.{Write, Transaction, written, latest}
use Rattle.history.specs.World.{joined}
use Rattle.history.proofs.HistoryLemmas.{written-append, latest-push}

pub latest-take : (history : List Transaction) (i : ℕ) (x : Transaction) (key : ℕ) → i < length history → x ≡ get_or history i x
    → latest (take (i + 1) history) key ≡ option_or (written x key) (latest (take i history) key)
latest-take history i x key lt is = ap (λ ts. latest ts key) (take_more history i x lt) ∙ (latest-push (take i history) (get_or history i x) key ∙ ap (λ (y : Transaction). option_or (written y key) (latest (take i history) key)) (sym is))

-- what the levels from place i on say: the newest of them, else the others
pub joined-drop : (levels : List (List Write)) (i : ℕ) (x : List Write) (key : ℕ) → i < length levels → x ≡ get_or levels i x
    → written (joined (drop i levels)) key ≡ option_or (written x key) (written (joined (drop (i + 1) levels)) key)
joined-drop levels i x key lt is =
    ap (λ ls. written (joined ls) key) (drop-cons levels i x lt)
    ∙ (written-append (joined (drop (suc i) levels)) (get_or levels i x) key
    ∙ (ap (λ y. option_or (written y key) (written (joined (drop (suc i) levels)) key)) (sym is) ∙ ap (λ j. option_or (written x key) (written (joined (drop j levels)) key)) (sym (add-one i))))

-- what is said is what all say, where a part that goes before says it, or nothing
pub said_first : {A : Type 0} (result o p : Option A) (x : A) → result ≡ Some x → result ≡ o → Some x ≡ option_or o p
said_first result o p x is of_it = ap (λ q. option_or q p) (sym is ∙ of_it)

pub said_after : {A : Type 0} (result o p : Option A) → result ≡ None → result ≡ o → option_or o p ≡ p
said_after result o p is of_it = ap (λ q. option_or q p) (sym of_it ∙ is)

pub joined-push : (levels : List (List Write)) (level : List Write) → joined (levels ++ level ∷ []) ≡ level ++ joined levels
joined-push [] level = sym (append-nil level)
joined-push (first ∷ levels) level = ap (λ ws. ws ++ first) (joined-push levels level) ∙ append_assoc level (joined levels) first

pub joined-take : (levels : List (List Write)) (i : ℕ) (x : List Write) → i < length levels → x ≡ get_or levels i x → joined (take (i + 1) levels) ≡ x ++ joined (take i levels)
joined-take levels i x lt is = ap joined (take_more levels i x lt) ∙ (joined-push (take i levels) (get_or levels i x) ∙ ap (λ y. y ++ joined (take i levels)) (sym is))
