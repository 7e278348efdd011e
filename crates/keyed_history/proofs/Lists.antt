-- One write more in what is written.
use Rattle.std.proofs.Common.{◌≡◌, ℕ, ◌+◌, ◌<◌, List, length, take, get_or, Option, Some, None, sym, ap, ◌∙◌}
use Rattle.std.specs.Option.{option_or}
use Rattle.std.proofs.lemmas.List.{take_more}
use Rattle.history.specs.History.{Write, said, written}
use Rattle.history.proofs.HistoryLemmas.{written-push}

pub written-take : (writes : List Write) (i : ℕ) (x : Write) (key : ℕ) → i < length writes → x ≡ get_or writes i x
    → written (take (i + 1) writes) key ≡ option_or (said x key) (written (take i writes) key)
written-take writes i x key lt is = ap (λ ws. written ws key) (take_more writes i x lt) ∙ (written-push (take i writes) (get_or writes i x) key ∙ ap (λ y. option_or (said y key) (written (take i writes) key)) (sym is))

-- the value after a look at one more, which said something or nothing
pub newer : {A : Type 0} (result o p last : Option A) (x : A) → result ≡ Some x → result ≡ o → last ≡ Some x → last ≡ option_or o p
newer result o p last x is of_it now = now ∙ ap (λ q. option_or q p) (sym is ∙ of_it)

pub as_before : {A : Type 0} (result o p last before : Option A) → result ≡ None → result ≡ o → last ≡ before → before ≡ p → last ≡ option_or o p
as_before result o p last before is of_it now was = now ∙ (was ∙ ap (λ q. option_or q p) (sym is ∙ of_it))
