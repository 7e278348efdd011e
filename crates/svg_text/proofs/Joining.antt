-- One part after another behind a text.
use Rattle.std.proofs.Common.{◌≡◌, ℕ, List, ◌++◌, ap, ◌∙◌, append_assoc, Result, Ok, Err, OnOk}

-- a part is behind a text, and if the last call did its work, others are behind that: all are behind the text
pub behind : {E : Type 0} (r : Result (Unit {0}) E) (a b c p q : List ℕ) → b ≡ a ++ p → OnOk r (c ≡ b ++ q) → OnOk r (c ≡ a ++ (p ++ q))
behind (Ok u) a b c p q e f = f ∙ ap (λ (x : List ℕ). x ++ q) e ∙ append_assoc a p q
behind (Err x) a b c p q e f = tt
