-- The horizon is found session by session.
use Rattle.std.proofs.Common.{◌≡◌, ℕ, ◌+◌, ◌<◌, List, [], ◌∷◌, ◌++◌, length, take, get_or, Option, Some, None, refl, sym, ap, ◌∙◌}
use Rattle.std.proofs.lemmas.List.{take_more, append-nil, append_assoc}
use Rattle.std.proofs.lemmas.List.Sums.{fold-append}
use Rattle.snapshot.specs.Snap.{earlier, earliest}
use Rattle.sessions.specs.declared.session.Session.{Session}
use Rattle.sessions.specs.Session.{holds_back, held_back}

-- so far: what the sessions before this place hold back
abbrev pub IsHeldAt : ℕ → List (Option Session) → ℕ → ℕ → Type 0
IsHeldAt next sessions i horizon = horizon ≡ earliest next (held_back (take i sessions))

held-push_idle : (xs : List (Option Session)) → held_back (xs ++ None ∷ []) ≡ held_back xs
held-push_idle [] = refl
held-push_idle (None ∷ xs) = held-push_idle xs
held-push_idle (Some e ∷ xs) = ap (λ ys. holds_back e ++ ys) (held-push_idle xs)

held-push_open : (xs : List (Option Session)) (e : Session) → held_back (xs ++ Some e ∷ []) ≡ held_back xs ++ holds_back e
held-push_open [] e = append-nil (holds_back e)
held-push_open (None ∷ xs) e = held-push_open xs e
held-push_open (Some f ∷ xs) e = ap (λ ys. holds_back f ++ ys) (held-push_open xs e) ∙ sym (append_assoc (holds_back f) (held_back xs) (holds_back e))

pub held-idle : (next : ℕ) (xs : List (Option Session)) (i horizon : ℕ) (o : Option Session) → i < length xs → get_or xs i o ≡ o → o ≡ None → IsHeldAt next xs i horizon → IsHeldAt next xs (i + 1) horizon
held-idle next xs i horizon o within read none h =
    h ∙ sym (ap (λ xs. earliest next (held_back xs)) (take_more xs i o within ∙ ap (λ o. take i xs ++ o ∷ []) (read ∙ none)) ∙ ap (earliest next) (held-push_idle (take i xs)))

pub held-open : (next : ℕ) (xs : List (Option Session)) (i horizon held : ℕ) (o : Option Session) (e : Session) → i < length xs → get_or xs i o ≡ o → o ≡ Some e
    → held ≡ earliest horizon (holds_back e) → IsHeldAt next xs i horizon → IsHeldAt next xs (i + 1) held
held-open next xs i horizon held o e within read some is h =
    is ∙ (ap (λ x. earliest x (holds_back e)) h ∙ sym (
    ap (λ xs. earliest next (held_back xs)) (take_more xs i o within ∙ ap (λ o. take i xs ++ o ∷ []) (read ∙ some))
    ∙ (ap (earliest next) (held-push_open (take i xs) e) ∙ fold-append earlier next (held_back (take i xs)) (holds_back e))))
