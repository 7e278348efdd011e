-- Own ids of sessions that are looked through.
use Rattle.std.proofs.Common.{◌≡◌, ℕ, ◌<◌, ◌+◌, List, length, get_or, Option, Some, arith, sym, ap, ◌∙◌, subst, ⊎_elim}
use Rattle.std.specs.Option.{option_flatten}
use Rattle.std.proofs.lemmas.Option.{slice_get-get_or}
use Rattle.std.proofs.lemmas.Bool.{cases_lt}
use Rattle.xid_circle.specs.declared.Xid.{Xid}
use Rattle.sessions.specs.declared.session.Session.{Session}
use Rattle.sessions.specs.Places.{open_at}

-- what is so of none of the first ids, nor of the next, is so of none of one more
pub none-more : (ids : List Xid) (P : ℕ → Type 0) (i : ℕ) → ((k : ℕ) → k < i → ¬ P (get_or ids k (record { 0 = 0 })).0) → ¬ P (get_or ids i (record { 0 = 0 })).0
    → (k : ℕ) → k < i + 1 → ¬ P (get_or ids k (record { 0 = 0 })).0
none-more ids P i none last k lt = ⊎_elim
    (λ before. none k before)
    (λ past. let here : i ≡ k = omega (arith, past, lt) in subst (λ n. ¬ P (get_or ids n (record { 0 = 0 })).0) here last)
    (cases_lt k i)

pub open-there : (xs : List (Option Session)) (s : ℕ) (o : Option Session) (e : Session) → s < length xs → o ≡ get_or xs s o → o ≡ Some e → open_at xs s ≡ Some e
open-there xs s o e within is some = ap option_flatten (slice_get-get_or xs s o within) ∙ sym is ∙ some
