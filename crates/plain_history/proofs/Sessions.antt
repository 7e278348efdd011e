-- The sessions of a world as a list.
use Rattle.std.proofs.Common.{◌≡◌, ◌≢◌, ℕ, ◌+◌, ◌<◌, ◌≤◌, List, length, get_or, Option, Some, None, Bool, true, false, refl, sym, ap, ◌∙◌, subst, arith, inl, inr}
use Rattle.std.specs.Prelude.{IsSome, IsTrue, ◌↔◌}
use Rattle.std.specs.Option.{option_map, option_flatten, is_some}
use Rattle.std.proofs.lemmas.Bool.{cases_eq, cases_lt, true≢false}
use Rattle.std.proofs.lemmas.Option.{slice_get_read, slice_get_past, same_Some, none-some}
use Rattle.plain_history.specs.declared.plain.PlainSession.{PlainSession}
use Rattle.tuple_header.specs.declared.version.Row.{Row}
use Rattle.history.specs.World.{World, OpenSession, own_write, by_statement, SomeoneHasWritten}
use Rattle.plain_history.specs.Plain.{open_of, has_session_written, session_in}

pub session_in-read : (sessions : List (Option PlainSession)) (o : ℕ) (x : Option PlainSession) → o < length sessions → x ≡ get_or sessions o x
    → session_in sessions o ≡ option_map open_of x
session_in-read sessions o x within is = ap (λ y. option_map open_of (option_flatten y)) (slice_get_read sessions (length sessions) o x refl within is)

pub session_in-past : (sessions : List (Option PlainSession)) (o : ℕ) → length sessions ≤ o → session_in sessions o ≡ None
session_in-past sessions o past = ap (λ y. option_map open_of (option_flatten y)) (slice_get_past sessions o past)

pub wrote_some : {A : Type 0} (o result : Option A) → result ≡ o → is_some result ≡ true → IsSome o
wrote_some None result e h = cc
wrote_some (Some x) result e h = refl

-- no other session below o holds the key
abbrev pub NoneBelow : List (Option PlainSession) → ℕ → ℕ → ℕ → Type 0
NoneBelow sessions s key n = (o : ℕ) (m : OpenSession) → o < n → o ≢ s → session_in sessions o ≡ Some m → IsSome (own_write m key) → ⊥

pub less : (a b : ℕ) → a < b + 1 → a ≢ b → a < b
less a b lt ne = grind arith

pub none_further : (sessions : List (Option PlainSession)) (s key n : ℕ) → NoneBelow sessions s key n
    → ((m : OpenSession) → n ≢ s → session_in sessions n ≡ Some m → IsSome (own_write m key) → ⊥) → NoneBelow sessions s key (n + 1)
none_further sessions s key n below here o m lt ne at wrote = elim (cases_eq o n) [
  | inl same ↦ here m (subst (λ p. p ≢ s) same ne) (subst (λ p. session_in sessions p ≡ Some m) same at) wrote
  | inr differs ↦ below o m (less o n lt differs) ne at wrote
]

pub none_at_all : (sessions : List (Option PlainSession)) (s key n : ℕ) → length sessions ≤ n → NoneBelow sessions s key n
    → (o : ℕ) (m : OpenSession) → o ≢ s → session_in sessions o ≡ Some m → IsSome (own_write m key) → ⊥
none_at_all sessions s key n all below o m ne at wrote = elim (cases_lt o n) [
  | inl lt ↦ below o m lt ne at wrote
  | inr past ↦ absurd (none-some m (sym (session_in-past sessions o (omega arith)) ∙ at))
]

-- whether the open session holds the key
pub holds_says : (session : Option PlainSession) (p : PlainSession) (key : ℕ) (own : Option (Option Row)) (result : Bool) → session ≡ Some p
    → own ≡ own_write (open_of p) key → result ≡ is_some own
    → IsTrue result ↔ ((m : OpenSession) × (option_map open_of session ≡ Some m) × IsSome (own_write m key))
holds_says session p key own result is of_it says = (
  λ yes. (open_of p, ap (option_map open_of) is, wrote_some (own_write (open_of p) key) own of_it (sym says ∙ yes)),
  λ (m, at, wrote). says ∙ subst IsSome (ap (λ n. own_write n key) (same_Some m (open_of p) (sym at ∙ ap (option_map open_of) is)) ∙ sym of_it) wrote,
)

abbrev pub Holding : List (Option PlainSession) → ℕ → ℕ → Type 0
Holding sessions o key = (m : OpenSession) × (session_in sessions o ≡ Some m) × IsSome (own_write m key)

pub holder_found : (sessions : List (Option PlainSession)) (key o : ℕ) (x : Option PlainSession) → o < length sessions → x ≡ get_or sessions o x
    → (m : OpenSession) × (option_map open_of x ≡ Some m) × IsSome (own_write m key) → Holding sessions o key
holder_found sessions key o x within is found = (found.0, session_in-read sessions o x within is ∙ found.1, found.2)

pub holder_not : (sessions : List (Option PlainSession)) (key o : ℕ) (x : Option PlainSession) (result : Bool) → o < length sessions → x ≡ get_or sessions o x
    → result ≡ false → ((m : OpenSession) × (option_map open_of x ≡ Some m) × IsSome (own_write m key) → IsTrue result)
    → (m : OpenSession) → session_in sessions o ≡ Some m → IsSome (own_write m key) → ⊥
holder_not sessions key o x result within is isnt says m at wrote =
    let yes : result ≡ true = says (m, sym (session_in-read sessions o x within is) ∙ at, wrote) in absurd (let never : false ≡ true = sym isnt ∙ yes in cc)

-- whether the open session reads by statement
pub by_statement_says : (o : Option OpenSession) (m : OpenSession) (answer : Bool) → o ≡ Some m → (IsTrue answer ↔ (m.isolation ≡ by_statement))
    → IsTrue answer ↔ ((n : OpenSession) × (o ≡ Some n) × (n.isolation ≡ by_statement))
by_statement_says o m answer at says = (
  λ yes. (m, at, says.0 yes),
  λ (n, at', by). says.1 (subst (λ (k : OpenSession). k.isolation ≡ by_statement) (same_Some n m (sym at' ∙ at)) by),
)

pub nobody_says : (o : Option OpenSession) → o ≡ None → IsTrue false ↔ ((n : OpenSession) × (o ≡ Some n) × (n.isolation ≡ by_statement))
nobody_says o idle = (λ yes. absurd (cc), λ (n, at, by). absurd (none-some n (sym idle ∙ at)))

-- an open session has written
some_wrote : (o : Option OpenSession) → has_session_written o ≡ true → (m : OpenSession) × (o ≡ Some m) × (m.has_written ≡ true)
some_wrote None is = absurd (cc)
some_wrote (Some m) is = (m, refl, is)

pub someone_says : (w : World) (sessions : List (Option PlainSession)) (answer : Bool) → session_in sessions ≡ w.session → (IsTrue answer ↔ ((s : ℕ) × (has_session_written (session_in sessions s) ≡ true)))
    → IsTrue answer ↔ SomeoneHasWritten w
someone_says w sessions answer same says = (
  λ yes. (let found = says.0 yes in let wrote = some_wrote (w.session found.0) (subst (λ (f : ℕ → Option OpenSession). has_session_written (f found.0) ≡ true) same found.1) in (found.0, wrote.0, wrote.1, wrote.2)),
  λ (s, m, at, wrote). says.1 (s, subst (λ (f : ℕ → Option OpenSession). has_session_written (f s) ≡ true) (sym same) (ap has_session_written at ∙ wrote)),
)

-- and none has
pub nobody_wrote : (w : World) (answer : Bool) → (SomeoneHasWritten w → IsTrue answer) → answer ≡ false → ¬ SomeoneHasWritten w
nobody_wrote w answer says isnt some = true≢false (sym (says some) ∙ isnt)
