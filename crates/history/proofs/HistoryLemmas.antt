-- What a commit and a write change in what is read.
use Rattle.std.proofs.Common.{◌≡◌, ◌≢◌, ℕ, zero, suc, ◌<◌, ◌≤◌, List, [], ◌∷◌, ◌++◌, length, Option, Some, None, cond, refl, sym, ap, ◌∙◌, subst, arith, ◌⊎◌, inl, inr, nat_eq, append_assoc}
use Rattle.std.specs.Prelude.{IsSome, Contains}
use Rattle.std.specs.Option.{option_or, option_flatten, unwrap_or}
use Rattle.std.proofs.lemmas.List.{take-append-le, take_all}
use Rattle.std.proofs.lemmas.List.Elements.{Contains-push, Contains-append_left, Contains-append_right}
use Rattle.std.proofs.lemmas.Bool.{cases_eq, cond-true, cond-false, eq-eqb, ne_eqb}
use Rattle.std.proofs.lemmas.Option.{slice_get_within}
use Rattle.tuple_header.specs.declared.version.Row.{Row}
use Rattle.history.specs.History.{Write, Transaction, said, written, latest, committed, reading, IsLate}
use Rattle.history.specs.World.{joined}
use Rattle.history.specs.Moves.{add_write, join_newest}
use Rattle.history.proofs.Places.{slice_get-push_old, slice_get-push_new, slice_get-push_cases}

pub option_or-none : {A : Type 0} (o : Option A) → option_or o None ≡ o
option_or-none None = refl
option_or-none (Some x) = refl

pub option_or_assoc : {A : Type 0} (o p q : Option A) → option_or (option_or o p) q ≡ option_or o (option_or p q)
option_or_assoc None p q = refl
option_or_assoc (Some x) p q = refl

pub IsSome-or_second : {A : Type 0} (o p : Option A) → IsSome p → IsSome (option_or o p)
IsSome-or_second None p some = some
IsSome-or_second (Some x) p some = refl

-- the later writes stand before the earlier
pub written-append : (earlier later : List Write) (key : ℕ) → written (earlier ++ later) key ≡ option_or (written later key) (written earlier key)
written-append [] later key = sym (option_or-none (written later key))
written-append (write ∷ earlier) later key =
    ap (λ o. option_or o (said write key)) (written-append earlier later key) ∙ option_or_assoc (written later key) (written earlier key) (said write key)

pub written-push : (writes : List Write) (write : Write) (key : ℕ) → written (writes ++ write ∷ []) key ≡ option_or (said write key) (written writes key)
written-push writes write key = written-append writes (write ∷ []) key

pub latest-push : (history : List Transaction) (t : Transaction) (key : ℕ) → latest (history ++ t ∷ []) key ≡ option_or (written t key) (latest history key)
latest-push [] t key = sym (option_or-none (written t key))
latest-push (u ∷ history) t key =
    ap (λ o. option_or o (written u key)) (latest-push history t key) ∙ option_or_assoc (written t key) (latest history key) (written u key)

-- a commit changes nothing for those who began before it
pub committed-append : (history more : List Transaction) (n key : ℕ) → n ≤ length history → committed (history ++ more) n key ≡ committed history n key
committed-append history more n key le = ap (λ ts. option_flatten (latest ts key)) (take-append-le n history more le)

pub committed-push_before : (history : List Transaction) (t : Transaction) (n key : ℕ) → n ≤ length history → committed (history ++ t ∷ []) n key ≡ committed history n key
committed-push_before history t n key le = committed-append history (t ∷ []) n key le

pub committed_all : (history : List Transaction) (key : ℕ) → committed history (length history) key ≡ option_flatten (latest history key)
committed_all history key = ap (λ ts. option_flatten (latest ts key)) (take_all (length history) history (omega arith))

pub flatten_or : (o p : Option (Option Row)) → option_flatten (option_or o p) ≡ unwrap_or o (option_flatten p)
flatten_or None p = refl
flatten_or (Some r) p = refl

-- and adds its writes for those who begin after it
pub committed-push_all : (history : List Transaction) (t : Transaction) (key : ℕ)
    → committed (history ++ t ∷ []) (length (history ++ t ∷ [])) key ≡ unwrap_or (written t key) (committed history (length history) key)
committed-push_all history t key =
    committed_all (history ++ t ∷ []) key ∙ (ap option_flatten (latest-push history t key)
    ∙ (flatten_or (written t key) (latest history key) ∙ ap (unwrap_or (written t key)) (sym (committed_all history key))))

pub reading-append_history : (history more : List Transaction) (start : ℕ) (writes : List Write) (key : ℕ) → start ≤ length history
    → reading (history ++ more) start writes key ≡ reading history start writes key
reading-append_history history more start writes key le = ap (unwrap_or (written writes key)) (committed-append history more start key le)

pub IsLate-push_old : (history : List Transaction) (t : Transaction) (n key : ℕ) → IsLate history n key → IsLate (history ++ t ∷ []) n key
IsLate-push_old history t n key late = (late.0, late.1, late.2, slice_get-push_old history t late.0 late.1 late.3, late.4)

pub IsLate-push_new : (history : List Transaction) (t : Transaction) (n key : ℕ) → n ≤ length history → IsSome (written t key) → IsLate (history ++ t ∷ []) n key
IsLate-push_new history t n key le wrote = (length history, t, le, slice_get-push_new history t, wrote)

pub IsLate-push_cases : (history : List Transaction) (t : Transaction) (n key : ℕ) → IsLate (history ++ t ∷ []) n key → IsLate history n key ⊎ IsSome (written t key)
IsLate-push_cases history t n key late =
    elim (slice_get-push_cases history t late.0 late.1 late.3) [
      | inl old ↦ inl (late.0, late.1, late.2, old, late.4)
      | inr new ↦ inr (subst (λ (u : Transaction). IsSome (written u key)) new.1 late.4)
    ]

-- no key is late for one who begins now
pub IsLate-now : (history : List Transaction) (key : ℕ) → ¬ IsLate history (length history) key
IsLate-now history key late = let within : late.0 < length history = slice_get_within history late.0 late.1 late.3 in absurd (omega arith)

-- what the levels say together, after each change of the newest
pub joined-add_write : (write : Write) (levels : List (List Write)) → joined (add_write write levels) ≡ joined levels ++ write ∷ []
joined-add_write write [] = refl
joined-add_write write (level ∷ older) = sym (append_assoc (joined older) level (write ∷ []))

pub joined-join_newest : (levels : List (List Write)) → joined (join_newest levels) ≡ joined levels
joined-join_newest [] = refl
joined-join_newest (level ∷ []) = refl
joined-join_newest (level ∷ below ∷ older) = sym (append_assoc (joined older) below level)

-- a value chosen by a number
pub at_same : {A : Type 0} (s : ℕ) (a b : A) → cond (nat_eq s s) a b ≡ a
at_same s a b = cond-true (nat_eq s s) a b (eq-eqb s s refl)

pub at_other : {A : Type 0} (t s : ℕ) (a b : A) → t ≢ s → cond (nat_eq t s) a b ≡ b
at_other t s a b ne = cond-false (nat_eq t s) a b (ne_eqb t s ne)

-- the write says something of its own key, and of no other
pub said-same : (write : Write) (key : ℕ) → write.key ≡ key → said write key ≡ Some write.row
said-same write key same = cond-true (nat_eq write.key key) (Some write.row) None (eq-eqb write.key key same)

pub said-other : (write : Write) (key : ℕ) → write.key ≢ key → said write key ≡ None
said-other write key ne = cond-false (nat_eq write.key key) (Some write.row) None (ne_eqb write.key key ne)

-- A write is among others, or says something of a key.

pub IsSome-or_first : {A : Type 0} (o p : Option A) → IsSome o → IsSome (option_or o p)
IsSome-or_first None p some = absurd (cc)
IsSome-or_first (Some x) p some = refl

pub among-written : (writes : List Write) (write : Write) → Contains writes write → IsSome (written writes write.key)
among-written [] write (k, lt, is) = absurd (omega arith)
among-written (first ∷ later) write (zero, lt, is) =
    IsSome-or_second (written later write.key) (said first write.key) (subst IsSome (sym (said-same first write.key (ap (λ (w : Write). w.key) is))) refl)
among-written (first ∷ later) write (suc k, lt, is) =
    IsSome-or_first (written later write.key) (said first write.key) (among-written later write (k, omega arith, is))

pub written-among : (writes : List Write) (key : ℕ) → IsSome (written writes key) → (write : Write) × Contains writes write × (write.key ≡ key)
written-among [] key some = absurd (cc)
written-among (first ∷ later) key some = elim (cases_eq first.key key) [
  | inl same ↦ (first, Contains-append_left (first ∷ []) later first (Contains-push [] first), same)
  | inr ne ↦ let more = written-among later key (subst IsSome (ap (option_or (written later key)) (said-other first key ne) ∙ option_or-none (written later key)) some) in
      (more.0, Contains-append_right (first ∷ []) later more.0 more.1, more.2)
]

-- who has fewer writes says something of fewer keys
pub fewer-written : (fewer writes : List Write) → ((write : Write) → Contains fewer write → Contains writes write) → (key : ℕ) → IsSome (written fewer key) → IsSome (written writes key)
fewer-written fewer writes within key some =
    let one = written-among fewer key some in subst (λ k. IsSome (written writes k)) one.2 (among-written writes one.0 (within one.0 one.1))
