-- The rows of the keys that a session may read.
use Rattle.std.proofs.Common.{◌≡◌, ◌≢◌, ℕ, zero, suc, ◌+◌, ◌<◌, List, [], ◌∷◌, ◌++◌, length, take, Option, Some, None, Bool, true, false, ◌||◌, nat_eq, refl, sym, ap, ◌∙◌, subst, arith, inl, inr, get_or}
use Rattle.std.specs.Prelude.{IsSome, IfSome, IsTrue, ◌↔◌}
use Rattle.std.specs.Option.{option_or, option_flatten, unwrap_or}
use Rattle.std.proofs.lemmas.Bool.{cases_eq, cases_lt, cond-true, cond-false, eq-eqb, ne_eqb, or_right}
use Rattle.std.proofs.lemmas.List.{take_all}
use Rattle.std.proofs.lemmas.Option.{none-some, same_Some}
use Rattle.tuple_header.specs.declared.version.Row.{Row}
use Rattle.history.specs.Cursors.{kept_where}
use Rattle.history.specs.History.{Write, Transaction, said, written, latest}
use Rattle.history.specs.World.{OpenSession, joined, own_write, start_now, view}
use Rattle.history.proofs.HistoryLemmas.{written-append, said-same, said-other}
use Rattle.plain_cursor.specs.Order.{row_of_key, IsInOrder, placed}
use Rattle.plain_cursor.proofs.Ordered.{placed-same, placed-other, placed-in_order}
use Rattle.plain_history.specs.Covers.{has, AddsRow, IsUnwanted, AreUnwanted}
use Rattle.keyed_history.proofs.Lists.{written-take}
use Rattle.plain_history.proofs.Lists.{latest-take, joined-take}

-- One key more.

pub adds-placed : (rows : ℕ → Option Row) (index key : ℕ) (row : Row) (old new : List Row) → row_of_key old key ≡ None → rows key ≡ Some row → row.key ≡ key
    → new ≡ placed index row old → AddsRow rows key old new
adds-placed rows index key row old new none is keyed placed_is = (
  ap (λ l. row_of_key l key) placed_is ∙ (subst (λ k. row_of_key (placed index row old) k ≡ option_or (row_of_key old k) (rows key)) keyed
      (placed-same index row old none' ∙ (sym is ∙ ap (λ o. option_or o (rows key)) (sym none')))),
  λ k ne. ap (λ l. row_of_key l k) placed_is ∙ placed-other index row old k (λ same. ne (sym same ∙ keyed)),
)
  where
    none' : row_of_key old row.key ≡ None
    none' = ap (row_of_key old) keyed ∙ none

pub in_order-placed : (index key : ℕ) (row : Row) (old new : List Row) → row_of_key old key ≡ None → row.key ≡ key → new ≡ placed index row old → IsInOrder index old → IsInOrder index new
in_order-placed index key row old new none keyed placed_is order =
    subst (IsInOrder index) (sym placed_is) (placed-in_order index row old (ap (row_of_key old) keyed ∙ none) order)

has-push_same : (keys : List ℕ) (key : ℕ) → has (keys ++ key ∷ []) key ≡ true
has-push_same [] key = ap (λ b. b || false) (eq-eqb key key refl)
has-push_same (k ∷ keys) key = or_right (nat_eq k key) (has (keys ++ key ∷ []) key) (has-push_same keys key)

has-push_other : (keys : List ℕ) (key k : ℕ) → key ≢ k → has (keys ++ key ∷ []) k ≡ has keys k
has-push_other [] key k ne = ap (λ b. b || false) (ne_eqb key k ne)
has-push_other (j ∷ keys) key k ne = ap (λ b. nat_eq j k || b) (has-push_other keys key k ne)

pub absent_from : (o : Option Row) (answer : Bool) → (IsTrue answer ↔ IsSome o) → answer ≡ false → o ≡ None
absent_from None answer says isnt = refl
absent_from (Some row) answer says isnt = let yes : answer ≡ true = says.1 refl in let never : false ≡ true = sym isnt ∙ yes in absurd (cc)

pub kept_so : (test : Row → Bool) (o : Option Row) (row : Row) → o ≡ Some row → test row ≡ true → kept_where test o ≡ Some row
kept_so test o row is passes = ap (kept_where test) is ∙ cond-true (test row) (Some row) None passes

has-push : (keys : List ℕ) (k key : ℕ) → has (keys ++ k ∷ []) key ≡ false → (has keys key ≡ false) × (k ≢ key)
has-push keys k key e = (
  elim (cases_eq k key) [
    | inl same ↦ absurd (let yes : has (keys ++ k ∷ []) key ≡ true = subst (λ j. has (keys ++ k ∷ []) j ≡ true) same (has-push_same keys k) in let never : false ≡ true = sym e ∙ yes in cc)
    | inr ne ↦ sym (has-push_other keys k key ne) ∙ e
  ],
  λ same. absurd (let yes : has (keys ++ k ∷ []) key ≡ true = subst (λ j. has (keys ++ k ∷ []) j ≡ true) same (has-push_same keys k) in let never : false ≡ true = sym e ∙ yes in cc),
)

-- what is said first is no row that passes, nor what else would be
unwanted_or : (test : Row → Bool) (o p q : Option (Option Row)) → q ≡ option_or o p → IsUnwanted test o → IsUnwanted test p → IsUnwanted test q
unwanted_or test None p q is out out' row e = out' row (sym is ∙ e)
unwanted_or test (Some r) p q is out out' row e = out row (sym is ∙ e)

pub unwanted_none : (test : Row → Bool) (o : Option (Option Row)) → o ≡ None → IsUnwanted test o
unwanted_none test o none row e = absurd (none-some (Some row) (sym none ∙ e))

-- The keys of the writes so far that may be wanted are there.

pub said_skipped : (test : Row → Bool) (write : Write) (answer : Bool) (key : ℕ) → IfSome write.row (λ row. answer ≡ test row) → answer ≡ false → IsUnwanted test (said write key)
said_skipped test write answer key says isnt row e = elim (cases_eq write.key key) [
  | inl same ↦ (let here : write.row ≡ Some row = same_Some write.row (Some row) (sym (said-same write key same) ∙ e) in
      sym (subst (λ (o : Option Row). IfSome o (λ r. answer ≡ test r)) here says) ∙ isnt)
  | inr ne ↦ absurd (none-some (Some row) (sym (said-other write key ne) ∙ e))
]

pub said_pushed : (test : Row → Bool) (keys : List ℕ) (k : ℕ) (write : Write) → k ≡ write.key → (key : ℕ) → has (keys ++ k ∷ []) key ≡ false → (has keys key ≡ false) × IsUnwanted test (said write key)
said_pushed test keys k write same key e =
    let parts = has-push keys k key e in (parts.0, unwanted_none test (said write key) (said-other write key (λ there. parts.1 (same ∙ there))))

pub writes-more : (test : Row → Bool) (keys new old : List ℕ) (writes : List Write) (i : ℕ) (x : Write) → i < length writes → x ≡ get_or writes i x
    → ((key : ℕ) → has keys key ≡ false → (has old key ≡ false) × IsUnwanted test (written (take i writes) key))
    → ((key : ℕ) → has new key ≡ false → (has keys key ≡ false) × IsUnwanted test (said x key))
    → (key : ℕ) → has new key ≡ false → (has old key ≡ false) × IsUnwanted test (written (take (i + 1) writes) key)
writes-more test keys new old writes i x lt is before here key e =
    let now = here key e in let was = before key now.0 in
    (was.0, unwanted_or test (said x key) (written (take i writes) key) (written (take (i + 1) writes) key) (written-take writes i x key lt is) now.1 was.1)

pub levels-more : (test : Row → Bool) (keys new old : List ℕ) (levels : List (List Write)) (i : ℕ) (x : List Write) → i < length levels → x ≡ get_or levels i x
    → ((key : ℕ) → has keys key ≡ false → (has old key ≡ false) × IsUnwanted test (written (joined (take i levels)) key))
    → ((key : ℕ) → has new key ≡ false → (has keys key ≡ false) × IsUnwanted test (written x key))
    → (key : ℕ) → has new key ≡ false → (has old key ≡ false) × IsUnwanted test (written (joined (take (i + 1) levels)) key)
levels-more test keys new old levels i x lt is before here key e =
    let now = here key e in let was = before key now.0 in (
      was.0,
      unwanted_or test (written (joined (take i levels)) key) (written x key) (written (joined (take (i + 1) levels)) key)
          (ap (λ ws. written ws key) (joined-take levels i x lt is) ∙ written-append x (joined (take i levels)) key) was.1 now.1,
    )

pub none_first : (test : Row → Bool) (history : List Transaction) (key : ℕ) → AreUnwanted test history 0 key
none_first test history key zero le = unwanted_none test None refl
none_first test history key (suc k) le = absurd (omega (arith, le))

pub history-more : (test : Row → Bool) (keys new old : List ℕ) (history : List Transaction) (i : ℕ) (x : Transaction) → i < length history → x ≡ get_or history i x
    → ((key : ℕ) → has keys key ≡ false → (has old key ≡ false) × AreUnwanted test history i key)
    → ((key : ℕ) → has new key ≡ false → (has keys key ≡ false) × IsUnwanted test (written x key))
    → (key : ℕ) → has new key ≡ false → (has old key ≡ false) × AreUnwanted test history (i + 1) key
history-more test keys new old history i x lt is before here key e =
    let now = here key e in let was = before key now.0 in (
      was.0,
      λ k le. elim (cases_lt k (i + 1)) [
        | inl less ↦ was.1 k (omega (arith, less))
        | inr more ↦ subst (λ n. IsUnwanted test (latest (take n history) key)) (let last : i + 1 ≡ k = omega (arith, le, more) in last)
            (unwanted_or test (written x key) (latest (take i history) key) (latest (take (i + 1) history) key) (latest-take history i x key lt is) now.1 (was.1 i (omega arith)))
      ],
    )

-- beyond the last transaction nothing is added
unwanted_at : (test : Row → Bool) (history : List Transaction) (key n : ℕ) → AreUnwanted test history (length history) key → IsUnwanted test (latest (take n history) key)
unwanted_at test history key n out = elim (cases_lt n (length history)) [
  | inl less ↦ out n (omega (arith, less))
  | inr beyond ↦ subst (λ (ts : List Transaction). IsUnwanted test (latest ts key)) (take_all (length history) history (omega arith) ∙ sym (take_all n history beyond)) (out (length history) (omega arith))
]

passes_not : (test : Row → Bool) (o : Option Row) → ((row : Row) → o ≡ Some row → test row ≡ false) → kept_where test o ≡ None
passes_not test None out = refl
passes_not test (Some row) out = cond-false (test row) (Some row) None (out row refl)

unwanted_view : (test : Row → Bool) (o p : Option (Option Row)) → IsUnwanted test o → IsUnwanted test p → (row : Row) → unwrap_or o (option_flatten p) ≡ Some row → test row ≡ false
unwanted_view test (Some r) p out out' row e = out row (ap Some e)
unwanted_view test None (Some r) out out' row e = out' row (ap Some e)
unwanted_view test None None out out' row e = absurd (none-some row e)

-- what nobody wrote that passes isn't read
pub view-none : (test : Row → Bool) (history : List Transaction) (m : OpenSession) (older newest : List Write) (key : ℕ) → joined m.levels ≡ older ++ newest
    → AreUnwanted test history (length history) key → IsUnwanted test (written older key) → IsUnwanted test (written newest key) → kept_where test (view history m key) ≡ None
view-none test history m older newest key all out out' out'' =
    passes_not test (view history m key) (unwanted_view test (own_write m key) (latest (take (start_now history m) history) key)
    (unwanted_or test (written newest key) (written older key) (own_write m key) (ap (λ ws. written ws key) all ∙ written-append older newest key) out'' out')
    (unwanted_at test history key (start_now history m) out))
