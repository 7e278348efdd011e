-- Rows that are passed over.
use Rattle.std.proofs.Common.{◌≡◌, ◌≢◌, ℕ, List, [], ◌∷◌, Option, None, Bool, true, false, cond, nat_eq, refl, sym, ap, ◌∙◌, subst, ◌⊎◌, inl, inr}
use Rattle.std.specs.Prelude.{not}
use Rattle.std.specs.List.{list_any, filter}
use mathlib.Core.Path.{fun_ext}
use Rattle.std.proofs.lemmas.Bool.{cases_eq, cases_Bool, cond-true, cond-false}
use Rattle.tuple_header.specs.declared.version.Row.{Row}
use Rattle.history.specs.Cursors.{without}
use Rattle.plain_cursor.specs.Order.{KeptCursor, row_of_key, ComesBeforeAll, IsInOrder, rows_without}
use Rattle.plain_cursor.specs.Hands.{cursor_of}
use Rattle.plain_cursor.proofs.Ordered.{row_in-head, row_in-tail, other_key, rest_key}

kept : (test : Row → Bool) (row : Row) (rows : List Row) → test row ≡ true → filter test (row ∷ rows) ≡ row ∷ filter test rows
kept test row rows is = cond-true (test row) (row ∷ filter test rows) (filter test rows) is

left_out : (test : Row → Bool) (row : Row) (rows : List Row) → test row ≡ false → filter test (row ∷ rows) ≡ filter test rows
left_out test row rows is = cond-false (test row) (row ∷ filter test rows) (filter test rows) is

all-filter : (index : ℕ) (test : Row → Bool) (a : Row) (rows : List Row) → ComesBeforeAll index a rows → ComesBeforeAll index a (filter test rows)
all-filter index test a [] all = tt
all-filter index test a (row ∷ rows) all = elim (cases_Bool (test row)) [
  | inl is ↦ subst (ComesBeforeAll index a) (sym (kept test row rows is)) (all.0, all-filter index test a rows all.1)
  | inr isnt ↦ subst (ComesBeforeAll index a) (sym (left_out test row rows isnt)) (all-filter index test a rows all.1)
]

none-filter : (test : Row → Bool) (rows : List Row) (key : ℕ) → row_of_key rows key ≡ None → row_of_key (filter test rows) key ≡ None
none-filter test [] key none = none
none-filter test (row ∷ rows) key none = elim (cases_Bool (test row)) [
  | inl is ↦ ap (λ l. row_of_key l key) (kept test row rows is) ∙ (row_in-tail row (filter test rows) key (other_key row rows key none) ∙ none-filter test rows key (rest_key row rows key none))
  | inr isnt ↦ ap (λ l. row_of_key l key) (left_out test row rows isnt) ∙ none-filter test rows key (rest_key row rows key none)
]

pub in_order-filter : (index : ℕ) (test : Row → Bool) (rows : List Row) → IsInOrder index rows → IsInOrder index (filter test rows)
in_order-filter index test [] order = tt
in_order-filter index test (row ∷ rows) order = elim (cases_Bool (test row)) [
  | inl is ↦ subst (IsInOrder index) (sym (kept test row rows is)) (all-filter index test row rows order.0, none-filter test rows row.key order.1, in_order-filter index test rows order.2)
  | inr isnt ↦ subst (IsInOrder index) (sym (left_out test row rows isnt)) (in_order-filter index test rows order.2)
]

abbrev is_taken : List ℕ → ℕ → Bool
is_taken keys key = list_any (λ taken. nat_eq taken key) keys

all_none : (b : Bool) (o : Option Row) → o ≡ None → o ≡ cond b None o
all_none true o is = is
all_none false o is = refl

-- of each key the row that is left
left_of : (keys : List ℕ) (rows : List Row) (key : ℕ) → row_of_key (rows_without keys rows) key ≡ without keys (row_of_key rows) key
left_of keys [] key = all_none (is_taken keys key) None refl
left_of keys (row ∷ rows) key = elim (cases_Bool (is_taken keys row.key)) [
  | inl taken ↦ ap (λ l. row_of_key l key) (left_out test row rows (ap not taken)) ∙ (left_of keys rows key ∙ (elim (cases_eq row.key key) [
    | inl same ↦ (let gone : is_taken keys key ≡ true = subst (λ k. is_taken keys k ≡ true) same taken in
        cond-true (is_taken keys key) None (row_of_key rows key) gone ∙ sym (cond-true (is_taken keys key) None (row_of_key (row ∷ rows) key) gone))
    | inr ne ↦ ap (cond (is_taken keys key) None) (sym (row_in-tail row rows key ne))
  ]))
  | inr isnt ↦ ap (λ l. row_of_key l key) (kept test row rows (ap not isnt)) ∙ (elim (cases_eq row.key key) [
    | inl same ↦ (let there : is_taken keys key ≡ false = subst (λ k. is_taken keys k ≡ false) same isnt in
        row_in-head row (rows_without keys rows) key same ∙ (sym (row_in-head row rows key same) ∙ sym (cond-false (is_taken keys key) None (row_of_key (row ∷ rows) key) there)))
    | inr ne ↦ row_in-tail row (rows_without keys rows) key ne ∙ (left_of keys rows key ∙ ap (cond (is_taken keys key) None) (sym (row_in-tail row rows key ne)))
  ])
]
  where
    test : Row → Bool
    test r = not (is_taken keys r.key)

pub passed_keys : (old new : KeptCursor) (keys : List ℕ) → new ≡ record { order = old.order; rest = rows_without keys old.rest } → cursor_of new ≡ record (cursor_of old) { rest = without keys (cursor_of old).rest }
passed_keys old new keys is = ap cursor_of is ∙ ap (λ (rest : ℕ → Option Row). record (cursor_of old) { rest = rest }) (fun_ext (left_of keys old.rest))
