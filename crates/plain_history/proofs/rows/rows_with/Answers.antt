use Rattle.std.proofs.Common.{◌≡◌, ◌∙◌, ℕ, ◌+◌, ◌<◌, List, Option, Some, None, Bool, true, false, ◌||◌, nat_eq, length, take, get_or, refl, sym, ap, subst, inl, inr}
use Rattle.std.specs.Prelude.{if◌then◌else◌}
use Rattle.std.specs.Option.{option_or}
use Rattle.std.proofs.lemmas.Bool.{cases_eq, eq-eqb, ne_eqb, or_right}
use Rattle.std.proofs.lemmas.List.Folds.{list_any_more}
use Rattle.tuple_header.specs.declared.version.Row.{Row}
use Rattle.history.specs.World.{view}
use Rattle.plain_history.specs.Plain.{open_of}
use Rattle.plain_cursor.specs.Order.{row_of_key, wanted}
use Rattle.plain_history.specs.Covers.{AddsRow, Covers, has}
use Rattle.plain_history.proofs.rows.rows_with.Goals as goal

either : (seen : Bool) (row : Option Row) → option_or (if seen then row else None) row ≡ row
either true None = refl
either true (Some row) = refl
either false row = refl

unless_same : (seen : Bool) → (seen || false) ≡ seen
unless_same true = refl
unless_same false = refl

-- the row of one more key
covers_more : (rows : ℕ → Option Row) (old new : List Row) (keys : List ℕ) (i k d : ℕ) → i < length keys → k ≡ get_or keys i d → AddsRow rows k old new → Covers rows old (take i keys)
    → Covers rows new (take (i + 1) keys)
covers_more rows old new keys i k d within is adds covers key = elim (cases_eq key k) [
  | inl same ↦ subst (λ j. row_of_key new j ≡ (if has (take (i + 1) keys) j then rows j else None)) (sym same)
      (adds.0 ∙ (ap (λ row. option_or row (rows k)) (covers k) ∙ (either (has (take i keys) k) (rows k)
      ∙ ap (λ seen. if seen then rows k else None) (sym (list_any_more (λ j. nat_eq j k) keys i d within ∙ or_right (has (take i keys) k) (nat_eq (get_or keys i d) k) (eq-eqb (get_or keys i d) k (sym is)))))))
  | inr ne ↦ adds.1 key ne ∙ (covers key
      ∙ ap (λ seen. if seen then rows key else None) (sym (list_any_more (λ j. nat_eq j key) keys i d within
      ∙ (ap (λ here. has (take i keys) key || here) (ne_eqb (get_or keys i d) key (λ e. ne (sym e ∙ sym is))) ∙ unless_same (has (take i keys) key)))))
]

pub loop-key-preserved : goal.loop-key-preserved
loop-key-preserved c = record {
  order = c.in_ok-add_row.ensures.order;
  rows = covers_more (wanted c.args.bounds c.args.index (view c.args.history.now (open_of c.args.session.now))) c.loop-key.rows.items c.add_row.new.rows.items c.args.keys.now
      c.loop-key.key-index (get_or c.args.keys.now c.loop-key.key-index 0) 0 c.loop-key-test.true refl c.in_ok-add_row.ensures.added c.loop-key.invariant.rows;
}
