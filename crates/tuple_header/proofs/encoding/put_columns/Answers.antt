use Rattle.std.proofs.Common.{◌≡◌, ◌∙◌, sym, ap, map, List, ℤ, get_or, pos, w64, of_z, [], ◌∷◌}
use Rattle.std.specs.Int.{cast_unsigned}
use Rattle.tuple_header.specs.Layout.{with_number, with_numbers}
use Rattle.tuple_header.proofs.Spelling.{by_four, stored_bits}
use Rattle.tuple_header.proofs.encoding.put_columns.Goals as goal

pub returns : goal.returns
returns c =
    let old = c.args.out.now in
    let cols = c.args.cols.now in
    let at : (i : ℤ) → ℤ = λ i. i in
    let s11 : c.put_i64.new.out ≡ with_number 32 8 (of_z w64 (get_or cols 0 (pos 0))) old = stored_bits 32 (get_or cols 0 (pos 0)) old _ c.fact_columns.ensures.fit_0 c.put_i64.ensures in
    let s12 : c.put_i64-2.new.out ≡ with_number 40 8 (of_z w64 (get_or cols 1 (pos 0))) c.put_i64.new.out = stored_bits 40 (get_or cols 1 (pos 0)) c.put_i64.new.out _ c.fact_columns.ensures.fit_1 c.put_i64-2.ensures in
    let s13 : c.put_i64-3.new.out ≡ with_number 48 8 (of_z w64 (get_or cols 2 (pos 0))) c.put_i64-2.new.out = stored_bits 48 (get_or cols 2 (pos 0)) c.put_i64-2.new.out _ c.fact_columns.ensures.fit_2 c.put_i64-3.ensures in
    let s14 : c.put_i64-4.new.out ≡ with_number 56 8 (of_z w64 (get_or cols 3 (pos 0))) c.put_i64-3.new.out = stored_bits 56 (get_or cols 3 (pos 0)) c.put_i64-3.new.out _ c.fact_columns.ensures.fit_3 c.put_i64-4.ensures in
    rw (s14, s13, s12, s11) (ap (λ cs. with_numbers 32 (8 ∷ 8 ∷ 8 ∷ 8 ∷ []) (map (cast_unsigned w64) cs) old) (sym (by_four cols c.fact_columns.ensures.four)))
