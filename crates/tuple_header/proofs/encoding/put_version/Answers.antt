use Rattle.std.proofs.Common.{◌≡◌, refl, length, map, w64, [], ◌∷◌}
use Rattle.std.specs.Int.{cast_unsigned}
use Rattle.tuple_header.specs.Layout.{with_bytes, with_number, widths, values, header_widths, header_values, with_numbers}
use Rattle.tuple_header.specs.Faults.{IsVersion}
use Rattle.tuple_header.proofs.Spelling.{encoded, with_numbers-in_parts}
use Rattle.tuple_header.proofs.encoding.put_version.Goals as goal

pub returns : goal.returns
returns c =
    let old = c.args.out.now in
    let h = c.args.header.now in
    let r = c.args.row.now in
    let body : c.as_slice-body.result.now ≡ r.body.items = c.as_slice-body.ensures.value in
    let s9 : c.put_fields.new.out ≡ with_numbers 0 header_widths (header_values h) old = c.put_fields.ensures in
    let s10 : c.put_u64.new.out ≡ with_number 24 8 r.key c.put_fields.new.out = c.put_u64.ensures in
    let s14 : c.put_columns.new.out ≡ with_numbers 32 (8 ∷ 8 ∷ 8 ∷ 8 ∷ []) (map (cast_unsigned w64) r.cols) c.put_u64.new.out = c.put_columns.ensures in
    let s15 : c.put_u16.new.out ≡ with_number 64 2 (length c.as_slice-body.result.now) c.put_columns.new.out = c.put_u16.ensures in
    let last : c.put_bytes.new.out ≡ with_bytes 66 c.as_slice-body.result.now c.put_u16.new.out = c.put_bytes.ensures in
    let parts = with_numbers-in_parts h r old c.fact_version.ensures in
    let whole : c.put_bytes.new.out ≡ with_bytes 66 r.body.items (with_numbers 0 widths (values (record { header = h; row = r })) old) =
    rw (last, parts, s15, s14, s10, s9, body) refl in
    record { bytes = encoded h r old c.put_bytes.new.out c.fact_version.ensures c.requires.room whole; version = c.fact_version.ensures }
