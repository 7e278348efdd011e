use Rattle.std.proofs.Common.{◌≡◌, sym, ◌∙◌, arith}
use Rattle.tuple_header.specs.Layout.{header_widths, header_values, header_bytes, spelled}
use Rattle.tuple_header.proofs.Writes.{with_numbers-spelled}
use Rattle.tuple_header.proofs.Spelling.{fit-header}
use Rattle.tuple_header.proofs.encoding.put_header.Goals as goal

pub returns : goal.returns
unfolding header_bytes
returns c =
    let old = c.args.out.now in
    let h = c.args.header.now in
    record {
      bytes = c.put_fields.ensures ∙ with_numbers-spelled header_widths (header_values h) 0 old (fit-header h c.fact_header_fits.ensures) (omega arith);
      fits = c.fact_header_fits.ensures;
    }
