use Rattle.std.proofs.Common.{rules}
use Rattle.tuple_header.proofs.Columns.{four_fit}
use Rattle.tuple_header.proofs.version.fact_version.Goals as goal

pub returns : goal.returns
returns c = record {
  xmin = c.fact_header_fits.ensures.xmin;
  xmax = c.fact_header_fits.ensures.xmax;
  page = c.fact_header_fits.ensures.page;
  slot = c.fact_header_fits.ensures.slot;
  mask2 = c.fact_header_fits.ensures.mask2;
  mask = c.fact_header_fits.ensures.mask;
  key = search rules;
  four = c.fact_columns-cols.ensures.four;
  cols = four_fit _ c.fact_columns-cols.ensures.four c.fact_columns-cols.ensures.fit_0 c.fact_columns-cols.ensures.fit_1 c.fact_columns-cols.ensures.fit_2 c.fact_columns-cols.ensures.fit_3;
  body = rw (← c.as_slice-body.ensures.value) c.as_slice-body.ensures.fits;
  faultless = c.requires;
}
