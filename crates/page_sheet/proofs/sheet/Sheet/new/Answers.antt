use Rattle.std.proofs.Common.{ℕ, [], refl, ap}
use Rattle.page_sheet.specs.Placing.{VersionPlaces}
use Rattle.page_sheet.proofs.Blank.{IsBlank, blank}
use Rattle.page_sheet.proofs.LyingLemmas.{lying-bare_page}
use Rattle.page_sheet.proofs.sheet.Sheet.new.Goals as goal

blanked : (c : goal.After-bytes-8-1) → IsBlank c.put_u16-4.new.bytes
blanked c = blank _ c.put_u16.new.bytes c.put_u16-2.new.bytes c.put_u16-3.new.bytes c.put_u16-4.new.bytes refl c.put_u16.ensures c.put_u16-2.ensures c.put_u16-3.ensures c.put_u16-4.ensures

pub invariant_of-result : goal.invariant_of-result
invariant_of-result c = ((blanked c).sound, lying-bare_page c.put_u16-4.new.bytes 0 (blanked c).sound refl (blanked c).upper)

pub returns-clause-change : goal.returns-clause-change
returns-clause-change c = (blanked c).change

pub returns-clause-flags : goal.returns-clause-flags
returns-clause-flags c = (blanked c).flags

pub returns-clause-places : goal.returns-clause-places
returns-clause-places c = ap (λ (u : ℕ). let p : VersionPlaces = record { starts = []; upper = u } in p) (blanked c).upper
