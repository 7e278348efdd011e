use Rattle.std.proofs.Common.{◌≡◌, ◌+◌}
use Rattle.page_sheet.proofs.RedirectCounts.{IsCounted}
use Rattle.page_sheet.proofs.sheet.Sheet.is_redirected.Given as goal

abbrev pub invariant-loop-index : goal.invariant-loop-index
invariant-loop-index l = IsCounted l.self-inside.bytes l.number l.index l.found × (l.sought ≡ l.number + 65536)
