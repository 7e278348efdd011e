use Rattle.std.proofs.Common.{◌≡◌, ◌≤◌, ◌-◌, drop, take}
use Rattle.page_views.specs.View.{pages_behind, numbered}
use Rattle.session_core.proofs.views.share_pages.Given as goal

-- the pages before this number are shared, and nothing has changed
abbrev pub invariant-loop-number : goal.invariant-loop-number
invariant-loop-number l =
    (l.core ≡ l.fn.core) × (l.from ≤ l.number) × (l.number ≤ l.to)
    × (pages_behind l.pages.items ≡ numbered l.from (take (l.number - l.from) (drop l.from l.fn.core.heap.pages.pages)))
