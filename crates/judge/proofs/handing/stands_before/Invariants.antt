use Rattle.std.proofs.Common.{◌≡◌, ℕ, ◌<◌, Some, slice_get}
use Rattle.tuple_header.specs.declared.version.Row.{Row}
use Rattle.judge.proofs.handing.stands_before.Given as goal

abbrev pub invariant-loop-j : goal.invariant-loop-j
invariant-loop-j l = (k : ℕ) (a b : Row) → k < l.j → slice_get l.rows k ≡ Some a → slice_get l.rows l.i ≡ Some b → a.key ≡ b.key → ⊥
