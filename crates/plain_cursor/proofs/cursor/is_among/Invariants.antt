use Rattle.std.proofs.Common.{◌≡◌, take, false, nat_eq}
use Rattle.std.specs.List.{list_any}
use Rattle.plain_cursor.proofs.cursor.is_among.Given as goal

abbrev pub invariant-loop-taken : goal.invariant-loop-taken
invariant-loop-taken l = list_any (λ taken. nat_eq taken l.key) (take l.taken-index l.keys) ≡ false
