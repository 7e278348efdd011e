use Rattle.std.proofs.Common.{◌≡◌, take, drop}
use Rattle.transcript.specs.Cutting.{answer_in}
use Rattle.transcript.proofs.CuttingLaws.{passed_before}
use Rattle.transcript.proofs.cutting.answer_at.Given as goal

-- the answer does not end before i
abbrev pub invariant-loop-i : goal.invariant-loop-i
invariant-loop-i l = answer_in l.text ≡ passed_before (take l.i l.text) (answer_in (drop l.i l.text))
