-- The three steps that write a key, as one kind.
use Rattle.std.specs.Prelude.{◌≡◌, ℕ, ◌<◌, length, Option, None, IsSome}
use Rattle.tuple_header.specs.declared.version.Row.{Row}
use Rattle.calls.specs.declared.step.Step.{Step}
use Rattle.calls.specs.declared.step.Step.TheVariants as step
use Rattle.calls.specs.Words.{RowToWrite, FitsRow}

-- a write: a row of a key that has none, another row of a key that has one, or that a key has none any more
pub data WriteStep : Type 0 where
  inserts : RowToWrite → WriteStep
  updates : RowToWrite → WriteStep
  deletes : ℕ → WriteStep

abbrev pub step_of : ℕ → WriteStep → Step
step_of s (inserts row) = step.Insert s row
step_of s (updates row) = step.Update s row
step_of s (deletes k) = step.Delete s k

abbrev pub key_of : WriteStep → ℕ
key_of (inserts row) = row.key
key_of (updates row) = row.key
key_of (deletes k) = k

-- the step has a row whose body is not empty, or a plan that names a slot: a copy of no other takes memory
abbrev pub HasBody : Step → Type 0
HasBody (step.Insert s row) = 0 < length row.body
HasBody (step.Update s row) = 0 < length row.body
HasBody (step.ApplyPlan p plan) = 0 < length plan.actions
HasBody step = ⊥

-- the row that is found of its key, or that there is none, is what it asks for, and the row that it puts fits
abbrev pub Asks : WriteStep → Option Row → Type 0
Asks (inserts row) found = FitsRow row × (found ≡ None)
Asks (updates row) found = FitsRow row × IsSome found
Asks (deletes k) found = IsSome found
