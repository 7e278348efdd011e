-- What a vacuum's step did, as C reads it.
use Rattle.std.specs.Prelude.{◌≡◌, ℕ, Bool, true, false, Option, Some, None}
use Rattle.calls.specs.declared.vacuum.Mode.{Mode}
use Rattle.calls.specs.declared.vacuum.Mode.TheVariants.{Normal, Aggressive}
use Rattle.calls.specs.declared.step.Step.TheVariants as step
use Rattle.calls.specs.declared.reply.Reply.{Reply}
use Rattle.calls.specs.declared.reply.Reply.TheVariants as reply
use Rattle.c_handles.specs.declared.database.Sandpiper.{Sandpiper}
use Rattle.c_views.specs.declared.piece.SandpiperPiece.{SandpiperPiece}
use Rattle.c_views.specs.Pieces.{shown_piece}
use Rattle.sandpiper_c.specs.Calls.{held_by, ShowsHeld}

abbrev pub mode_of : Bool → Mode
mode_of true = Aggressive
mode_of false = Normal

-- what a reply, if there is one, says of the vacuum: what it did, or that it has ended, and the oldest id that is remembered
abbrev pub piece_in : Option Reply → Option SandpiperPiece
piece_in (Some (reply.Worked did)) = Some (shown_piece did)
piece_in (Some (reply.Ended oldest)) = Some (record { kind = 0; number = 0; oldest = oldest })
piece_in answer = None

-- C's place has it, if there is something, and is else as it was
abbrev pub ShowsPiece : Option SandpiperPiece → SandpiperPiece → SandpiperPiece → Type 0
ShowsPiece None old new = new ≡ old
ShowsPiece (Some shown) old new = new ≡ shown

-- the vacuum does its next step, and C's place shows what it did
abbrev pub StepsVacuum : Sandpiper → SandpiperPiece → (code : ℕ) → SandpiperPiece → Sandpiper → Type 0
StepsVacuum old place code after new = ShowsHeld (held_by old) step.VacuumStep code (held_by new) (λ reply. ShowsPiece (piece_in reply) place after)
