-- What a step of a vacuum did, as C reads it.
use Rattle.calls.specs.declared.vacuum.Piece.{Piece}
use Rattle.calls.specs.declared.vacuum.Piece.TheVariants as piece
use Rattle.c_views.specs.declared.piece.SandpiperPiece.{SandpiperPiece}

abbrev pub shown_piece : Piece → SandpiperPiece
shown_piece (piece.Heap page) = record { kind = 1; number = page; oldest = 0 }
shown_piece (piece.Index index) = record { kind = 2; number = index; oldest = 0 }
shown_piece (piece.Free page) = record { kind = 3; number = page; oldest = 0 }
