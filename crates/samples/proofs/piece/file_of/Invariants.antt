use Rattle.std.proofs.Common.{◌≡◌, take}
use Rattle.samples.specs.Pieces.{file_of}
use Rattle.samples.proofs.piece.file_of.Given as goal

abbrev pub invariant-loop-piece : goal.invariant-loop-piece
invariant-loop-piece l = l.file.items ≡ file_of (take l.piece-index l.pieces)
