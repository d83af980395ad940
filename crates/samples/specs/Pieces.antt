-- Book files put together from pieces. Assumes nothing.
use Rattle.std.specs.Prelude.{ℕ, List, [], ◌∷◌, ◌++◌, take}
use Rattle.std.specs.List.{flat_map}
use Rattle.files.specs.Encoding.{head_kind, entry_kind, link_kind, framed}
use Rattle.kinds.specs.Payloads.{two_bytes}
use Rattle.samples.specs.declared.piece.Piece.{Piece}
use Rattle.samples.specs.declared.piece.Piece.TheVariants.{Head, Name, Day, Link, Bytes}

-- a piece is a record, or bytes as they stand; of a name of more than 255 bytes its front is taken
abbrev pub piece_bytes : Piece → List ℕ
piece_bytes (Head number) = framed head_kind (two_bytes number)
piece_bytes (Name text) = framed entry_kind (take 255 text.now)
piece_bytes (Day calendar year month date) = framed entry_kind (calendar ∷ two_bytes year ++ (month ∷ date ∷ []))
piece_bytes (Link from letter to) = framed link_kind (from ∷ letter ∷ to ∷ [])
piece_bytes (Bytes bytes) = bytes.now

-- the pieces one after another
abbrev pub file_of : List Piece → List ℕ
file_of pieces = flat_map piece_bytes pieces
