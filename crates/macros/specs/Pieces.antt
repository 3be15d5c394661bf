-- The pieces of a text as they are handed out.
use Rattle.std.specs.Prelude.{Bool, false, List}
use Rattle.scan.specs.Names.{Bytes, same}
use Rattle.verdict.specs.Macros.{Piece, plain, macro, pieces}
use Rattle.macros.specs.declared.pieces.TextPiece.{TextPiece}
use Rattle.macros.specs.declared.pieces.TextPiece.TheVariants.{Plain, Use}
use Rattle.macros.specs.declared.pieces.TextPieces.{TextPieces}

-- the piece that is meant
abbrev pub meant : TextPiece → Piece
meant (Plain b) = plain b
meant (Use name) = macro name.now

-- the pieces that are still to be handed out
abbrev pub remaining : TextPieces → List Piece
remaining s = pieces s.rest.now

-- is this piece a use of the name?
abbrev pub is_use_of : Bytes → Piece → Bool
is_use_of n (plain b) = false
is_use_of n (macro m) = same m n
