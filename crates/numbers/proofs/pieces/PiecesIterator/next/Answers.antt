-- The first separator of what is left ends the piece; with none, all that is left is the piece.
use Rattle.std.proofs.Common.{rules, sym}
use Rattle.numbers.proofs.Cuts.{left_none, left_at}
use Rattle.numbers.proofs.pieces.PiecesIterator.next.Goals as goal

pub returns-in-Some : goal.returns-in-Some
returns-in-Some c =
    let hands = left_at _ _ _ _ c.in_ok-rest.was (sym c.in-Some.ensures) in
    search rules

pub returns-in-None : goal.returns-in-None
returns-in-None c =
    let hands = left_none _ _ _ c.in_ok-rest.was (sym c.in-None.ensures) in
    search rules
