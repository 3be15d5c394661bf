-- The terms that are left, added to the sum so far, say what all terms say.
use Rattle.std.proofs.Common.{◌≡◌}
use Rattle.numbers.specs.Splits.{remaining}
use Rattle.numbers.specs.Numbers.{number}
use Rattle.numbers.specs.Capped.{told}
use Rattle.numbers.proofs.Sums.{tally}
use Rattle.numbers.proofs.word_of_sum.Given as goal

abbrev pub invariant-loop-piece : goal.invariant-loop-piece
invariant-loop-piece l = tally (told l.total) (remaining l.piece-iterator) ≡ number l.text
