-- The pieces that are left, after the least fault, the items and the bits so far, tell what the whole field tells. Where the count or the bits pass what their types hold, there are more than 31 bits.
use Rattle.std.proofs.Common.{◌≡◌, ℕ, ◌-◌, ◌^◌, ◌≤◌, min}
use Rattle.numbers.specs.Splits.{remaining}
use Rattle.numbers.specs.Answers.{Placed}
use Rattle.verdict.specs.Items.{expression}
use Rattle.items.specs.Least.{least_met, refused_by}
use Rattle.items.specs.Told.{counted}
use Rattle.items.proofs.Tallies.{tally}
use Rattle.items.proofs.expression.judge.Given as goal

abbrev pub invariant-loop-piece : goal.invariant-loop-piece
invariant-loop-piece l =
    (n : ℕ) × (b : ℕ) × (n ≤ b) × (l.count ≡ min n (2 ^ 64 - 1)) × (l.bits ≡ min b (2 ^ 32 - 1)) × Placed l.place (refused_by (least_met l.wrong))
    × (tally (least_met l.wrong) n b (remaining l.piece-iterator) ≡ counted (expression l.field))
