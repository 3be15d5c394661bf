-- The digits that are left, after the value so far, say up to the cap what all digits say.
use Rattle.std.proofs.Common.{◌≡◌, drop}
use Rattle.numbers.specs.Numbers.{digits_after, digits}
use Rattle.numbers.specs.Capped.{capped, size}
use Rattle.numbers.proofs.rows.row.Given as goal

abbrev pub invariant-loop-at : goal.invariant-loop-at
invariant-loop-at l = capped (digits_after (size l.base) l.value (drop l.at l.text)) ≡ capped (digits (size l.base) l.text)
