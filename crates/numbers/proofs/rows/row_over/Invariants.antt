-- The digits that are left say what all of them say.
use Rattle.std.proofs.Common.{◌≡◌, drop}
use Rattle.numbers.specs.Numbers.{digits_after}
use Rattle.numbers.specs.Capped.{capped, size}
use Rattle.numbers.proofs.rows.row_over.Given as goal

abbrev pub invariant-loop-byte : goal.invariant-loop-byte
invariant-loop-byte l = capped (digits_after (size l.base) 2147483648 (drop l.byte-index l.text)) ≡ capped (digits_after (size l.base) 2147483648 l.text)
