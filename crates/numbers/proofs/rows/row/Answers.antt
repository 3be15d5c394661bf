-- Where a digit makes more than 32 bits hold, the digits behind it are read for faults alone.
use Rattle.std.proofs.Common.{rules, ◌∙◌}
use Rattle.numbers.proofs.Caps.{passed}
use Rattle.numbers.proofs.rows.row.Goals as goal

pub returns-in-None-clause-judged : goal.returns-in-None-clause-judged
returns-in-None-clause-judged c =
    c.row_over.ensures.judged ∙ passed c.args.base c.loop-at.at c.in_ok-digit.digit c.loop-at.value c.args.text.now c.loop-at-test.true (search rules) c.in-None.ensures c.loop-at.invariant
