-- At most 31 binary digits say a word.
use Rattle.std.proofs.Common.{◌^◌, ◌<◌, arith}
use Rattle.std.proofs.lemmas.Grind.{common_steps}
use Rattle.numbers.specs.Capped.{told}
use Rattle.numbers.proofs.Bits.{binary_below}
use Rattle.numbers.proofs.word_of_bits.Goals as goal

pub returns-then-text-le-BITS-clause-judged : goal.returns-then-text-le-BITS-clause-judged
returns-then-text-le-BITS-clause-judged c =
    let low : told c.in_ok-value.value < 2 ^ 31 = binary_below _ c.args.text.now (omega arith) c.in_ok-value.ensures.judged in
    grind (arith, common_steps)
