-- The bits of two words, joined by or or by exclusive or, are again bits of a word, so that the mask leaves them.
use Rattle.std.proofs.Common.{rules}
use lib.Bits.{or_lt, xor_lt}
use Rattle.word.proofs.functions.Function.apply.Goals as goal

pub returns : goal.returns
returns c =
    let or = or_lt 31 c.args.left.value c.args.right.value c.args.left.low c.args.right.low in
    let xor = xor_lt 31 c.args.left.value c.args.right.value c.args.left.low c.args.right.low in
    search rules
