-- The mask has each of the 31 low bits.
use Rattle.std.proofs.Common.{arith}
use lib.Bits.{and_mask}
use Rattle.word.proofs.value.Word.low.Goals as goal

pub returns : goal.returns
returns c = omega (arith, and_mask c.args.value 31)
