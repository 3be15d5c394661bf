-- A mask of the low bits leaves the remainder by a power of two.
use lib.Bits.{and_mask}
use Rattle.word.proofs.width.Width.low.Goals as goal

pub returns : goal.returns
returns c = cc (and_mask c.args.word.value c.args.self.bits)
