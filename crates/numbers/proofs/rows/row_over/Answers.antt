-- A digit more leaves what all say.
use Rattle.std.proofs.Common.{rules}
use Rattle.numbers.proofs.Caps.{more_over}
use Rattle.numbers.proofs.rows.row_over.Goals as goal

pub loop-byte-preserved : goal.loop-byte-preserved
loop-byte-preserved c = more_over c.args.base c.loop-byte.byte-index c.in_ok-ok_or.field-0 c.args.text.now c.loop-byte-test.true (search rules) c.loop-byte.invariant
