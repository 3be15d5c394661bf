-- The run is the first part of the text.
use Rattle.std.proofs.Common.{sym, arith}
use Rattle.macros.proofs.Runs.{run_short, leading_is}
use Rattle.macros.proofs.uses.leading_name.Goals as goal

pub slice_bounds-result-end : goal.slice_bounds-result-end
slice_bounds-result-end c = omega (arith, run_short c.args.text.now)

pub returns-in-len1-up : goal.returns-in-len1-up
returns-in-len1-up c = leading_is c.args.text.now c.run_length.result (sym c.if-is_letter.ensures) c.run_length.ensures
