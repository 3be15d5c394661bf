use Rattle.verdict.proofs.Uses.{macros_put_in}
use Rattle.verdict.proofs.macros_put_in.Goals as goal

pub returns : goal.returns
returns c = macros_put_in
