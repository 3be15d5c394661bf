use Rattle.verdict.proofs.Theorem.{lines_mean_nothing}
use Rattle.verdict.proofs.lines_mean_nothing.Goals as goal

pub returns : goal.returns
returns c = lines_mean_nothing
