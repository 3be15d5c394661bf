use Rattle.verdict.proofs.Numbered.{blanks_mean_nothing}
use Rattle.verdict.proofs.blanks_mean_nothing.Goals as goal

pub returns : goal.returns
returns c = blanks_mean_nothing
