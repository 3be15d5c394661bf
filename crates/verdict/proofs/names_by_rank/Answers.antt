use Rattle.verdict.proofs.Ranks.{names_by_rank}
use Rattle.verdict.proofs.names_by_rank.Goals as goal

pub returns : goal.returns
returns c = names_by_rank
