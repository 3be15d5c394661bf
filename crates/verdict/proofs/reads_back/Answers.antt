use Rattle.verdict.proofs.ReadBack.{reads_back}
use Rattle.verdict.proofs.reads_back.Goals as goal

pub returns : goal.returns
returns c = reads_back
