use Rattle.verdict.proofs.Circular.{circular_exactly}
use Rattle.verdict.proofs.circular_exactly.Goals as goal

pub returns : goal.returns
returns c = circular_exactly
