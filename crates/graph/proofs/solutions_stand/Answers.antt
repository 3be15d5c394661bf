-- The theorem is proved in Solutions.
use Rattle.graph.proofs.Solutions as solutions
use Rattle.graph.proofs.solutions_stand.Goals as goal

pub returns : goal.returns
returns g c = solutions.solved
