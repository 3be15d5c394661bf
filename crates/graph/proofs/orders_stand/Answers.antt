-- The theorem is proved in Circles.
use Rattle.graph.proofs.Circles.{exactly}
use Rattle.graph.proofs.orders_stand.Goals as goal

pub returns : goal.returns
returns c = exactly
