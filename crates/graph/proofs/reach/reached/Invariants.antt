-- After k rounds the grid says where chains lead whose inner nodes are below k.
use Rattle.std.proofs.Common.{◌≡◌, vec_items}
use Rattle.graph.specs.Grid.{grid, bits}
use Rattle.graph.specs.Reach.{reaches}
use Rattle.graph.proofs.reach.reached.Given as goal

abbrev pub invariant-loop-k : goal.invariant-loop-k
invariant-loop-k g l = bits (vec_items l.rows.rows) ≡ grid (g.G.Graph.size l.g) (reaches (g.G.Graph.wants l.g) l.k)
