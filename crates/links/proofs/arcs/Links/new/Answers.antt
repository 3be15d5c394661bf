-- Rows of one value have that value at every place.
use Rattle.std.proofs.Common.{arith}
use Rattle.links.proofs.Cells.{cells_of_one, rows_of_one}
use Rattle.links.proofs.arcs.Links.new.Goals as goal

pub invariant_of-result : goal.invariant_of-result
invariant_of-result c = record { few = omega (arith, c.min.ensures); wide = rows_of_one 64 64 }

pub returns-clause-arcs : goal.returns-clause-arcs
returns-clause-arcs c = cells_of_one 64 64
