-- The chain gathers the row of each node.
use Rattle.std.proofs.Common.{◌≡◌, vec_items, sym, arith, rules}
use Rattle.std.specs.List.{range_with_len}
use Rattle.std.proofs.lemmas.Iterator.{YieldsList-from_range}
use Rattle.graph.specs.Grid.{table, grid, bits}
use Rattle.graph.proofs.Gathering.{gathered}
use Rattle.graph.proofs.Grids.{rows_square}
use Rattle.graph.proofs.reach.first_rows.Goals as goal

gathers : (g : _) (c : goal.In_ok-rows g) → bits (vec_items c.in_ok-rows.rows) ≡ grid (g.G.Graph.size c.args.g.now) (g.G.Graph.wants c.args.g.now)
gathers g c =
    let n = g.G.Graph.size c.args.g.now in
    let ran = c.in_ok-rows.ensures.ran in
    gathered _ (λ x. x) _ (λ a. table n (g.G.Graph.wants c.args.g.now a)) _ (λ x r q k. (search rules, search rules)) _ (λ p x q k. (k.0, sym k.1, k.2.0))
    (range_with_len 0 n) (YieldsList-from_range 0 n n (search rules) (omega arith)) c.map.ensures.closure c.in_ok-rows.rows ran.0 ran.1 ran.2 ran.3.0 ran.4

pub invariant_of-result : goal.invariant_of-result
invariant_of-result g c =
    record { square = rows_square _ (g.G.Graph.size c.args.g.now) (g.G.Graph.wants c.args.g.now) (gathers g c) }

pub returns : goal.returns
returns g c = gathers g c.before
