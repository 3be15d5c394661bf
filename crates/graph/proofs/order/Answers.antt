-- The grid of who reaches whom shows the least node on a circle, or that no node is on one and the nodes by rank are an order.
use Rattle.std.proofs.Common.{vec_items, ◌∙◌, rules}
use Rattle.graph.proofs.Found.{circle_found, order_found}
use Rattle.graph.proofs.Lengths.{order_length}
use Rattle.graph.proofs.order.Goals as goal

pub returns-in-Some : goal.returns-in-Some
returns-in-Some g c =
    let found = c.in-Some.ensures.found in
    let before = c.in-Some.ensures.before in
    circle_found (vec_items c.in_ok-rows.rows.rows) (g.G.Graph.size c.args.g.now) (g.G.Graph.wants c.args.g.now) c.in_ok-rows.ensures _ (search rules) (search rules) (search rules)

pub returns : goal.returns
returns g c =
    let found = order_found (vec_items c.in_ok-rows.rows.rows) (g.G.Graph.size c.args.g.now) (g.G.Graph.wants c.args.g.now) c.in_ok-rows.ensures c.in_default.ensures.before c.as_slice.result.now _ (c.as_slice.ensures.value ∙ c.in_ok-ranks.ensures) c.in_ok-by_rank.ensures in
    (found.0, found.1, c.in_ok-by_rank.field-0.ok.0 ∙ order_length _ _ _ found.0)
