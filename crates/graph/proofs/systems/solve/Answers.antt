-- `order` gives an order and that there is no circle, and `evaluate` along it the one solution.
use Rattle.std.proofs.Common.{◌≡◌, sym, ◌∙◌, subst}
use Rattle.std.proofs.lemmas.List.{with_items_is}
use Rattle.graph.specs.Solve.{OneSolution}
use Rattle.graph.proofs.systems.solve.Goals as goal

pub returns : goal.returns
returns g c =
    let s = c.args.s.now in
    let found = c.evaluate.ensures in
    let values = c.in_ok-values.values in
    let long : values.len ≡ g.S.Graph.size s = c.in_ok-values.ensures.len ∙ c.nodes.ensures in
    let is = with_items_is values c.evaluate.new.values (found.long ∙ sym long) in
    (subst (OneSolution (g.S.System.unset s) (g.S.Graph.size s) (g.S.System.rule s)) (sym is) found, c.in_ok-order.ensures.1, long)
