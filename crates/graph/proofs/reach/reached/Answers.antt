-- Each round lets one inner node more in, and after all rounds every chain is counted.
use Rattle.std.proofs.Common.{◌≡◌, vec_items, ◌∙◌, subst, arith}
use Rattle.graph.specs.Grid.{bits, grid}
use Rattle.graph.specs.Reach.{reaches}
use Rattle.graph.proofs.Grids.{rows_length, grid_next}
use Rattle.graph.proofs.reach.reached.Goals as goal

pub next-requires : goal.next-requires
next-requires g c =
    let n = g.G.Graph.size c.args.g.now in
    let f = reaches (g.G.Graph.wants c.args.g.now) c.loop-k.k in
    omega (arith, rows_length _ n f c.loop-k.invariant, c.nodes-k-end.ensures, c.loop-k-test.true)

pub loop-k-preserved : goal.loop-k-preserved
loop-k-preserved g c =
    let n = g.G.Graph.size c.args.g.now in
    let needs = g.G.Graph.wants c.args.g.now in
    c.in_ok-rows-2.ensures ∙ grid_next _ n needs c.loop-k.k c.loop-k.invariant (omega (arith, c.nodes-k-end.ensures, c.loop-k-test.true))

pub returns : goal.returns
returns g c =
    let n = g.G.Graph.size c.args.g.now in
    let needs = g.G.Graph.wants c.args.g.now in
    let all : c.loop-k.k ≡ n = omega (arith, c.nodes-k-end.ensures, c.loop-k-test.false, c.loop-k.auto.k-end) in
    subst (λ k. bits (vec_items c.loop-k.rows.rows) ≡ grid n (reaches needs k)) all c.loop-k.invariant
