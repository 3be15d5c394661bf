-- Each turn writes the value of the next node of the order, and after the last the stage is the one solution.
use Rattle.std.proofs.Common.{◌≡◌, ℕ, length, get_or, refl, subst, arith, rules}
use Rattle.graph.proofs.Solutions.{Holds, holds_more, holds_one}
use Rattle.graph.proofs.systems.evaluate.Goals as goal

pub loop-a-preserved : goal.loop-a-preserved
loop-a-preserved g c =
    let s = c.args.s.now in
    let a = get_or c.args.order.now c.loop-a.a-index 0 in
    holds_more (g.S.System.unset s) (g.S.Graph.size s) (g.S.Graph.wants s) (g.S.System.rule s) c.args.order.now (g.met.S.System.local s) (λ b. get_or c.args.values.now b (g.S.System.unset s)) c.loop-a.a-index _ a _ (c.requires.ordered.within c.loop-a.a-index c.loop-a-test.true) refl c.loop-a.invariant (search rules)

pub returns : goal.returns
returns g c =
    let s = c.args.s.now in
    let order = c.args.order.now in
    let start = λ (b : ℕ). get_or c.args.values.now b (g.S.System.unset s) in
    let all : c.loop-a.a-index ≡ length order = omega (arith, c.loop-a-test.false, c.loop-a.auto.a-index-end) in
    let end = subst (λ k. Holds (g.S.System.unset s) (g.S.Graph.size s) (g.S.Graph.wants s) (g.S.System.rule s) order (g.met.S.System.local s) start k c.loop-a.values) all c.loop-a.invariant in
    holds_one (g.S.System.unset s) (g.S.Graph.size s) (g.S.Graph.wants s) (g.S.System.rule s) order (g.met.S.System.local s) start c.requires.ordered _ end
