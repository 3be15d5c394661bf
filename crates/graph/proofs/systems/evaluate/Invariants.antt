-- The slice holds the values of the stage that the index names.
use Rattle.std.proofs.Common.{get_or}
use Rattle.graph.proofs.Solutions.{Holds}
use Rattle.graph.proofs.systems.evaluate.Given as goal

abbrev pub invariant-loop-a : goal.invariant-loop-a
invariant-loop-a g l =
    Holds (g.S.System.unset l.s) (g.S.Graph.size l.s) (g.S.Graph.wants l.s) (g.S.System.rule l.s) l.order (g.met.S.System.local l.s) (λ b. get_or l.initial.values b (g.S.System.unset l.s)) l.a-index l.values
