-- The macros that were passed need those that they use, and the others none yet.
use Rattle.std.proofs.Common.{◌≡◌, ℕ, ◌<◌, min, ◌&&◌, ltb, length}
use Rattle.links.specs.Linked.{nodes, linked}
use Rattle.verdict.specs.Verdict.{macro_needs}
use Rattle.macros.specs.Uses.{entries}
use Rattle.macros.proofs.needs.links_of.Given as goal

abbrev pub invariant-loop-from : goal.invariant-loop-from
invariant-loop-from l =
    (nodes l.links ≡ min (length l.table) 64)
    × ((x y : ℕ) → x < nodes l.links → y < nodes l.links → linked l.links x y ≡ (ltb x l.from && macro_needs (entries l.table) x y))
