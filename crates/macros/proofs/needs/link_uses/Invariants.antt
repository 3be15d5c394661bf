-- The macros that were passed are needed where the text uses them.
use Rattle.std.proofs.Common.{◌≡◌}
use Rattle.links.specs.Linked.{nodes}
use Rattle.macros.specs.Needs.{UsesAdded}
use Rattle.macros.specs.Uses.{entries}
use Rattle.macros.proofs.needs.link_uses.Given as goal

abbrev pub invariant-loop-to : goal.invariant-loop-to
invariant-loop-to l = (nodes l.links ≡ nodes l.initial.links) × UsesAdded l.initial.links l.from (entries l.table) l.text l.to l.links
