-- Words are compared by their numbers.
use Rattle.std.specs.Cmp.Derive.Mapped.{pointwise-map}
use Rattle.std.proofs.Common.{rules}
use Rattle.device.proofs.taken.keeps.TakenPartialEq.eq.Goals as goal

pub returns : goal.returns
returns g c = search (rules, pointwise-map)
