-- The pairs that are passed are for other ports.
use Rattle.std.proofs.Common.{◌≡◌, length}
use Rattle.scan.specs.Reading.{left}
use Rattle.sheet.specs.Waits.{waits}
use Rattle.sheet.proofs.pairs.WaitingIterator.next.Given as goal

abbrev pub invariant-loop-to : goal.invariant-loop-to
invariant-loop-to l = (l.self.port ≡ l.initial.self.port) × (waits l.self ≡ waits l.initial.self)

abbrev pub decreases-loop-to : goal.decreases-loop-to
decreases-loop-to l = length (left l.self.reader)
