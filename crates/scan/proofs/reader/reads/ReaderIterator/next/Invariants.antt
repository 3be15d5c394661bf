-- The bytes that are passed in the loop end no word.
use Rattle.std.proofs.Common.{◌≡◌, ◌-◌, length}
use Rattle.scan.specs.Reading.{left}
use Rattle.scan.proofs.reader.reads.ReaderIterator.next.Given as goal

abbrev pub invariant-loop-byte : goal.invariant-loop-byte
invariant-loop-byte l = (l.self.text.now ≡ l.initial.self.text.now) × (left l.self ≡ left l.initial.self)

abbrev pub decreases-loop-byte : goal.decreases-loop-byte
decreases-loop-byte l = length l.self.text.now - l.self.at
