-- Which words a reader of the pairs for one port has still to give.
use Rattle.std.specs.Prelude.{ℕ, List}
use Rattle.scan.specs.Reading.{left}
use Rattle.sheet.specs.Waiting.{waiting_at}
use Rattle.sheet.specs.declared.pairs.Waiting.{Waiting}

abbrev pub waits : Waiting → List ℕ
waits w = waiting_at w.port (left w.reader)
