use Rattle.bench.specs.Lines.{lines_left}
use Rattle.bench.proofs.transcript.Bench.print.Given as goal

abbrev pub decreases-loop-length : goal.decreases-loop-length
decreases-loop-length g l = lines_left l.self
