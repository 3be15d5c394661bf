-- How many lines a run still prints at most.
use Rattle.std.specs.Prelude.{◌≡◌, ℕ, ◌+◌, ◌-◌, ◌*◌, max}
use Rattle.bench.specs.declared.transcript.Bench.{Bench}
use Rattle.bench.specs.declared.transcript.Stage.{Stage}
use Rattle.bench.specs.declared.transcript.Stage.TheVariants.{Line, Notes, Last, Over}

-- by what is printed next, and how many cycles are to come: a line and notes for each, and a last line
abbrev pub left_at : Stage → ℕ → ℕ
left_at Line cycles = max (2 * cycles + 1) 3
left_at Notes cycles = 2 * cycles + 2
left_at (Last ending) cycles = 1
left_at Over cycles = 0

abbrev pub lines_left : Bench → ℕ
lines_left bench = left_at bench.stage (bench.cycles - bench.board.cycle)

-- all is printed
abbrev pub IsOver : Bench → Type 0
IsOver bench = bench.stage ≡ Over
