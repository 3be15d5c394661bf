-- What a span marks in a flat list.
use Rattle.std.specs.Prelude.{◌-◌, List, take, drop}
use Rattle.circuit.specs.declared.parts.Span.{Span}

-- the elements from the span's start up to its end, as far as the list goes
abbrev pub row : {X : Type 0} → List X → Span → List X
row xs s = take (s.end - s.start) (drop s.start xs)
