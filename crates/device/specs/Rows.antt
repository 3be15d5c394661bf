-- What a row of ports in storage means.
use Rattle.std.specs.Prelude.{List, map, slice_index_or}
use Rattle.device.specs.Meaning.{Port, Meaning, unserved}

-- port p is what stands at the place p of the row, and past its end the ports are unserved
abbrev pub row : {X : Type 0} → (X → Port) → List X → Meaning
row f xs = λ p. slice_index_or (map f xs) p unserved
