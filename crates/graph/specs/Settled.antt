-- What `solve` answers.
use Rattle.std.specs.Prelude.{◌≡◌, ℕ, Bool, Ok, Err, vec_items, vec_len, Result, Vec}
use Rattle.graph.specs.declared.OrderFault.{OrderFault}
use Rattle.graph.specs.Answer.{Faulty}
use Rattle.graph.specs.Needs.{NoCircle}
use Rattle.graph.specs.Solve.{OneSolution}

-- the one solution, a value for each node, and there is no circle; or why there is no order
abbrev pub Settled : {X Z : Type 0} → X → ℕ → (ℕ → ℕ → Bool) → (ℕ → (ℕ → X) → X) → Result (Vec X Z) OrderFault → Type 0
Settled d n needs eq (Ok v) = OneSolution d n eq (vec_items v) × NoCircle n needs × (vec_len v ≡ n)
Settled d n needs eq (Err f) = Faulty n needs f
