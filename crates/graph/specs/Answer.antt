-- What `order` answers.
use Rattle.std.specs.Prelude.{◌≡◌, ℕ, Bool, List, Ok, Err, vec_items, vec_len, Result, Vec}
use Rattle.graph.specs.declared.OrderFault.{OrderFault}
use Rattle.graph.specs.declared.OrderFault.TheVariants.{Circle, Memory}
use Rattle.graph.specs.Needs.{Orders, NoCircle, LeastOnCircle}

-- the least node on a circle, and no order exists; or no memory
abbrev pub Faulty : ℕ → (ℕ → ℕ → Bool) → OrderFault → Type 0
Faulty n needs (Circle a) = LeastOnCircle n needs a × ((w : List ℕ) → Orders n needs w → ⊥)
Faulty n needs Memory = Unit {0}

-- an order, as long as there are nodes, and there is no circle; or why there is none
abbrev pub Answered : {Z : Type 0} → ℕ → (ℕ → ℕ → Bool) → Result (Vec ℕ Z) OrderFault → Type 0
Answered n needs (Ok v) = Orders n needs (vec_items v) × NoCircle n needs × (vec_len v ≡ n)
Answered n needs (Err f) = Faulty n needs f
