-- What is answered on names that others should have, and on an order of things.
use Rattle.std.specs.Prelude.{◌≡◌, ℕ, Bool, List, Ok, Err, vec_items, vec_len, Result, Vec, slice_index}
use Rattle.refusal.specs.Numbers.{number}
use Rattle.refusal.specs.declared.kinds.Failure.{Failure}
use Rattle.refusal.specs.declared.kinds.Failure.TheVariants.{Refused, NoMemory}
use Rattle.refusal.specs.declared.kinds.Fault.{Fault}
use Rattle.refusal.specs.declared.kinds.Refusal.{Refusal}
use Rattle.graph.specs.Needs.{Orders, NoCircle, LeastOnCircle}
use Rattle.verdict.specs.Verdict.{Read, read, refuse}

-- an answer as a judgement
abbrev pub told : Result Unit Fault → Read (Unit {0})
told (Ok u) = read tt
told (Err f) = refuse (number f.refusal) f.place

-- an order of all nodes, and none lies on a circle; or the least node on a circle, which is refused at its place, and no order exists
abbrev pub OrderOrCircle : {Z : Type 0} → ℕ → (ℕ → ℕ → Bool) → List ℕ → Refusal → Result (Vec ℕ Z) Failure → Type 0
OrderOrCircle n needs places r (Ok v) = Orders n needs (vec_items v) × NoCircle n needs × (vec_len v ≡ n)
OrderOrCircle n needs places r (Err (Refused f)) =
    (a : ℕ) × LeastOnCircle n needs a × ((w : List ℕ) → Orders n needs w → ⊥) × (f ≡ record { refusal = r; place = slice_index places a })
OrderOrCircle n needs places r (Err NoMemory) = Unit {0}
