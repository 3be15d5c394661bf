-- Finite graphs: nodes that need one another, circles and orders. A graph is `n`, the number of its nodes, which are the numbers
-- below n, and `needs`, which tells of two nodes whether the first needs the second.
use Rattle.std.specs.Prelude.{◌≡◌, ℕ, ◌<◌, Bool, true, List, [], ◌∷◌, length, slice_index}

-- an arc: a and b are nodes, and a needs b
abbrev pub Arc : ℕ → (ℕ → ℕ → Bool) → ℕ → ℕ → Type 0
Arc n needs a b = (a < n) × (b < n) × (needs a b ≡ true)

-- a chain: a first, then the nodes of the list, then b, and each but b needs the one behind it
abbrev pub Chain : ℕ → (ℕ → ℕ → Bool) → ℕ → List ℕ → ℕ → Type 0
Chain n needs a [] b = Arc n needs a b
Chain n needs a (x ∷ xs) b = Arc n needs a x × Chain n needs x xs b

-- a node lies on a circle: some chain leads from it back to itself
abbrev pub OnCircle : ℕ → (ℕ → ℕ → Bool) → ℕ → Type 0
OnCircle n needs a = (xs : List ℕ) × Chain n needs a xs a

-- no circle: no node lies on one
abbrev pub NoCircle : ℕ → (ℕ → ℕ → Bool) → Type 0
NoCircle n needs = (a : ℕ) → OnCircle n needs a → ⊥

-- the least node on a circle: a lies on one, and no smaller node does
pub record LeastOnCircle (n : ℕ) (needs : ℕ → ℕ → Bool) (a : ℕ) : Type 0 where
  pub circle : OnCircle n needs a
  pub least : (b : ℕ) → b < a → OnCircle n needs b → ⊥

-- an order: v lists nodes only, each node, none twice, and each after all those that it needs
pub record Orders (n : ℕ) (needs : ℕ → ℕ → Bool) (v : List ℕ) : Type 0 where
  pub within : (i : ℕ) → i < length v → slice_index v i < n
  pub each : (a : ℕ) → a < n → (i : ℕ) × (i < length v) × (slice_index v i ≡ a)
  pub once : (i j : ℕ) → i < length v → j < length v → slice_index v i ≡ slice_index v j → i ≡ j
  pub after : (i j : ℕ) → i < length v → j < length v → needs (slice_index v i) (slice_index v j) ≡ true → j < i

-- an order exists exactly if there is no circle
abbrev pub Exactly : Type 0
Exactly =
    (n : ℕ) (needs : ℕ → ℕ → Bool) →
    (((v : List ℕ) × Orders n needs v) → NoCircle n needs) × (NoCircle n needs → (v : List ℕ) × Orders n needs v)
