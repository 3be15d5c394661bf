-- Systems of equations over the nodes of a graph, one for each node, their solutions, and evaluation along a list of nodes.
-- `eq a s` is the value that the equation of node a gives where each node b has the value `s b`.
use Rattle.std.specs.Prelude.{◌≡◌, ℕ, zero, suc, ◌<◌, Bool, true, cond, List, length, get_or, ◌==◌, slice_index, slice_index_or}
use Rattle.graph.specs.Needs.{Orders}

-- the equation of a node depends only on the values of the nodes that it needs
abbrev pub Local : {X : Type 0} → ℕ → (ℕ → ℕ → Bool) → (ℕ → (ℕ → X) → X) → Type 0
Local {X} n needs eq =
    (a : ℕ) (s t : ℕ → X) → a < n → ((b : ℕ) → b < n → needs a b ≡ true → s b ≡ t b) → eq a s ≡ eq a t

-- a solution: each node has the value that its equation gives
abbrev pub Solves : {X : Type 0} → ℕ → (ℕ → (ℕ → X) → X) → (ℕ → X) → Type 0
Solves n eq s = (a : ℕ) → a < n → s a ≡ eq a s

-- the one solution, as a list: it has a value for each node, they solve the equations, and every solution has the same values.
-- d stands for what is past the end of the list
pub record OneSolution {X : Type 0} (d : X) (n : ℕ) (eq : ℕ → (ℕ → X) → X) (values : List X) : Type 0 where
  pub long : length values ≡ n
  pub solves : Solves n eq (λ b. get_or values b d)
  pub alone : (t : ℕ → X) → Solves n eq t → (a : ℕ) → a < n → t a ≡ slice_index_or values a d

-- some nodes have a value given, and the others an equation
abbrev pub with_given : {X : Type 0} → (ℕ → Bool) → (ℕ → X) → (ℕ → (ℕ → X) → X) → ℕ → (ℕ → X) → X
with_given fixed given eq a s = cond (fixed a) (given a) (eq a s)

-- the values s, with x for node a
abbrev pub put : {X : Type 0} → (ℕ → X) → ℕ → X → ℕ → X
put s a x b = cond (b == a) x (s b)

-- the values s, once the first k nodes of v were evaluated one after the other
abbrev pub stage : {X : Type 0} → (ℕ → (ℕ → X) → X) → List ℕ → (ℕ → X) → ℕ → ℕ → X
stage eq v s zero = s
stage eq v s (suc k) = put (stage eq v s k) (slice_index v k) (eq (slice_index v k) (stage eq v s k))

-- the values s, once all nodes of v were evaluated
abbrev pub evaluated : {X : Type 0} → (ℕ → (ℕ → X) → X) → List ℕ → (ℕ → X) → ℕ → X
evaluated eq v s = stage eq v s (length v)

-- some nodes have a value given, and each other an equation over the nodes that it needs: evaluation along an order solves them,
-- whatever the values were at first, and nothing else does
abbrev pub Solved : Type 0 → Type 0
Solved X =
    (n : ℕ) (needs : ℕ → ℕ → Bool) (fixed : ℕ → Bool) (given : ℕ → X) (eq : ℕ → (ℕ → X) → X) (v : List ℕ) → Local n needs eq → Orders n needs v →
    ((s : ℕ → X) → Solves n (with_given fixed given eq) (evaluated (with_given fixed given eq) v s))
    × ((s t : ℕ → X) → Solves n (with_given fixed given eq) s → Solves n (with_given fixed given eq) t → (a : ℕ) → a < n → s a ≡ t a)
