-- Which nodes of a finite graph lie on a circle, by computation.
use Rattle.std.specs.Prelude.{ℕ, zero, suc, Bool, false, cond, ◌||◌, List, [], ◌∷◌, map, slice_index_or}
use Rattle.std.specs.List.{range_with_len}
use Rattle.graph.specs.Grid.{grid, cell}

-- two rows, place by place
abbrev pub either : List Bool → List Bool → List Bool
either [] ys = []
either (x ∷ xs) [] = x ∷ xs
either (x ∷ xs) (y ∷ ys) = (x || y) ∷ either xs ys

-- what a node reaches also by way of the node k: if it reaches k, all that k reaches, the row `from`
abbrev pub by_way_of : ℕ → List Bool → List Bool → List Bool
by_way_of k from row =
    let more = either row from in
    cond (slice_index_or row k false) more row

-- row i tells at place j whether a chain leads from i to j whose inner nodes are below k
abbrev pub closed : ℕ → (ℕ → ℕ → Bool) → ℕ → List (List Bool)
closed n needs zero = grid n needs
closed n needs (suc k) =
    let g = closed n needs k in
    map (by_way_of k (slice_index_or g k [])) g

-- for each of the nodes of a list: does it lie on a circle?
abbrev pub circular : List (List Bool) → List ℕ → List Bool
circular g is = map (λ i. cell g i i) is

-- for each of the nodes 0 .. n - 1
abbrev pub on_circle : ℕ → (ℕ → ℕ → Bool) → List Bool
on_circle n needs = circular (closed n needs n) (range_with_len 0 n)
