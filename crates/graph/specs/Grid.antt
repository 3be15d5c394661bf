-- Square grids of truth values, as lists of rows.
use Rattle.std.specs.Prelude.{◌≡◌, ℕ, ◌<◌, Bool, false, ◌&&◌, ◌||◌, List, [], map, length, vec_items, Vec, slice_index_or}
use Rattle.std.specs.List.{range_with_len}

-- f 0, f 1, .., n of them
abbrev pub table : {X : Type 0} → ℕ → (ℕ → X) → List X
table n f = map f (range_with_len 0 n)

-- n rows of n places, with f i j in row i at place j
abbrev pub grid : ℕ → (ℕ → ℕ → Bool) → List (List Bool)
grid n f = table n (λ i. table n (f i))

-- what the rows hold
abbrev pub bits : {Z : Type 0} → List (Vec Bool Z) → List (List Bool)
bits rows = map vec_items rows

-- what stands in row i at place j
abbrev pub cell : List (List Bool) → ℕ → ℕ → Bool
cell g i j = slice_index_or (slice_index_or g i []) j false

-- each row is as long as there are rows
abbrev pub Square : List (List Bool) → Type 0
Square g = (i : ℕ) → i < length g → length (slice_index_or g i []) ≡ length g

-- from i to j, as f says, or through k
abbrev pub through : (ℕ → ℕ → Bool) → ℕ → ℕ → ℕ → Bool
through f k i j = f i j || (f i k && f k j)
