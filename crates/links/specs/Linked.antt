-- Graphs of at most 64 nodes by their arcs.
use Rattle.std.specs.Prelude.{◌≡◌, Bool, false, ◌||◌, ◌&&◌, ℕ, ◌<◌, eqb, [], slice_index_or}
use Rattle.links.specs.declared.arcs.Links.{Links}

-- how many nodes there are
abbrev pub nodes : Links → ℕ
nodes g = g.count

-- does a need b?
abbrev pub linked : Links → ℕ → ℕ → Bool
linked g a b = slice_index_or (slice_index_or g.arcs a []) b false

-- of the nodes, a needs b now, and every other need is as it was
abbrev pub Added : Links → ℕ → ℕ → Links → Type 0
Added g a b g' = (x y : ℕ) → x < nodes g → y < nodes g → linked g' x y ≡ (linked g x y || (eqb x a && eqb y b))
