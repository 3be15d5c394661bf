-- What a buffer holds once bytes are written into it.
use Rattle.std.specs.Prelude.{◌≡◌, ℕ, ◌+◌, min, List, [], ◌∷◌, length, slice_set}

-- the buffer once the bytes are written from the place `at` on; what is past its end is not written
abbrev pub laid : ℕ → List ℕ → List ℕ → List ℕ
laid at [] out = out
laid at (b ∷ bs) out = laid (at + 1) bs (slice_set out at b)

-- bytes were written at a place of `out`, which is `out'` then, and `r` is the place after them, or the highest of the machine
pub record Put (at : ℕ) (bytes out out' : List ℕ) (r : ℕ) : Type 0 where
  pub after : r ≡ min (at + length bytes) 18446744073709551615
  pub holds : out' ≡ laid at bytes out
