-- The bits of a number by their places, of which 0 is the lowest, and numbers put behind others.
use Rattle.std.specs.Prelude.{ℕ, ◌+◌, ◌-◌, ◌*◌, ◌/◌, ◌%◌, ◌^◌}

-- the low bits of a number, as many as the width says
abbrev pub low_bits : ℕ → ℕ → ℕ
low_bits width n = n % 2 ^ width

-- how many places there are from `first` through `last`
abbrev pub width_of : ℕ → ℕ → ℕ
width_of first last = last + 1 - first

-- the bits of a number from the place `first` through the place `last`
abbrev pub bits_of : ℕ → ℕ → ℕ → ℕ
bits_of first last n = low_bits (width_of first last) (n / 2 ^ first)

-- an item of some width, put behind what is there
abbrev pub behind : ℕ → ℕ → ℕ → ℕ
behind there width item = there * 2 ^ width + item
