-- What an expression is worth, where each part R shows the value `shown R`.
use Rattle.std.specs.Prelude.{ℕ, [], ◌∷◌}
use Rattle.word.specs.Places as place
use Rattle.verdict.specs.Items.{Item, constant, bits, Expression, width}

-- the low bits of a constant, or some bits of what a part shows
abbrev pub item_value : {R : Type 0} → (R → ℕ) → Item R → ℕ
item_value shown (constant v w) = place.low_bits w v
item_value shown (bits r b t) = place.bits_of b t (shown r)

-- the items one after the other, each behind what is there already
abbrev pub joined_after : {R : Type 0} → (R → ℕ) → ℕ → Expression R → ℕ
joined_after shown there [] = there
joined_after shown there (i ∷ is) = joined_after shown (place.behind there (width i) (item_value shown i)) is

-- the value of an expression: its items put together, the highest first
abbrev pub joined : {R : Type 0} → (R → ℕ) → Expression R → ℕ
joined shown e = joined_after shown 0 e
