-- A number that is moved by a width has no bit in common with a number of that width, so that their or is their sum.
use Rattle.std.proofs.Common.{◌≡◌, ℕ, ◌+◌, ◌*◌, ◌%◌, ◌^◌, ◌<◌, sym, ap, ◌∙◌, mod-lt, mod-eq_of_lt, pow_pos}
use lib.Bits.{bit_or, or_mod, or_shifted}
use lib.Pow.{mod-mod-pow}

-- bits past 31 make no difference to the low 31 bits of an or
or_narrow : (a b : ℕ) → bit_or (a % 2 ^ 32) b % 2 ^ 31 ≡ bit_or a b % 2 ^ 31
or_narrow a b =
    or_mod (a % 2 ^ 32) b 31 ∙ ap (λ (x : ℕ). bit_or x (b % 2 ^ 31)) (mod-mod-pow a 1 31) ∙ sym (or_mod a b 31)

-- what a shift and an or make, kept to 31 bits
pub joined : (there width item : ℕ)
    → bit_or (there * 2 ^ width % 2 ^ 32) (item % 2 ^ width) % 2 ^ 31 ≡ (there * 2 ^ width + item % 2 ^ width) % 2 ^ 31
joined there width item =
    or_narrow (there * 2 ^ width) (item % 2 ^ width)
    ∙ ap (λ (x : ℕ). x % 2 ^ 31) (or_shifted there width (item % 2 ^ width) (mod-lt item (pow_pos width)))

-- where the item has the width and all fits, nothing is cut off
pub fits : (there width item : ℕ)
    → item < 2 ^ width
    → there * 2 ^ width + item < 2 ^ 31
    → (there * 2 ^ width + item % 2 ^ width) % 2 ^ 31 ≡ there * 2 ^ width + item
fits there width item narrow low =
    ap (λ (x : ℕ). (there * 2 ^ width + x) % 2 ^ 31) (mod-eq_of_lt narrow) ∙ mod-eq_of_lt low
