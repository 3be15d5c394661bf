-- The functions of an ALU: which code stands for which, and what each makes of a left and a right input.
use Rattle.std.specs.Prelude.{ℕ, ◌+◌, ◌-◌, ◌*◌, ◌%◌, ◌^◌, cond, List, [], ◌∷◌, ◌==◌, bit_and, bit_or, bit_xor, nat_lt, slice_index_or}
use Rattle.word.specs.declared.functions.Function.{Function}
use Rattle.word.specs.declared.functions.Function.TheVariants.{Zero, Right, Left, Not, Add, Subtract, Shift, Multiply, And, Or, ExclusiveOr, Equal, Less}

-- the functions by code, from 0 on: 11 stands for none
abbrev pub by_code : List Function
by_code =
    Zero ∷ Right ∷ Left ∷ Not ∷ Add ∷ Subtract ∷ Shift ∷ Multiply ∷ And ∷ Or ∷ ExclusiveOr ∷ Zero ∷ Equal ∷ Less ∷ []

-- the function of a code: a code past the last stands for none
abbrev pub function_of : ℕ → Function
function_of code = slice_index_or by_code code Zero

-- what a function makes of its left and its right input
abbrev pub apply : Function → ℕ → ℕ → ℕ
apply Zero l r = 0
apply Right l r = r
apply Left l r = l
apply Not l r = 2147483647 - l
apply Add l r = (l + r) % 2 ^ 31
apply Subtract l r = (l + (2 ^ 31 - r)) % 2 ^ 31
apply Shift l r = (l * 2 ^ (r % 32)) % 2 ^ 31
apply Multiply l r = (l * r) % 2 ^ 31
apply And l r = bit_and l r
apply Or l r = bit_or l r
apply ExclusiveOr l r = bit_xor l r
apply Equal l r = cond (l == r) 1 0
apply Less l r = cond (nat_lt l r) 1 0
