-- Each function makes a word of words, by its own bound; a code past the table stands for none, since the table has 14 places.
use Rattle.std.proofs.Common.{◌≡◌, ℕ, ◌^◌, ◌<◌, Bool, true, false, cond, eqb, ltb, mod-lt, arith, pow_pos}
use lib.Bits.{and_lt, or_lt, xor_lt}
use lib.ListN.{get_or-eq_default}
use Rattle.word.specs.Functions.{function_of, apply, by_code}
use Rattle.word.specs.declared.functions.Function.{Function}
use Rattle.word.specs.declared.functions.Function.TheVariants.{Zero, Right, Left, Not, Add, Subtract, Shift, Multiply, And, Or, ExclusiveOr, Equal, Less}

flag : (b : Bool) → cond b 1 0 < 2 ^ 31
flag true = omega arith
flag false = omega arith

pub apply_word : (f : Function) (l r : ℕ) → l < 2 ^ 31 → r < 2 ^ 31 → apply f l r < 2 ^ 31
apply_word Zero l r p q = omega arith
apply_word Right l r p q = q
apply_word Left l r p q = p
apply_word Not l r p q = omega arith
apply_word Add l r p q = omega arith
apply_word Subtract l r p q = omega arith
apply_word Shift l r p q = mod-lt _ (pow_pos 31)
apply_word Multiply l r p q = mod-lt _ (pow_pos 31)
apply_word And l r p q = and_lt 31 l r p q
apply_word Or l r p q = or_lt 31 l r p q
apply_word ExclusiveOr l r p q = xor_lt 31 l r p q
apply_word Equal l r p q = flag (eqb l r)
apply_word Less l r p q = flag (ltb l r)

pub code_above : (code : ℕ) → 13 < code → function_of code ≡ Zero
code_above code h = get_or-eq_default by_code Zero h
