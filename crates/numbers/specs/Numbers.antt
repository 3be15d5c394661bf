-- Numbers: sums of terms.
use Rattle.std.specs.Prelude.{ℕ, ◌+◌, ◌-◌, ◌*◌, ◌^◌, min, cond, List, [], ◌∷◌, map, length, ◌==◌, nat_le, nat_lt}
use Rattle.numbers.specs.Splits.{Bytes, split}
use Rattle.numbers.specs.Judged.{Judged, good, bad, ◌>>=◌, check, every}

-- all of them together
abbrev pub sum : List ℕ → ℕ
sum [] = 0
sum (n ∷ ns) = n + sum ns

-- 0 to 9, and A to F for 10 to 15; 16 for any other byte
abbrev pub digit_value : ℕ → ℕ
digit_value b = cond (nat_lt b 48) 16 (cond (nat_le b 57) (b - 48) (cond (nat_lt b 65) 16 (cond (nat_le b 70) (b - 55) 16)))

-- what the digits say in a base, after digits that say n; 11 at a byte that is no digit of it
abbrev pub digits_after : ℕ → ℕ → Bytes → Judged ℕ
digits_after base n [] = good n
digits_after base n (b ∷ bs) = do
  _ ← check (nat_lt (digit_value b) base) 11
  digits_after base (n * base + digit_value b) bs

-- one digit or more
abbrev pub digits : ℕ → Bytes → Judged ℕ
digits base [] = bad 11
digits base (b ∷ bs) = digits_after base 0 (b ∷ bs)

-- a word of the board, at most 2,147,483,647
abbrev pub word_of : ℕ → Judged ℕ
word_of n = do
  _ ← check (nat_le n 2147483647) 13
  good n

-- 2 to the power k, of which any above 31 is too large
abbrev pub power : Bytes → Judged ℕ
power bs = do
  k ← digits 10 bs
  good (2 ^ min k 31)

-- % binary, $ base 16, ^ a power of two, and otherwise decimal
abbrev pub term_value : Bytes → Judged ℕ
term_value [] = bad 11
term_value (b ∷ bs) = cond (b == 37) (digits 2 bs) (cond (b == 36) (digits 16 bs) (cond (b == 94) (power bs) (digits 10 (b ∷ bs))))

-- a term's word
abbrev pub term : Bytes → Judged ℕ
term t = do
  n ← term_value t
  word_of n

-- terms joined by +
abbrev pub number : Bytes → Judged ℕ
number t = do
  ns ← every (map term (split 43 t))
  word_of (sum ns)

-- 1 to 31 binary digits: 11 where a byte is none or there is none, and 14 where there are more
abbrev pub binary_value : Bytes → Judged ℕ
binary_value t = do
  n ← digits 2 t
  _ ← check (nat_le (length t) 31) 14
  good n
