-- What holds of numbers in general, and of some by name.
use Rattle.std.specs.Prelude.{◌≡◌, ℕ, ◌≤◌, ◌++◌, replicate, codes, decimal}
use Rattle.numbers.specs.Judged.{good, bad}
use Rattle.numbers.specs.Numbers.{number}

-- 16 and 15 and 2 are 33; the highest bit of a word; the power that is no word; and a malformed term beside one that is too large
abbrev pub NumberCases : Type 0
NumberCases = (number (codes "^4+$F+%10") ≡ good 33) × (number (codes "^30") ≡ good 1073741824) × (number (codes "^31") ≡ bad 13) × (number (codes "^31+x") ≡ bad 11)

-- a word's decimal digits, with any number of zeros in front, are read as that word
abbrev pub NumbersReadBack : Type 0
NumbersReadBack = (zeros n : ℕ) → n ≤ 2147483647 → number (replicate zeros 48 ++ decimal n) ≡ good n
