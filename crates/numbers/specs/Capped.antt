-- Numbers as far as it matters whether they are words, and the bases that digits are written in.
use Rattle.std.specs.Prelude.{ℕ, min, cond, Some, None, Option, nat_lt}
use Rattle.numbers.specs.declared.rows.Base.{Base}
use Rattle.numbers.specs.declared.rows.Base.TheVariants.{Two, Ten, Sixteen}
use Rattle.numbers.specs.Judged.{Judged, good, bad}
use Rattle.numbers.specs.Numbers.{digit_value}

-- 2,147,483,648 stands for every number that is no word
abbrev pub cut : ℕ → ℕ
cut n = min n 2147483648

-- the same of a judgement
abbrev pub capped : Judged ℕ → Judged ℕ
capped (good n) = good (cut n)
capped (bad k) = bad k

-- a total, which is none once it is more than 32 bits hold
abbrev pub told : Option ℕ → ℕ
told (Some n) = cut n
told None = 2147483648

-- how many digits a base has
abbrev pub size : Base → ℕ
size Two = 2
size Ten = 10
size Sixteen = 16

-- the value of a digit of the base, if the byte is one
abbrev pub digit_in : ℕ → ℕ → Option ℕ
digit_in base b = cond (nat_lt (digit_value b) base) (Some (digit_value b)) None
