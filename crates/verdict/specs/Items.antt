-- Items and expressions.
use Rattle.std.specs.Prelude.{ℕ, suc, ◌-◌, ◌%◌, ◌^◌, Bool, cond, ◌&&◌, ◌||◌, List, [], ◌∷◌, map, length, ◌==◌, nat_le}
use Rattle.scan.specs.Names.{Bytes, is_digit, is_name}
use Rattle.numbers.specs.Judged.{Judged, good, bad, ◌>>=◌, check, both, every}
use Rattle.numbers.specs.Splits.{split}
use Rattle.numbers.specs.Numbers.{sum, number, binary_value}

-- a constant with its width, or bits of the value that a part shows; parts are told by R: by name in a text, by rank on a board
pub data Item (R : Type 0) : Type 0 where
  constant : ℕ → ℕ → Item R
  bits : R → ℕ → ℕ → Item R

-- items, the highest first
abbrev pub Expression : Type 0 → Type 0
Expression R = List (Item R)

abbrev pub width : {R : Type 0} → Item R → ℕ
width (constant v w) = w
width (bits r b t) = suc t - b

-- the low w bits of v, w from 1 to 31
abbrev pub low_bits : ℕ → ℕ → Judged (Item Bytes)
low_bits v w = do
  _ ← check (nat_le 1 w && nat_le w 31) 14
  good (constant (v % (2 ^ w)) w)

-- bits b through t of a part, b at most t, t at most 30
abbrev pub bits_of : Bytes → ℕ → ℕ → Judged (Item Bytes)
bits_of n b t = do
  _ ← check (nat_le b t && nat_le t 30) 14
  good (bits n b t)

-- `#` with 1 to 31 binary digits
abbrev pub binary_item : Bytes → Judged (Item Bytes)
binary_item ds = do
  v ← binary_value ds
  good (constant v (length ds))

-- `number` or `number.w`, cut at its dots
abbrev pub number_item : List Bytes → Judged (Item Bytes)
number_item [] = bad 11
number_item (n ∷ []) = do
  v ← number n
  good (constant v 31)
number_item (n ∷ w ∷ []) = do
  vw ← both (number n) (number w)
  low_bits vw.0 vw.1
number_item (n ∷ w ∷ x ∷ xs) = bad 11

-- `name`, `name.b` or `name.b.t`, cut at its dots
abbrev pub name_item : List Bytes → Judged (Item Bytes)
name_item [] = bad 11
name_item (n ∷ []) = do
  _ ← check (is_name n) 11
  good (bits n 0 30)
name_item (n ∷ b ∷ []) = do
  _ ← check (is_name n) 11
  v ← number b
  bits_of n v v
name_item (n ∷ b ∷ t ∷ []) = do
  _ ← check (is_name n) 11
  bt ← both (number b) (number t)
  bits_of n bt.0 bt.1
name_item (n ∷ b ∷ t ∷ x ∷ xs) = bad 11

-- a digit, %, $ or ^
abbrev pub begins_number : ℕ → Bool
begins_number c = is_digit c || c == 37 || c == 36 || c == 94

abbrev pub item : Bytes → Judged (Item Bytes)
item [] = bad 11
item (c ∷ cs) = cond (c == 35) (binary_item cs) (cond (begins_number c) (number_item (split 46 (c ∷ cs))) (name_item (split 46 (c ∷ cs))))

-- items joined by commas, of at most 31 bits together
abbrev pub expression : Bytes → Judged (Expression Bytes)
expression t = do
  es ← every (map item (split 44 t))
  _ ← check (nat_le (sum (map width es)) 31) 15
  good es
