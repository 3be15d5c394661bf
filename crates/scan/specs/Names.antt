-- Names: which bytes make one, and their order.
use Rattle.std.specs.Prelude.{ℕ, Bool, true, false, ◌&&◌, ◌||◌, List, [], ◌∷◌, length, ◌==◌, nat_le, nat_lt}
-- each element passes
pub use Rattle.std.specs.List.{list_all as all}

abbrev pub Bytes : Type 0
Bytes = List ℕ

-- A to Z, a to z
abbrev pub is_letter : ℕ → Bool
is_letter b = (nat_le 65 b && nat_le b 90) || (nat_le 97 b && nat_le b 122)

-- 0 to 9
abbrev pub is_digit : ℕ → Bool
is_digit b = nat_le 48 b && nat_le b 57

abbrev pub is_letter_or_digit : ℕ → Bool
is_letter_or_digit b = is_letter b || is_digit b

-- a letter and then letters and digits, at most 16 bytes
abbrev pub is_name : Bytes → Bool
is_name [] = false
is_name (b ∷ bs) = is_letter b && all is_letter_or_digit bs && nat_le (length bs) 15

-- the same bytes
abbrev pub same : Bytes → Bytes → Bool
same [] [] = true
same [] (y ∷ ys) = false
same (x ∷ xs) [] = false
same (x ∷ xs) (y ∷ ys) = x == y && same xs ys

-- by the first differing byte; a name that begins another comes before it
abbrev pub before : Bytes → Bytes → Bool
before [] [] = false
before [] (y ∷ ys) = true
before (x ∷ xs) [] = false
before (x ∷ xs) (y ∷ ys) = nat_lt x y || (x == y && before xs ys)

-- one of these names
abbrev pub among : List Bytes → Bytes → Bool
among [] n = false
among (m ∷ ms) n = same m n || among ms n
