-- What is known of the bytes of a name: each is below 128, so they are text.
use Rattle.std.proofs.Common.{◌≡◌, ℕ, zero, suc, ◌<◌, true, [], ◌∷◌, get_or, arith}
use Rattle.std.proofs.lemmas.Bool.{and_parts}
use Rattle.std.proofs.lemmas.Bool.Decides.{nat_tests}
use Rattle.std.proofs.lemmas.Str.{IsUtf8-from_ascii}
use Rattle.std.specs.Str.{IsUtf8}
use Rattle.scan.specs.Names.{Bytes, all, is_name, is_letter, is_letter_or_digit}

letter_low : (b : ℕ) → is_letter b ≡ true → b < 128
letter_low b h = grind (arith, nat_tests)

later_low : (b : ℕ) → is_letter_or_digit b ≡ true → b < 128
later_low b h = grind (arith, nat_tests)

all_low : (bs : Bytes) → all is_letter_or_digit bs ≡ true → (k : ℕ) → get_or bs k 0 < 128
all_low [] h k = omega arith
all_low (b ∷ bs) h zero = later_low b (and_parts (is_letter_or_digit b) (all is_letter_or_digit bs) h).0
all_low (b ∷ bs) h (suc k) = all_low bs (and_parts (is_letter_or_digit b) (all is_letter_or_digit bs) h).1 k

pub name_low : (bs : Bytes) → is_name bs ≡ true → (k : ℕ) → get_or bs k 0 < 128
name_low [] h k = omega arith
name_low (b ∷ bs) h zero = grind (arith, nat_tests, letter_low)
name_low (b ∷ bs) h (suc k) = all_low bs (grind (arith, nat_tests)) k

pub name_utf8 : (bs : Bytes) → is_name bs ≡ true → IsUtf8 bs
name_utf8 bs h = IsUtf8-from_ascii bs (name_low bs h)
