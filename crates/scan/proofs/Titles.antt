-- Where the title ends, told by the first byte 10.
use Rattle.std.proofs.Common.{◌≡◌, ℕ, ◌+◌, min, eqb, length, [], ◌∷◌, Option, refl, MatchOption, arith}
use Rattle.std.specs.List.{position, position_or_len}
use Rattle.std.proofs.lemmas.Bool.Decides.{nat_tests}
use Rattle.scan.specs.Names.{Bytes}
use Rattle.scan.specs.Words.{title_length}

least : (t : Bytes) → title_length t ≡ min (position_or_len (λ b. eqb b 10) t + 1) (length t)
least [] = refl
least (b ∷ bs) = let later : title_length bs ≡ min (position_or_len (λ b. eqb b 10) bs + 1) (length bs) = least bs in grind (arith, nat_tests)

-- just after the first byte 10, or at the text's end where there is none
pub title_found : (t : Bytes) (found : Option ℕ) → found ≡ position (λ b. eqb b 10) t → MatchOption found (title_length t ≡ length t) (λ place. title_length t ≡ place + 1)
title_found t found e = let told : title_length t ≡ min (position_or_len (λ b. eqb b 10) t + 1) (length t) = least t in grind (arith, nat_tests)
