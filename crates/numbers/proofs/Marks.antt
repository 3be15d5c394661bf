-- A text by its first byte and what stands behind it.
use Rattle.std.proofs.Common.{◌≡◌, ℕ, ◌-◌, ◌<◌, [], ◌∷◌, length, get_or, take, drop, arith}
use Rattle.std.proofs.lemmas.List.{take_all}
use Rattle.numbers.specs.Splits.{Bytes}

pub opened : (t : Bytes) (m : ℕ) → 0 < length t → get_or t 0 0 ≡ m → m ∷ take (length t - 1) (drop 1 t) ≡ t
opened [] m h e = absurd (omega arith)
opened (b ∷ bs) m h e = rw (take_all (length (b ∷ bs) - 1) bs (omega arith), e)
