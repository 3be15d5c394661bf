-- Each binary digit at most doubles the bound: n, and then k digits, say less than (n + 1) * 2 ^ k.
use Rattle.std.proofs.Common.{◌≡◌, ℕ, suc, ◌+◌, ◌*◌, ◌^◌, ◌<◌, ◌≤◌, min, true, false, ltb, [], ◌∷◌, length, refl, mul-le-mul_right, mul_assoc, arith, pow_mono}
use native.Mathlib.Nat.{pow-succ'}
use Rattle.std.proofs.lemmas.Bool.{ltb-true}
use Rattle.numbers.specs.Splits.{Bytes}
use Rattle.numbers.specs.Judged as judging
use Rattle.numbers.specs.Judged.{good, bad, check}
use Rattle.numbers.specs.Numbers.{digit_value, digits_after, digits}
use Rattle.numbers.specs.Capped.{capped}

below : (n v : ℕ) (t : Bytes) → digits_after 2 n t ≡ good v → v < (n + 1) * 2 ^ length t
below n v [] e = let same : n ≡ v = cc in omega arith
below n v (b ∷ t) e =
    elim (ltb (digit_value b) 2) as (λ c. ltb (digit_value b) 2 ≡ c → judging.◌>>=◌ (check c 11) (λ _. digits_after 2 (n * 2 + digit_value b) t) ≡ good v → v < (n + 1) * 2 ^ suc (length t)) [
      | true ↦ λ lt is.
          let d : digit_value b < 2 = ltb-true (digit_value b) 2 lt in
          let less = below (n * 2 + digit_value b) v t is in
          let grown : (n * 2 + digit_value b + 1) * 2 ^ length t ≤ ((n + 1) * 2) * 2 ^ length t = mul-le-mul_right (2 ^ length t) (omega arith) in
          rw (pow-succ' 2 (length t), ← mul_assoc (n + 1) 2 (2 ^ length t)) (omega arith)
      | false ↦ λ lt is. let z : ◌≡◌ {A = ℕ} 0 1 = cc in omega arith
    ] refl e

pub binary_below : (v : ℕ) (t : Bytes) → length t ≤ 31 → good v ≡ capped (digits 2 t) → v < 2 ^ 31
binary_below v [] h e = let z : ◌≡◌ {A = ℕ} 0 1 = cc in omega arith
binary_below v (b ∷ t) h e =
    elim (digits_after 2 0 (b ∷ t)) as (λ j. digits_after 2 0 (b ∷ t) ≡ j → good v ≡ capped j → v < 2 ^ 31) [
      | good n ↦ λ is told.
          let same : min n 2147483648 ≡ v = cc in
          let less = below 0 n (b ∷ t) is in
          let most = pow_mono {i = length (b ∷ t)} {j = 31} h in
          omega arith
      | bad k ↦ λ is told. let z : ◌≡◌ {A = ℕ} 0 1 = cc in omega arith
    ] refl e
