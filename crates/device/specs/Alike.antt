-- Devices of equal meaning: what is made of them, and what is done to them, keeps them so.
use Rattle.std.specs.Prelude.{◌≡◌, ℕ, length}
use Rattle.device.specs.Meaning.{Meaning, gave, took}
use Rattle.device.specs.Answers.{offered, admitted}
use Rattle.device.specs.Layers.{shifted, joined}

-- equal at every port
abbrev pub Alike : Meaning → Meaning → Type 0
Alike m n = (p : ℕ) → m p ≡ n p

pub record StayAlike : Type 0 where
  pub shifts : (k : ℕ) (m n : Meaning) → Alike m n → Alike (shifted k m) (shifted k n)
  pub splits : (k : ℕ) (m n low high : Meaning) → Alike m n → Alike low high → Alike (joined k m low) (joined k n high)
  -- they answer alike
  pub questions : (m n : Meaning) (p : ℕ) → Alike m n → (length (m p).waiting ≡ length (n p).waiting) × ((m p).space ≡ (n p).space)
  pub gives : (m n : Meaning) (p : ℕ) → Alike m n → (offered (m p).waiting ≡ offered (n p).waiting) × Alike (gave m p) (gave n p)
  pub takes : (m n : Meaning) (p w : ℕ) → Alike m n → (admitted (m p).space ≡ admitted (n p).space) × Alike (took m p w) (took n p w)
