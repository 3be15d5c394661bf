-- What shift and split come to, in plain words.
use Rattle.std.specs.Prelude.{◌≡◌, ℕ, ◌+◌, ◌<◌, ◌≤◌}
use Rattle.device.specs.Meaning.{Meaning, unserved, gave, took}
use Rattle.device.specs.Layers.{shifted, joined}

pub record LayersStand : Type 0 where
  -- the ports under a shift are unserved, and the others are those below, so far on
  pub under_shift : (k p : ℕ) (m : Meaning) → p < k → shifted k m p ≡ unserved
  pub over_shift : (k p : ℕ) (m : Meaning) → shifted k m (p + k) ≡ m p
  -- giving and taking over a shift are a giving and a taking below
  pub shift_gives : (k p : ℕ) (m : Meaning) → gave (shifted k m) (p + k) ≡ shifted k (gave m p)
  pub shift_takes : (k p w : ℕ) (m : Meaning) → took (shifted k m) (p + k) w ≡ shifted k (took m p w)
  -- the ports under a split are those of the first device, and the others those of the second
  pub under_split : (k p : ℕ) (m n : Meaning) → p < k → joined k m n p ≡ m p
  pub over_split : (k p : ℕ) (m n : Meaning) → k ≤ p → joined k m n p ≡ n p
  -- giving and taking at a port alter only the device that serves it
  pub split_gives_low : (k p : ℕ) (m n : Meaning) → p < k → gave (joined k m n) p ≡ joined k (gave m p) n
  pub split_gives_high : (k p : ℕ) (m n : Meaning) → k ≤ p → gave (joined k m n) p ≡ joined k m (gave n p)
  pub split_takes_low : (k p w : ℕ) (m n : Meaning) → p < k → took (joined k m n) p w ≡ joined k (took m p w) n
  pub split_takes_high : (k p w : ℕ) (m n : Meaning) → k ≤ p → took (joined k m n) p w ≡ joined k m (took n p w)
