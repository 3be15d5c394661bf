-- What a layer means, from what lies below it.
use Rattle.std.specs.Prelude.{ℕ, ◌-◌, cond, nat_lt}
use Rattle.device.specs.Meaning.{Meaning, unserved}

-- the ports of m, k further on
abbrev pub shifted : ℕ → Meaning → Meaning
shifted k m = λ p. cond (nat_lt p k) unserved (m (p - k))

-- the ports of m under k, and those of n from there on
abbrev pub joined : ℕ → Meaning → Meaning → Meaning
joined k m n = λ p. cond (nat_lt p k) (m p) (n p)
