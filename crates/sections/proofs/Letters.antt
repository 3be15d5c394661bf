-- A text of two bytes or more is no single byte.
use Rattle.std.proofs.Common.{◌≡◌, ℕ, ◌≤◌, true, false, ◌&&◌, eqb, [], ◌∷◌, length, refl, arith}
use Rattle.scan.specs.Names.{Bytes, same}

pub longer : (t : Bytes) (x : ℕ) → 2 ≤ length t → same t (x ∷ []) ≡ false
longer [] x h = absurd (omega arith)
longer (b ∷ []) x h = absurd (omega arith)
longer (b ∷ c ∷ t) x h = elim (eqb b x) as (λ v. v && false ≡ false) [ true ↦ refl | false ↦ refl ]
