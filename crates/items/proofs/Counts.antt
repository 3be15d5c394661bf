-- What a caller reads off the count of an expression's items: by the two cases of a judgement.
use Rattle.std.proofs.Common.{◌≡◌, ℕ, length, refl, arith}
use Rattle.scan.specs.Names.{Bytes}
use Rattle.numbers.specs.Judged.{Judged, good, bad}
use Rattle.verdict.specs.Items.{Expression}
use Rattle.items.specs.Told.{counted}

-- a count: the expression is good, and has as many items
pub counted_good : (j : Judged (Expression Bytes)) (n : ℕ) → good n ≡ counted j → (es : Expression Bytes) × (j ≡ good es) × (n ≡ length es)
counted_good (good es) n e = (es, refl, cc)
counted_good (bad k) n e = let z : ◌≡◌ {A = ℕ} 0 1 = cc in absurd (omega arith)

-- a fault: the expression is refused with its number
pub counted_bad : (j : Judged (Expression Bytes)) (k : ℕ) → bad k ≡ counted j → j ≡ bad k
counted_bad (good es) k e = let z : ◌≡◌ {A = ℕ} 0 1 = cc in absurd (omega arith)
counted_bad (bad m) k e = cc
