-- A remainder by a power of two splits at any place: the bits above the place, moved, and the bits below it.
use Rattle.std.proofs.Common.{◌≡◌, ℕ, ◌+◌, ◌*◌, ◌/◌, ◌%◌, ◌^◌, ◌<◌, ◌≤◌, sym, ap, ◌∙◌, arith, shr-shr}
use lib.Pow.{mod-pow-add}
use Rattle.word.specs.Places.{width_of, bits_of, behind}

-- what stands above a range is what is left once the range is dropped
above : (first middle n : ℕ) → first ≤ middle → n / 2 ^ (middle + 1) ≡ n / 2 ^ first / 2 ^ width_of first middle
above first middle n p =
    let place : middle + 1 ≡ first + width_of first middle = omega arith in
    ap (λ (k : ℕ). n / 2 ^ k) place ∙ sym (shr-shr n first (width_of first middle))

-- a range put behind its upper neighbour gives the range of both
pub neighbours : (first middle last n : ℕ)
    → first ≤ middle
    → middle < last
    → behind (bits_of (middle + 1) last n) (width_of first middle) (bits_of first middle n) ≡ bits_of first last n
neighbours first middle last n p q =
    let low = width_of first middle in
    let high = width_of (middle + 1) last in
    let both : high + low ≡ width_of first last = omega arith in
    ap (λ (x : ℕ). x % 2 ^ high * 2 ^ low + n / 2 ^ first % 2 ^ low) (above first middle n p)
    ∙ sym (mod-pow-add (n / 2 ^ first) high low)
    ∙ ap (λ (k : ℕ). n / 2 ^ first % 2 ^ k) both
