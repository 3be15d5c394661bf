-- What the class of a byte says of the byte.
use Rattle.std.proofs.Common.{◌≡◌, ℕ, eqb, inl, inr, ⊎_elim, arith}
use Rattle.std.proofs.lemmas.Bool.{cond_both, eqb-true, eqb-false}
use Rattle.scan.specs.declared.scanner.Class.{Class}
use Rattle.scan.specs.declared.scanner.Class.TheVariants.{Blank, Open, Close, Other}
use Rattle.scan.specs.Words.{class_of}
use Rattle.scan.specs.WordsStand.{IsBlank}

-- a byte that a word can hold
abbrev pub Plain : ℕ → Type 0
Plain b = (IsBlank b → ⊥) × (b ≡ 123 → ⊥)

-- what a byte is, if it is of this class
abbrev pub Told : ℕ → Class → Type 0
Told b Blank = IsBlank b
Told b Open = b ≡ 123
Told b Close = b ≡ 125
Told b Other = Plain b × (b ≡ 125 → ⊥)

-- a byte that is none of the blank ones
not_blank : (b : ℕ) → (b ≡ 9 → ⊥) → (b ≡ 10 → ⊥) → (b ≡ 13 → ⊥) → (b ≡ 32 → ⊥) → IsBlank b → ⊥
not_blank b n9 n10 n13 n32 h = ⊎_elim n9 (⊎_elim n10 (⊎_elim n13 n32)) h

pub told : (b : ℕ) → Told b (class_of b)
told b =
    cond_both (eqb b 9) _ _ (Told b) (λ e. inl (eqb-true b 9 e)) (λ n9.
    cond_both (eqb b 10) _ _ (Told b) (λ e. inr (inl (eqb-true b 10 e))) (λ n10.
    cond_both (eqb b 13) _ _ (Told b) (λ e. inr (inr (inl (eqb-true b 13 e)))) (λ n13.
    cond_both (eqb b 32) _ _ (Told b) (λ e. inr (inr (inr (eqb-true b 32 e)))) (λ n32.
    cond_both (eqb b 123) _ _ (Told b) (λ e. eqb-true b 123 e) (λ n123.
    cond_both (eqb b 125) _ _ (Told b) (λ e. eqb-true b 125 e) (λ n125.
    ((not_blank b (eqb-false b 9 n9) (eqb-false b 10 n10) (eqb-false b 13 n13) (eqb-false b 32 n32), eqb-false b 123 n123), eqb-false b 125 n125)))))))

-- `}` is such a byte
pub close_plain : (b : ℕ) → b ≡ 125 → Plain b
close_plain b e = (not_blank b (λ n. omega arith) (λ n. omega arith) (λ n. omega arith) (λ n. omega arith), λ n. omega arith)

pub blank_opens_not : (b : ℕ) → IsBlank b → b ≡ 123 → ⊥
blank_opens_not b h e = not_blank b (λ n. omega arith) (λ n. omega arith) (λ n. omega arith) (λ n. omega arith) h

pub blank_closes_not : (b : ℕ) → IsBlank b → b ≡ 125 → ⊥
blank_closes_not b h e = (close_plain b e).0 h
