-- One pair: where both numbers are good the later pairs decide, and its word waits at its port and at no other.
use Rattle.std.proofs.Common.{◌≡◌, ℕ, List, ◌∷◌, ◌++◌, Ok, refl}
use Rattle.scan.specs.Words.{Word}
use Rattle.sheet.specs.Sheets.{number_of, pairs}
use Rattle.sheet.specs.Waiting.{sent, waiting_at}
use Rattle.sheet.specs.Stands.{Says}
use Rattle.std.specs.Option.{option_to_list}
use Rattle.std.proofs.lemmas.Bool.{eq-eqb, ne_eqb}
use Rattle.numbers.specs.Judged.{Judged, good, bad}
use Rattle.numbers.specs.Numbers.{number}

pub both_good : (end n m : ℕ) (a b : Word) (ws : List Word) → Ok n ≡ number_of 15 a → Ok m ≡ number_of 2147483647 b → pairs end (a ∷ b ∷ ws) ≡ pairs end ws
both_good end n m a b ws e d = rw (← e, ← d)

pub sent_first : (p v : ℕ) (a b : Word) (ws : List Word) → Says a p → Says b v → waiting_at p (a ∷ b ∷ ws) ≡ v ∷ waiting_at p ws
sent_first p v a b ws e d = rw (e, d, eq-eqb p p refl)

pub sent_not : (p q : ℕ) (a b : Word) (ws : List Word) → Says a q → (q ≡ p → ⊥) → waiting_at p (a ∷ b ∷ ws) ≡ waiting_at p ws
sent_not p q a b ws e n = rw e (other (number b.text))
  where
    other : (j : Judged ℕ) → option_to_list (sent p (good q) j) ++ waiting_at p ws ≡ waiting_at p ws
    other (good v) = rw (ne_eqb q p n)
    other (bad k) = refl
