-- What giving and taking come to, in plain words.
use Rattle.std.specs.Prelude.{◌≡◌, ℕ, suc, List, [], ◌∷◌, ◌++◌, Ok, ◌≢◌}
use Rattle.device.specs.Meaning.{Meaning, unserved, gave, took}
use Rattle.device.specs.Answers.{offered, admitted, RefusedWith}

pub record Stands : Type 0 where
  -- where no word waits a giving is refused with 43, and changes nothing
  pub none_waits : (m : Meaning) (p : ℕ) → (m p).waiting ≡ [] → RefusedWith 43 (offered (m p).waiting) × (gave m p ≡ m)
  -- else the first word is given, and the others wait
  pub gives : (m : Meaning) (p w : ℕ) (ws : List ℕ) → (m p).waiting ≡ w ∷ ws → (offered (m p).waiting ≡ Ok w) × ((gave m p p).waiting ≡ ws)
  -- a giving leaves what was taken, and the space
  pub gives_only : (m : Meaning) (p q : ℕ) → ((gave m p q).taken ≡ (m q).taken) × ((gave m p q).space ≡ (m q).space)
  -- where there is no space a taking is refused with 44, and changes nothing
  pub no_space : (m : Meaning) (p w : ℕ) → (m p).space ≡ 0 → RefusedWith 44 (admitted (m p).space) × (took m p w ≡ m)
  -- else the word comes last among those taken, and the space falls by one
  pub takes : (m : Meaning) (p w n : ℕ) → (m p).space ≡ suc n → (admitted (m p).space ≡ Ok tt) × ((took m p w p).taken ≡ (m p).taken ++ w ∷ []) × ((took m p w p).space ≡ n)
  -- a taking leaves what waits
  pub takes_only : (m : Meaning) (p q w : ℕ) → (took m p w q).waiting ≡ (m q).waiting
  -- neither alters another port
  pub others : (m : Meaning) (p q w : ℕ) → (q ≢ p) → (gave m p q ≡ m q) × (took m p w q ≡ m q)
  -- a port that is not served stays so
  pub stays_unserved : (m : Meaning) (p q w : ℕ) → m q ≡ unserved → (gave m p q ≡ unserved) × (took m p w q ≡ unserved)
