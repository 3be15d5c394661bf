-- What the panel serves and what a pressing comes to, in plain words.
use Rattle.std.specs.Prelude.{◌≡◌, ℕ, ◌^◌, ◌<◌, ◌≤◌, [], ◌∷◌, ◌++◌, length, Ok, ◌≢◌}
use Rattle.device.specs.Meaning.{Meaning, unserved}
use Rattle.device.specs.Answers.{RefusedWith}
use Rattle.panel.specs.Meant.{panel_meaning}
use Rattle.panel.specs.Pressing.{press_answer, pressed}
use Rattle.panel.specs.declared.Panel.{Panel}

-- the pressing is refused with the number n, and changes nothing
abbrev pub Refuses : ℕ → Meaning → ℕ → ℕ → Type 0
Refuses n m p w = RefusedWith n (press_answer m p w) × (pressed m p w ≡ m)

pub record PanelStands : Type 0 where
  -- the panel serves no port above 7, whatever was done to it
  pub unserved_above : (s : Panel) (p : ℕ) → 8 ≤ p → panel_meaning s p ≡ unserved
  -- a number that is no word is refused with 33, whatever the port
  pub too_high : (m : Meaning) (p w : ℕ) → 2 ^ 31 ≤ w → Refuses 33 m p w
  -- a word is refused with 37 above port 7, and where eight words wait
  pub no_port : (m : Meaning) (p w : ℕ) → w < 2 ^ 31 → 8 ≤ p → Refuses 37 m p w
  pub eight_wait : (m : Meaning) (p w : ℕ) → w < 2 ^ 31 → 8 ≤ length (m p).waiting → Refuses 37 m p w
  -- else it waits last at that port
  pub waits : (m : Meaning) (p w : ℕ) → w < 2 ^ 31 → p < 8 → length (m p).waiting < 8
      → (press_answer m p w ≡ Ok tt) × ((pressed m p w p).waiting ≡ (m p).waiting ++ w ∷ [])
  -- no pressing alters another port, or what was taken, or the space
  pub others : (m : Meaning) (p q w : ℕ) → (q ≢ p) → pressed m p w q ≡ m q
  pub waiting_only : (m : Meaning) (p q w : ℕ) → ((pressed m p w q).taken ≡ (m q).taken) × ((pressed m p w q).space ≡ (m q).space)
