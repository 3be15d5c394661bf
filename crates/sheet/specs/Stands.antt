-- What the verdict on a run sheet and the meaning of a sheet come to, in plain words.
use Rattle.std.specs.Prelude.{◌≡◌, ℕ, ◌≤◌, ◌⊎◌, List, [], ◌∷◌, length, Ok, Err, ◌≢◌}
use Rattle.refusal.specs.declared.kinds.Fault.{Fault}
use Rattle.refusal.specs.declared.kinds.Refusal.TheVariants.{BadSheet}
use Rattle.scan.specs.Names.{Bytes}
use Rattle.scan.specs.Words.{Word, words_after}
use Rattle.numbers.specs.Judged.{good}
use Rattle.numbers.specs.Numbers.{number}
use Rattle.device.specs.Meaning.{unserved}
use Rattle.sheet.specs.Waiting.{waiting_at}
use Rattle.sheet.specs.Meant.{sheet_meaning, read}
use Rattle.sheet.specs.Sheets.{RunSheet, sheet_of}
use Rattle.sheet.specs.Judged.{asked, verdict}
use Rattle.sheet.specs.declared.Sheet.{Sheet}
use Rattle.sheet.specs.declared.judging.Run.{Run}

-- the word is a number, and that is n
abbrev pub Says : Word → ℕ → Type 0
Says w n = number w.text ≡ good n

-- it is a number of at most `most`
abbrev pub Within : ℕ → Word → Type 0
Within most w = (n : ℕ) × Says w n × (n ≤ most)

-- these are pairs of a port up to 15 and a word up to 2,147,483,647
abbrev pub Paired : List Word → Type 0
Paired [] = Unit {0}
Paired (a ∷ []) = ⊥
Paired (a ∷ b ∷ ws) = Within 15 a × Within 2147483647 b × Paired ws

-- the first word that is out of its range stands at the place, or a word is missing and the place is the end
abbrev pub FaultIn : ℕ → ℕ → List Word → Type 0
FaultIn end place [] = ⊥
FaultIn end place (a ∷ []) = ((Within 15 a → ⊥) × (place ≡ a.at)) ⊎ (Within 15 a × (place ≡ end))
FaultIn end place (a ∷ b ∷ ws) =
    ((Within 15 a → ⊥) × (place ≡ a.at))
    ⊎ ((Within 15 a × (Within 2147483647 b → ⊥) × (place ≡ b.at))
    ⊎ (Within 15 a × Within 2147483647 b × FaultIn end place ws))

-- the same with the count before the pairs
abbrev pub FaultOf : ℕ → ℕ → List Word → Type 0
FaultOf end place [] = place ≡ end
FaultOf end place (c ∷ ws) = ((Within 100000 c → ⊥) × (place ≡ c.at)) ⊎ (Within 100000 c × FaultIn end place ws)

pub record SheetStands : Type 0 where
  -- a sheet serves no port above 15, whatever was done to it
  pub unserved_above : (s : Sheet) (p : ℕ) → 16 ≤ p → sheet_meaning s p ≡ unserved
  -- a pair's word waits first at the pair's port, and at no other
  pub here : (p v : ℕ) (a b : Word) (ws : List Word) → Says a p → Says b v → waiting_at p (a ∷ b ∷ ws) ≡ v ∷ waiting_at p ws
  pub elsewhere : (p q : ℕ) (a b : Word) (ws : List Word) → Says a q → (q ≢ p) → waiting_at p (a ∷ b ∷ ws) ≡ waiting_at p ws
  -- a sheet is accepted exactly where a count up to 100,000 stands before pairs
  pub accepted : (t : Bytes) (from n : ℕ) (c : Word) (ws : List Word) → words_after t from ≡ c ∷ ws → Says c n → n ≤ 100000 → Paired ws
      → sheet_of t from ≡ Ok (record { cycles = n; words = ws })
  pub only : (t : Bytes) (from : ℕ) (s : RunSheet) → sheet_of t from ≡ Ok s
      → (c : Word) × (words_after t from ≡ c ∷ s.words) × Says c s.cycles × (s.cycles ≤ 100000) × Paired s.words
  -- any other is refused as a run sheet, at the first word that is no number of its range or where a word is missing
  pub refused : (t : Bytes) (from : ℕ) (f : Fault) → sheet_of t from ≡ Err f → (f.refusal ≡ BadSheet) × FaultOf (length t) f.place (words_after t from)
  -- the place that is judged for a text is where the words that the sheet reads begin
  pub reads : (t : Bytes) (from : ℕ) (r : Run) → asked t (Ok r) ≡ verdict t from → sheet_of t from ≡ Ok (record { cycles = r.cycles; words = read t r.pairs })
