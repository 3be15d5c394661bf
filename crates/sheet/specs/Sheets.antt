-- The verdict on a run sheet.
use Rattle.std.specs.Prelude.{ℕ, cond, List, [], ◌∷◌, length, Ok, Err, Result, nat_le}
use Rattle.refusal.specs.declared.kinds.Fault.{Fault}
use Rattle.refusal.specs.declared.kinds.Refusal.TheVariants.{BadSheet}
use Rattle.scan.specs.Names.{Bytes}
use Rattle.scan.specs.Words.{Word, words_after}
use Rattle.numbers.specs.Judged.{Judged, good, bad}
use Rattle.numbers.specs.Numbers.{number}

-- the first if it is refused, and otherwise what follows from it
infixl 10 ◌>>=◌
abbrev pub ◌>>=◌ : {X Y : Type 0} → Result X Fault → (X → Result Y Fault) → Result Y Fault
Ok x >>= f = f x
Err e >>= f = Err e

-- the run sheet is refused at this place
abbrev pub bad_sheet : {X : Type 0} → ℕ → Result X Fault
bad_sheet place = Err (record { refusal = BadSheet; place = place })

-- a number that is at most `most`
abbrev pub up_to : ℕ → ℕ → Judged ℕ → Result ℕ Fault
up_to most place (good n) = cond (nat_le n most) (Ok n) (bad_sheet place)
up_to most place (bad k) = bad_sheet place

-- the number that a word is
abbrev pub number_of : ℕ → Word → Result ℕ Fault
number_of most w = up_to most w.at (number w.text)

-- pairs of a port, which is at most 15, and a word
abbrev pub pairs : ℕ → List Word → Result (Unit {0}) Fault
pairs end [] = Ok tt
pairs end (a ∷ []) = do
  _ ← number_of 15 a
  bad_sheet end
pairs end (a ∷ b ∷ ws) = do
  _ ← number_of 15 a
  _ ← number_of 2147483647 b
  pairs end ws

-- a run sheet: how many cycles to run, and the words after that number
pub record RunSheet : Type 0 where
  pub cycles : ℕ
  pub words : List Word

-- a count that is at most 100,000, and then pairs
abbrev pub sheet_in : ℕ → List Word → Result RunSheet Fault
sheet_in end [] = bad_sheet end
sheet_in end (c ∷ ws) = do
  n ← number_of 100000 c
  _ ← pairs end ws
  Ok (record { cycles = n; words = ws })

-- the run sheet that stands in the text t from the place p on
abbrev pub sheet_of : Bytes → ℕ → Result RunSheet Fault
sheet_of t p = sheet_in (length t) (words_after t p)
