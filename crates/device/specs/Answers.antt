-- What a device answers, from what it means.
use Rattle.std.specs.Prelude.{◌≡◌, ℕ, zero, suc, List, [], ◌∷◌, Ok, Err, Result}
use Rattle.refusal.specs.declared.kinds.Fault.{Fault}
use Rattle.refusal.specs.declared.kinds.Refusal.{Refusal}
use Rattle.refusal.specs.declared.kinds.Refusal.TheVariants.{NothingWaits, NoSpace}
use Rattle.refusal.specs.Numbers.{number}
use Rattle.word.specs.declared.value.Word.{Word}

-- a refusal of a device's own call, which has no place
abbrev pub refused : Refusal → Fault
refused r = record { refusal = r; place = 0 }

-- the answer to an asking, where these words wait
abbrev pub offered : List ℕ → Result ℕ Fault
offered [] = Err (refused NothingWaits)
offered (w ∷ ws) = Ok w

-- the answer to a handing over, where there is so much space
abbrev pub admitted : ℕ → Result (Unit {0}) Fault
admitted zero = Err (refused NoSpace)
admitted (suc n) = Ok tt

-- an answer with the word as a number
abbrev pub valued : Result Word Fault → Result ℕ Fault
valued (Ok w) = Ok w.value
valued (Err f) = Err f

-- the answer is a refusal that users know by the number n, at place 0
abbrev pub RefusedWith : {A : Type 0} → ℕ → Result A Fault → Type 0
RefusedWith n (Ok v) = ⊥
RefusedWith n (Err f) = (number f.refusal ≡ n) × (f.place ≡ 0)
