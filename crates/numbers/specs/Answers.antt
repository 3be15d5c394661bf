-- What an answer that can be a fault says of the text that was read.
use Rattle.std.specs.Prelude.{◌≡◌, ℕ, ◌⊎◌, Ok, Err, Result}
use Rattle.refusal.specs.Numbers.{number as refusal-number}
use Rattle.refusal.specs.declared.kinds.Fault.{Fault}
use Rattle.refusal.specs.declared.kinds.Refusal.{Refusal}
use Rattle.word.specs.declared.value.Word.{Word}
use Rattle.numbers.specs.Judged.{Judged, good, bad}

-- the answer as a judgement: what it means, or the number of its refusal
abbrev pub judged_by : {X Y : Type 0} → (X → Y) → Result X Fault → Judged Y
judged_by meaning (Ok x) = good (meaning x)
judged_by meaning (Err fault) = bad (refusal-number fault.refusal)

-- the same of an answer that tells no place
abbrev pub unplaced : {X Y : Type 0} → (X → Y) → Result X Refusal → Judged Y
unplaced meaning (Ok x) = good (meaning x)
unplaced meaning (Err refusal) = bad (refusal-number refusal)

-- the judgement of a word, which means its value
abbrev pub judged_of : Result Word Fault → Judged ℕ
judged_of = judged_by (λ w. w.value)

-- a fault stands at this place
abbrev pub Placed : {X : Type 0} → ℕ → Result X Fault → Type 0
Placed place (Ok x) = Unit {0}
Placed place (Err fault) = fault.place ≡ place

-- a fault has one of these two refusals
abbrev pub Either : {X : Type 0} → Refusal → Refusal → Result X Fault → Type 0
Either this that (Ok x) = Unit {0}
Either this that (Err fault) = (fault.refusal ≡ this) ⊎ (fault.refusal ≡ that)
