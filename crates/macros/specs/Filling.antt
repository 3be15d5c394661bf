-- What a buffer holds once a text was put into it.
use Rattle.std.specs.Prelude.{◌≡◌, ℕ, ◌<◌, ◌≤◌, ◌++◌, length, take, Ok, Err, Result}
use Rattle.refusal.specs.Numbers.{number}
use Rattle.refusal.specs.declared.kinds.Failure.{Failure}
use Rattle.refusal.specs.declared.kinds.Failure.TheVariants.{Refused, NoMemory}
use Rattle.refusal.specs.declared.kinds.Refusal.TheVariants.{OverLimit}
use Rattle.scan.specs.Names.{Bytes}
use Rattle.numbers.specs.Judged.{Judged, good, bad}

-- `more` was put behind what the buffer held, and there are at most 1,023 bytes; or these are too many, and the first 1,023 are there
abbrev pub Wrote : ℕ → Bytes → Bytes → Bytes → Result Unit Failure → Type 0
Wrote place held holds more (Ok u) = (holds ≡ held ++ more) × (length (held ++ more) ≤ 1023)
Wrote place held holds more (Err (Refused f)) = (f ≡ record { refusal = OverLimit; place = place }) × (1023 < length (held ++ more)) × (holds ≡ take 1023 (held ++ more))
Wrote place held holds more (Err NoMemory) = length holds ≤ 1023

-- the buffer holds what is judged good, or the refusal has the number that is judged, at the place
abbrev pub Filled : ℕ → Judged Bytes → Bytes → Result Unit Failure → Type 0
Filled place judged holds (Ok u) = judged ≡ good holds
Filled place judged holds (Err (Refused f)) = (judged ≡ bad (number f.refusal)) × (f.place ≡ place)
Filled place judged holds (Err NoMemory) = Unit {0}
