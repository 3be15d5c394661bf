-- What judging a run sheet answers.
use Rattle.std.specs.Prelude.{ℕ, cond, length, Ok, Err, Result, nat_lt}
use Rattle.refusal.specs.declared.kinds.Fault.{Fault}
use Rattle.refusal.specs.declared.kinds.Refusal.TheVariants.{TextTooLong}
use Rattle.scan.specs.Names.{Bytes}
use Rattle.scan.specs.Words.{words_after}
use Rattle.sheet.specs.Sheets.{RunSheet, sheet_of}
use Rattle.sheet.specs.declared.judging.Run.{Run}

-- what an answer asks for, whose pairs are the words of the text t from its place on
abbrev pub asked : Bytes → Result Run Fault → Result RunSheet Fault
asked t (Ok r) = Ok (record { cycles = r.cycles; words = words_after t r.pairs })
asked t (Err f) = Err f

-- the run sheet in the text t from the place p on; a text of 4 GiB or more is too long
abbrev pub verdict : Bytes → ℕ → Result RunSheet Fault
verdict t p = cond (nat_lt (length t) 4294967296) (sheet_of t p) (Err (record { refusal = TextTooLong; place = 0 }))
