-- What code answers, as the verdict tells it: what was read, or a refusal's number and place.
use Rattle.std.specs.Prelude.{Ok, Err, Result}
use Rattle.refusal.specs.Numbers.{number}
use Rattle.refusal.specs.declared.kinds.Fault.{Fault}
use Rattle.refusal.specs.declared.kinds.Refusal.{Refusal}
use Rattle.refusal.specs.declared.kinds.Refusal.TheVariants.{TextEnds}
use Rattle.verdict.specs.Verdict.{Read, read, refuse}
use Rattle.sections.specs.declared.rows.Next.{Next}
use Rattle.sections.specs.declared.rows.Next.TheVariants.{Word, TextEnd}

abbrev pub told : {X : Type 0} → Fault → Read X
told f = refuse (number f.refusal) f.place

abbrev pub read_of : {X : Type 0} → Result X Fault → Read X
read_of (Ok x) = read x
read_of (Err f) = told f

-- a word is missing: the word that stands there meets the refusal, or the text ends early
abbrev pub lack : Refusal → Next → Fault
lack r (Word p) = record { refusal = r; place = p }
lack r (TextEnd p) = record { refusal = TextEnds; place = p }
