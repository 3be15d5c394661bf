-- What reading a drawing's text answers: the verdict on the text.
use Rattle.std.specs.Prelude.{◌≡◌, length, Ok, Err, vec_items, Result}
use Rattle.refusal.specs.Numbers.{number}
use Rattle.refusal.specs.declared.kinds.Failure.{Failure}
use Rattle.refusal.specs.declared.kinds.Failure.TheVariants.{Refused, NoMemory}
use Rattle.graph.specs.Needs.{Orders}
use Rattle.scan.specs.Names.{Bytes}
use Rattle.verdict.specs.Sound.{Sound}
use Rattle.verdict.specs.Verdict.{verdict, accepted, refused}
use Rattle.circuit.specs.Meaning.{meaning}
use Rattle.link.specs.Checks.{reads_part}
use Rattle.drawing.specs.declared.reading.Drawing.{Drawing}

-- the text is accepted with the circuit that was made, which is sound, and whose order sets each part after all that it reads
pub record Drawn (t : Bytes) (d : Drawing) : Type 0 where
  pub accepts : verdict t ≡ accepted (meaning d.circuit) (length (meaning d.circuit).parts) d.end
  pub sound : Sound (meaning d.circuit)
  pub order : Orders (length (meaning d.circuit).parts) (reads_part (meaning d.circuit).parts) (vec_items d.circuit.order)

-- the text is accepted or refused as the verdict on it says; want of memory says nothing of the text
abbrev pub Told : Bytes → Result Drawing Failure → Type 0
Told t (Ok d) = Drawn t d
Told t (Err (Refused f)) = verdict t ≡ refused (number f.refusal) f.place
Told t (Err NoMemory) = Unit {0}
