-- A fault that is met where a word is missing is the verdict's, whatever was to be read.
use Rattle.std.proofs.Common.{◌≡◌, refl}
use Rattle.refusal.specs.Numbers.{number}
use Rattle.refusal.specs.declared.kinds.Refusal.{Refusal}
use Rattle.verdict.specs.Verdict.{missing}
use Rattle.sections.specs.Nexts.{next_of}
use Rattle.sections.specs.Faults.{told, lack}
use Rattle.sections.specs.declared.rows.Next.{Next}
use Rattle.sections.specs.declared.rows.Next.TheVariants.{Word, TextEnd}

pub lack_missing : {X : Type 0} (r : Refusal) (n : Next) → told {X = X} (lack r n) ≡ missing (number r) (next_of n)
lack_missing r (Word p) = refl
lack_missing r (TextEnd p) = refl
