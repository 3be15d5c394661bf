-- What follows a row of words, as the verdict tells it.
use Rattle.verdict.specs.Sections as verdict
use Rattle.verdict.specs.Sections.{word_from, text_end}
use Rattle.sections.specs.declared.rows.Next.{Next}
use Rattle.sections.specs.declared.rows.Next.TheVariants.{Word, TextEnd}

abbrev pub next_of : Next → verdict.Next
next_of (Word p) = word_from p
next_of (TextEnd p) = text_end p
