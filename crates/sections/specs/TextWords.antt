-- Words of a text as code holds them, as the verdict tells them.
use Rattle.std.specs.Prelude.{List, map}
use Rattle.scan.specs.Words.{Word}
use Rattle.scan.specs.Reading.{word_of}
use Rattle.scan.specs.declared.reader.TextWord.{TextWord}
use Rattle.verdict.specs.Sections as verdict
use Rattle.verdict.specs.Sections.{part_words}
use Rattle.sections.specs.Nexts.{next_of}
use Rattle.sections.specs.Walks.{twos, odd}
use Rattle.sections.specs.declared.rows.Row.{Row}
use Rattle.sections.specs.declared.rows.Sections.{Sections}

abbrev pub words_of : List TextWord → List Word
words_of ws = map word_of ws

abbrev pub row_of : Row → verdict.Row
row_of r = record { row = words_of r.row.now; next = next_of r.next; later = words_of r.later.now }

-- the macros two words at a time, and the parts cut before each part letter
abbrev pub sections_of : Sections → verdict.Sections
sections_of s = record {
  macros = twos (words_of s.macros.now);
  half = odd (words_of s.macros.now);
  listed = words_of s.listed.now;
  after_list = next_of s.after_list;
  parts = part_words (words_of s.parts.now);
  after_parts = next_of s.after_parts;
}
