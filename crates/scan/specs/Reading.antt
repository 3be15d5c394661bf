-- What a reader of a text has still to hand out.
use Rattle.std.specs.Prelude.{◌≡◌, ◌+◌, ◌≤◌, List, length, drop, Option, IfSome}
use Rattle.std.specs.Iterator.{YieldsFirstBy}
use Rattle.scan.specs.Names.{Bytes}
use Rattle.scan.specs.Words.{Word, words_from}
use Rattle.scan.specs.Scanning.{where_of}
use Rattle.scan.specs.declared.reader.Reader.{Reader}
use Rattle.scan.specs.declared.reader.TextWord.{TextWord}

-- the whole text
abbrev pub reader_text : Reader → Bytes
reader_text r = r.text.now

-- the words that are left
abbrev pub left : Reader → List Word
left r = words_from r.text.now (where_of r.scanner.state) r.at (drop r.at r.text.now)

-- a word that was handed out
abbrev pub word_of : TextWord → Word
word_of w = record { at = w.place; text = w.text.now }

-- what a call of `next` hands out: the text stays, the word is the first of those that were left, and none is left after the last
pub record HandsOut (old : Reader) (given : Option TextWord) (new : Reader) : Type 0 where
  pub whole : reader_text new ≡ reader_text old
  pub word : YieldsFirstBy word_of left old given new
  pub within : IfSome given (λ w. w.place + length w.text.now ≤ length (reader_text old))
