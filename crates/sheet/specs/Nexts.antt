-- What asking a reader for a word that must be there answers.
use Rattle.std.specs.Prelude.{◌≡◌, ◌+◌, ◌≤◌, [], ◌∷◌, length, Result, MatchResult, IfOk}
use Rattle.refusal.specs.declared.kinds.Fault.{Fault}
use Rattle.refusal.specs.declared.kinds.Refusal.TheVariants.{BadSheet}
use Rattle.scan.specs.Reading.{left, reader_text, word_of}
use Rattle.scan.specs.declared.reader.Reader.{Reader}
use Rattle.scan.specs.declared.reader.TextWord.{TextWord}

-- the text stays; the word is the first of those that were left, and where none was left the text's end is refused
pub record HandsOver (old : Reader) (given : Result TextWord Fault) (new : Reader) : Type 0 where
  pub whole : reader_text new ≡ reader_text old
  pub word : MatchResult given (λ w. left old ≡ word_of w ∷ left new) (λ f. (left old ≡ []) × (f ≡ record { refusal = BadSheet; place = length (reader_text old) }))
  pub within : IfOk given (λ w. w.place + length w.text.now ≤ length (reader_text old))
