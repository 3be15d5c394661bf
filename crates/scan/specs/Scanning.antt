-- How the scanner's state stands for a place between words, in a word or in a comment.
use Rattle.std.specs.Prelude.{ℕ, Some, None, Option}
use Rattle.scan.specs.declared.scanner.Class.{Class}
use Rattle.scan.specs.declared.scanner.Class.TheVariants.{Blank, Open, Close, Other}
use Rattle.scan.specs.declared.scanner.State.{State}
use Rattle.scan.specs.declared.scanner.State.TheVariants.{Between, InWord, InComment}
use Rattle.scan.specs.Words.{Where, between, word, comment}

abbrev pub where_of : State → Where
where_of Between = between
where_of (InWord from) = word from
where_of InComment = comment

-- where the word began that a byte of this class ends
abbrev pub ends : Where → Class → Option ℕ
ends between k = None
ends (word from) Blank = Some from
ends (word from) Open = Some from
ends (word from) Close = None
ends (word from) Other = None
ends comment k = None

-- where the word began that the text's end ends
abbrev pub ends_last : Where → Option ℕ
ends_last between = None
ends_last (word from) = Some from
ends_last comment = None

-- where the word began that the reader stands in, and 0 outside of words
abbrev pub word_start : Where → ℕ
word_start between = 0
word_start (word from) = from
word_start comment = 0
