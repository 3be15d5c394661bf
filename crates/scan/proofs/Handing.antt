-- A reader that is run to its end hands out the words that were left, one after the other.
use Rattle.std.proofs.Common.{ap, length}
use Rattle.std.proofs.lemmas.Iterator.{YieldsList}
use Rattle.std.proofs.lemmas.Iterator.Consumers.{YieldsList-from_shown}
use Rattle.scan.specs.declared.reader.Reader.{Reader}
use Rattle.scan.specs.Reading.{HandsOut, left, word_of}

pub hands_all : (r : Reader) → YieldsList HandsOut word_of r (left r)
hands_all = YieldsList-from_shown HandsOut word_of left (λ s t h. ap length h.word.0) (λ s x t h. h.word)
