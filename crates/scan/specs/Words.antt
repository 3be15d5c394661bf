-- The words of a text: longest runs of bytes that no blank and no comment parts, each with its place.
use Rattle.std.specs.Prelude.{ℕ, suc, ◌+◌, ◌-◌, cond, List, [], ◌∷◌, map, take, drop, ◌==◌}
use Rattle.scan.specs.Names.{Bytes}
use Rattle.scan.specs.declared.scanner.Class.{Class}
use Rattle.scan.specs.declared.scanner.Class.TheVariants.{Blank, Open, Close, Other}

pub record Word : Type 0 where
  pub at : ℕ
  pub text : Bytes

abbrev pub texts : List Word → List Bytes
texts ws = map (λ (w : Word). w.text) ws

-- 9, 10, 13 and 32 are blank, 123 and 125 open and close a comment
abbrev pub class_of : ℕ → Class
class_of b = cond (b == 9) Blank (cond (b == 10) Blank (cond (b == 13) Blank (cond (b == 32) Blank (cond (b == 123) Open (cond (b == 125) Close Other)))))

-- the word of the text t from one place up to another
abbrev pub cut : Bytes → ℕ → ℕ → Word
cut t from upto = record { at = from; text = take (upto - from) (drop from t) }

-- where a reader of the text stands: between words, in a word that began at a place, or in a comment
pub data Where : Type 0 where
  between : Where
  word : ℕ → Where
  comment : Where

-- where it stands after a byte of this class at the place p
abbrev pub after : Where → Class → ℕ → Where
after between Blank p = between
after between Open p = comment
after between Close p = word p
after between Other p = word p
after (word from) Blank p = between
after (word from) Open p = comment
after (word from) Close p = word from
after (word from) Other p = word from
after comment Blank p = comment
after comment Open p = comment
after comment Close p = between
after comment Other p = comment

-- the word that such a byte ends, before the later ones
abbrev pub ended : Bytes → Where → Class → ℕ → List Word → List Word
ended t between k p later = later
ended t (word from) Blank p later = cut t from p ∷ later
ended t (word from) Open p later = cut t from p ∷ later
ended t (word from) Close p later = later
ended t (word from) Other p later = later
ended t comment k p later = later

-- the words of the text t whose bytes from the place p on are the last argument
abbrev pub words_from : Bytes → Where → ℕ → Bytes → List Word
words_from t between p [] = []
words_from t (word from) p [] = cut t from p ∷ []
words_from t comment p [] = []
words_from t s p (b ∷ bs) = ended t s (class_of b) p (words_from t (after s (class_of b) p) (p + 1) bs)

-- the words from the place p on
abbrev pub words_after : Bytes → ℕ → List Word
words_after t p = words_from t between p (drop p t)

-- the bytes of the title, up to and with the first byte 10
abbrev pub title_length : Bytes → ℕ
title_length [] = 0
title_length (b ∷ bs) = cond (b == 10) 1 (suc (title_length bs))

-- the words of a drawing's text
abbrev pub words : Bytes → List Word
words t = words_after t (title_length t)
