-- The sections of a text: macros, list, and the words of each part.
use Rattle.std.specs.Prelude.{ℕ, Bool, false, cond, List, [], ◌∷◌, length, ◌==◌}
use Rattle.scan.specs.Names.{Bytes}
use Rattle.scan.specs.Words.{Word, words}
use Rattle.verdict.specs.Letters.{is_part_letter, is_stop}

-- what follows a row of words: a word at a place, or the end of the text, at its length
pub data Next : Type 0 where
  word_from : ℕ → Next
  text_end : ℕ → Next

abbrev pub begins_macro : Bytes → Bool
begins_macro [] = false
begins_macro (b ∷ bs) = b == 126

-- the macros, each two words; a `~` word with which the text ends; the words after them
pub record Macros : Type 0 where
  pub pairs : List (Word × Word)
  pub half : List Word
  pub later : List Word

abbrev pub add_pair : Word → Word → Macros → Macros
add_pair w t m = record { pairs = (w, t) ∷ m.pairs; half = m.half; later = m.later }

abbrev pub macro_words : List Word → Macros
macro_words [] = record { pairs = []; half = []; later = [] }
macro_words (w ∷ []) = cond (begins_macro w.text) (record { pairs = []; half = w ∷ []; later = [] }) (record { pairs = []; half = []; later = w ∷ [] })
macro_words (w ∷ t ∷ ws) = cond (begins_macro w.text) (add_pair w t (macro_words ws)) (record { pairs = []; half = []; later = w ∷ t ∷ ws })

-- the words up to a stop, what follows them, and the words after the stop
pub record Row : Type 0 where
  pub row : List Word
  pub next : Next
  pub later : List Word

abbrev pub add_word : Word → Row → Row
add_word w r = record { row = w ∷ r.row; next = r.next; later = r.later }

-- in a text of the length `end`
abbrev pub up_to_stop : ℕ → List Word → Row
up_to_stop end [] = record { row = []; next = text_end end; later = [] }
up_to_stop end (w ∷ ws) = cond (is_stop w.text) (record { row = []; next = word_from w.at; later = ws }) (add_word w (up_to_stop end ws))

abbrev pub opens_part : List Word → Bool
opens_part [] = false
opens_part (w ∷ ws) = is_part_letter w.text

-- one more word before the parts: alone if a part opens straight after it
abbrev pub add_to_part : Word → List (List Word) → List (List Word)
add_to_part w [] = (w ∷ []) ∷ []
add_to_part w (p ∷ ps) = cond (opens_part p) ((w ∷ []) ∷ p ∷ ps) ((w ∷ p) ∷ ps)

-- the words cut before each part letter
abbrev pub part_words : List Word → List (List Word)
part_words [] = []
part_words (w ∷ ws) = add_to_part w (part_words ws)

pub record Sections : Type 0 where
  pub macros : List (Word × Word)
  pub half : List Word
  pub listed : List Word
  pub after_list : Next
  pub parts : List (List Word)
  pub after_parts : Next

abbrev pub sections_from : ℕ → Macros → Sections
sections_from end m =
    let l = up_to_stop end m.later in
    let p = up_to_stop end l.later in
    record { macros = m.pairs; half = m.half; listed = l.row; after_list = l.next; parts = part_words p.row; after_parts = p.next }

abbrev pub sections : Bytes → Sections
sections t = sections_from (length t) (macro_words (words t))
