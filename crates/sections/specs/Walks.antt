-- Walks over words: two at a time, and part by part.
use Rattle.std.specs.Prelude.{◌≡◌, ℕ, suc, ◌-◌, Bool, true, false, cond, ◌&&◌, List, [], ◌∷◌, take, drop}
use Rattle.scan.specs.Words.{Word}
use Rattle.verdict.specs.Sections.{begins_macro, part_words}

-- the words two by two
abbrev pub twos : List Word → List (Word × Word)
twos [] = []
twos (w ∷ []) = []
twos (w ∷ t ∷ ws) = (w, t) ∷ twos ws

-- the last word, where the count of words is odd
abbrev pub odd : List Word → List Word
odd [] = []
odd (w ∷ []) = w ∷ []
odd (w ∷ t ∷ ws) = odd ws

-- the first word of each two begins with `~`, and so does the last where it is alone
abbrev pub marked : List Word → Bool
marked [] = true
marked (w ∷ []) = begins_macro w.text
marked (w ∷ t ∷ ws) = begins_macro w.text && marked ws

-- how many words the macros have; `second` says whether a macro's second word comes first
abbrev pub macro_count : (second : Bool) → List Word → ℕ
macro_count second [] = 0
macro_count true (t ∷ ws) = suc (macro_count false ws)
macro_count false (w ∷ ws) = cond (begins_macro w.text) (suc (macro_count true ws)) 0

-- of the parts from one place on, the first reaches up to another place, and the others follow there
abbrev pub PartUpTo : List Word → ℕ → ℕ → Type 0
PartUpTo ws from to = part_words (drop from ws) ≡ take (to - from) (drop from ws) ∷ part_words (drop to ws)
