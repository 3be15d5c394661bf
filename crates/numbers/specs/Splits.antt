-- Bytes, and the pieces of a text between separators.
use Rattle.std.specs.Prelude.{ℕ, Bool, true, false, List, [], ◌∷◌, Some, None, Option, ◌==◌}
use Rattle.std.specs.Borrow.{Bor}
use Rattle.numbers.specs.declared.pieces.Pieces.{Pieces}

-- a text, or a piece of one
abbrev pub Bytes : Type 0
Bytes = List ℕ

-- one more byte before the pieces: a separator opens a new piece
abbrev pub cut_at : Bool → ℕ → List Bytes → List Bytes
cut_at true b ps = [] ∷ ps
cut_at false b [] = (b ∷ []) ∷ []
cut_at false b (p ∷ ps) = (b ∷ p) ∷ ps

-- the pieces between the separators s, one more than there are separators
abbrev pub split : ℕ → Bytes → List Bytes
split s [] = [] ∷ []
split s (b ∷ bs) = cut_at (b == s) b (split s bs)

-- the pieces of what is left of a text; none where nothing is left, not even an empty piece
abbrev pub split_left : ℕ → Option (Bor Bytes) → List Bytes
split_left s None = []
split_left s (Some text) = split s text.now

-- the pieces that are still to be handed out
abbrev pub remaining : Pieces → List Bytes
remaining p = split_left p.separator p.rest
