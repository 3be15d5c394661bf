-- Words that structure a drawing: the letters that open a part, and the stop.
use Rattle.std.specs.Prelude.{Bool, ◌||◌, [], ◌∷◌}
use Rattle.scan.specs.Names.{Bytes, same}

-- exactly A, S or M
abbrev pub is_part_letter : Bytes → Bool
is_part_letter w = same w (65 ∷ []) || same w (83 ∷ []) || same w (77 ∷ [])

-- exactly a dot
abbrev pub is_stop : Bytes → Bool
is_stop w = same w (46 ∷ [])
