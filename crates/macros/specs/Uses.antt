-- The use of a macro with which a text begins, and macros as entries of a table.
use Rattle.std.specs.Prelude.{ℕ, cond, List, [], ◌∷◌, map, Some, None, Option}
use Rattle.scan.specs.Names.{Bytes, is_letter}
use Rattle.verdict.specs.Macros.{run, opens_use, Table}
use Rattle.macros.specs.declared.uses.Macro.{Macro}

-- the run of letters and digits at the start, if a letter is first
abbrev pub leading_name : Bytes → Option Bytes
leading_name [] = None
leading_name (c ∷ cs) = cond (is_letter c) (Some (run (c ∷ cs))) None

-- the name in the use with which a text begins, if it begins with one
abbrev pub use_at : Bytes → Option Bytes
use_at [] = None
use_at (b ∷ bs) = cond (opens_use b bs) (Some (run bs)) None

-- a macro's name with its text
abbrev pub entry : Macro → Bytes × Bytes
entry m = (m.name.now, m.text.now)

abbrev pub entries : List Macro → Table
entries ms = map entry ms

-- where the macros' `~` stand
abbrev pub places_of : List Macro → List ℕ
places_of ms = map (λ m. m.place) ms
