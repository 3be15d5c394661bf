-- Where a name stands among others.
use Rattle.std.specs.Prelude.{ℕ, suc, cond, List, [], ◌∷◌, Some, None, Option}
use Rattle.std.specs.Option.{option_map}
use Rattle.scan.specs.Names.{Bytes, same}

-- the place of the first that is the same bytes
abbrev pub position_in : List Bytes → Bytes → Option ℕ
position_in [] n = None
position_in (m ∷ ms) n = cond (same m n) (Some 0) (option_map suc (position_in ms n))
