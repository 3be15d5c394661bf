-- What becomes of a field that is being written once a text was put behind what it held.
use Rattle.std.specs.Prelude.{◌≡◌, vec_items, Result}
use Rattle.refusal.specs.declared.kinds.Failure.{Failure}
use Rattle.scan.specs.Names.{Bytes}
use Rattle.macros.specs.declared.expand.Field.{Field}
use Rattle.macros.specs.Filling.{Wrote}

-- it writes to the same buffer for the same place, and `more` was put behind what the buffer held, or is too long
abbrev pub Grew : Field → Field → Bytes → Result Unit Failure → Type 0
Grew held holds more r =
    (holds.out.ghost_name ≡ held.out.ghost_name) × (holds.place ≡ held.place)
    × Wrote held.place (vec_items held.out.now) (vec_items holds.out.now) more r
