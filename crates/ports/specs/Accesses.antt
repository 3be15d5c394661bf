-- What is noted of a memory, by the bits of its operation.
use Rattle.std.specs.Prelude.{ℕ, cond, Option, Some, None, Bool, bit_and, ◌==◌}
use Rattle.ports.specs.declared.notes.Access.{Access}
use Rattle.ports.specs.declared.notes.Access.TheVariants.{Write, Read}

-- whether an operation has all the bits that are 1 in a mask
abbrev pub has : ℕ → ℕ → Bool
has operation mask = bit_and operation mask == mask

-- with bits 0 and 2 a writing, with bit 3 and not bit 0 a reading
abbrev pub access_of : ℕ → Option Access
access_of operation = cond (has operation 1) (cond (has operation 4) (Some Write) None) (cond (has operation 8) (Some Read) None)
