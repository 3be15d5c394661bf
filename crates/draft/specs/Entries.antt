-- What a listed name means.
use Rattle.std.specs.Prelude.{ℕ, Bool}
use Rattle.scan.specs.Names.{Bytes}
use Rattle.scan.specs.NameBytes.{name_bytes}
use Rattle.draft.specs.declared.entry.Entry.{Entry}

-- a listed name, and whether it is traced
abbrev pub entry_of : Entry → Bytes × Bool
entry_of e = (name_bytes e.name, e.traced)

-- a listed name with the place of its word
abbrev pub place_of : Entry → Bytes × ℕ
place_of e = (name_bytes e.name, e.place)
