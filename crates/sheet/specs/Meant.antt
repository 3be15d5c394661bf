-- What a sheet means as a device.
use Rattle.std.specs.Prelude.{ℕ, cond, List, [], length, nat_lt}
use Rattle.scan.specs.Names.{Bytes}
use Rattle.scan.specs.Words.{Word, words_after}
use Rattle.device.specs.Meaning.{Meaning, unserved}
use Rattle.device.specs.Rows.{row}
use Rattle.sheet.specs.Slots.{slot_meaning, fresh}
use Rattle.sheet.specs.declared.Sheet.{Sheet}

abbrev pub sheet_meaning : Sheet → Meaning
sheet_meaning s = row slot_meaning s.slots.items

-- a sheet at the start, where these are the words after the count: the ports 0 to 15, and no others
abbrev pub fresh_sheet : List Word → Meaning
fresh_sheet ws = λ p. cond (nat_lt p 16) (fresh ws p) unserved

-- the words of the text t from the place p on, and none of a text of 4 GiB or more
abbrev pub read : Bytes → ℕ → List Word
read t p = cond (nat_lt (length t) 4294967296) (words_after t p) []
