-- What one port of a sheet means.
use Rattle.std.specs.Prelude.{ℕ, List, []}
use Rattle.scan.specs.Words.{Word}
use Rattle.device.specs.Meaning.{Port}
use Rattle.device.specs.Kept.{kept, room}
use Rattle.sheet.specs.Waiting.{waiting_at}
use Rattle.sheet.specs.Waits.{waits}
use Rattle.sheet.specs.declared.slot.Slot.{Slot}

-- the port as it stands
abbrev pub slot_meaning : Slot → Port
slot_meaning s = record { waiting = waits s.words; taken = kept 16 s.taken; space = room 16 s.taken }

-- port p at the start, where these are the words after the count
abbrev pub fresh : List Word → ℕ → Port
fresh ws p = record { waiting = waiting_at p ws; taken = []; space = 16 }
