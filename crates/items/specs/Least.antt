-- Of several faults, the one of the smallest number.
use Rattle.std.specs.Prelude.{ℕ, cond, Some, None, Ok, Err, Option, Result, nat_lt}
use Rattle.refusal.specs.Numbers.{number}
use Rattle.refusal.specs.declared.kinds.Fault.{Fault}
use Rattle.items.specs.declared.smallest.Smallest.{Smallest}

-- the number of a fault's refusal
abbrev pub fault_number : Fault → ℕ
fault_number f = number f.refusal

-- the second only if its number is smaller
abbrev pub lesser : Fault → Fault → Fault
lesser f g = cond (nat_lt (fault_number g) (fault_number f)) g f

-- what both give, or the fault of one, or the lesser of two
abbrev pub paired : {X Y : Type 0} → Result X Fault → Result Y Fault → Result (X × Y) Fault
paired (Ok x) (Ok y) = Ok (x, y)
paired (Ok x) (Err g) = Err g
paired (Err f) (Ok y) = Err f
paired (Err f) (Err g) = Err (lesser f g)

-- the least fault that was met, if any was
abbrev pub least_met : Smallest → Option Fault
least_met s = s.met

-- one fault more
abbrev pub with_fault : Option Fault → Fault → Fault
with_fault None g = g
with_fault (Some f) g = lesser f g

-- refused with the least fault, if there is one
abbrev pub refused_by : Option Fault → Result (Unit {0}) Fault
refused_by None = Ok tt
refused_by (Some f) = Err f
