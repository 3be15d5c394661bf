-- What is taken of what a drawing may have at most.
use Rattle.std.specs.Prelude.{ℕ, ◌+◌, Bool, cond, Ok, Err, Result, nat_le}
use Rattle.refusal.specs.declared.kinds.Fault.{Fault}
use Rattle.refusal.specs.declared.kinds.Refusal.TheVariants.{OverLimit}
use Rattle.draft.specs.declared.drafts.Room.{Room}

-- is there room for so much more?
abbrev pub fits : Room → ℕ → Bool
fits room more = nat_le (room.taken + more) room.most

-- taken, or over the limit at the place
abbrev pub claimed : Room → ℕ → ℕ → Result (Unit {0}) Fault
claimed room more place = cond (fits room more) (Ok tt) (Err (record { refusal = OverLimit; place = place }))

-- so much more where it fits, and no more where it does not
abbrev pub taken_after : Room → ℕ → ℕ
taken_after room more = cond (fits room more) (room.taken + more) room.taken
