-- What a port's storage of taken words holds.
use Rattle.std.specs.Prelude.{ℕ, ◌-◌, List, map, take}
use Rattle.word.specs.declared.value.Word.{Word}
use Rattle.device.specs.declared.taken.Taken.{Taken}

-- words as numbers
abbrev pub values : List Word → List ℕ
values = map (λ w. w.value)

-- the words taken, the last of them last
abbrev pub kept : (n : ℕ) → Taken n → List ℕ
kept n t = values (take t.count t.words)

-- for how many more there is space
abbrev pub room : (n : ℕ) → Taken n → ℕ
room n t = n - t.count
