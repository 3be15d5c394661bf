-- What is limited in a drawing, and what of it was taken so far.
use Rattle.std.specs.Prelude.{ℕ, ◌+◌, not, List, [], ◌∷◌, length, nat_le, nat_lt}
use Rattle.scan.specs.Names.{Bytes, is_name, among}
use Rattle.numbers.specs.Judged.{Judged, good, ◌>>=◌, check}
use Rattle.verdict.specs.Parts.{Claim, a_name, some_items, some_words}

-- one more name beside those met: 11 if it is malformed, 16 past 64, 17 if it was met
abbrev pub new_name : List Bytes → Bytes → Judged (Unit {0})
new_name met n = do
  _ ← check (is_name n) 11
  _ ← check (nat_lt (length met) 64) 16
  check (not (among met n)) 17

-- the parts' names met, the items and the memory words
pub record Taken : Type 0 where
  pub names : List Bytes
  pub items : ℕ
  pub memory : ℕ

abbrev pub nothing : Taken
nothing = record { names = []; items = 0; memory = 0 }

-- one claim more: 64 parts with names of their own, 2,048 items and 4,096 memory words at most
abbrev pub taking : Taken → Claim → Judged Taken
taking k (a_name n) = do
  _ ← new_name k.names n
  good (record { names = n ∷ k.names; items = k.items; memory = k.memory })
taking k (some_items e) = do
  _ ← check (nat_le (k.items + length e) 2048) 16
  good (record { names = k.names; items = k.items + length e; memory = k.memory })
taking k (some_words n) = do
  _ ← check (nat_le (k.memory + n) 4096) 16
  good (record { names = k.names; items = k.items; memory = k.memory + n })
