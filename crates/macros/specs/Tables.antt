-- The macros of a drawing: what is judged of them, and what the table that is made of them means.
use Rattle.std.specs.Prelude.{◌≡◌, ℕ, Bool, false, cond, not, List, [], ◌∷◌, map, length, Ok, Err, vec_items, Result, nat_le, slice_index, slice_index_or}
use Rattle.refusal.specs.Numbers.{number}
use Rattle.refusal.specs.declared.kinds.Failure.{Failure}
use Rattle.refusal.specs.declared.kinds.Failure.TheVariants.{Refused, NoMemory}
use Rattle.scan.specs.Names.{Bytes, among}
use Rattle.verdict.specs.Circuit.{sorted}
use Rattle.verdict.specs.Macros.{Table, names_of, finished, field, all_known}
use Rattle.verdict.specs.Verdict.{Read, read, refuse, places, check_macros}
use Rattle.macros.specs.declared.uses.Macro.{Macro}
use Rattle.macros.specs.declared.table.Macros.{Macros}
use Rattle.macros.specs.Uses.{entries, places_of}

-- the table that the macros make
abbrev pub table_of : Macros → Table
table_of m = entries (vec_items m.table)

-- no two names are the same
abbrev pub Distinct : List Bytes → Type 0
Distinct [] = Unit {0}
Distinct (n ∷ ns) = (among ns n ≡ false) × Distinct ns

-- the entries at these places
abbrev pub picked : Table → List ℕ → Table
picked t is = map (λ i. slice_index_or t i ([], [])) is

-- for each macro of the table: does it use an unknown one?
abbrev pub unknowns : Table → List Bool
unknowns t = map (λ m. not (all_known (names_of t) m.1)) t

-- each macro's name with the place of its `~`
abbrev pub placed : List Macro → List (Bytes × ℕ)
placed ms = map (λ m. (m.name.now, m.place)) ms

-- 16 at the 65th macro; or 18, then 19, each at the least macro concerned
abbrev pub judged : List Macro → Read (Unit {0})
judged ms = cond (nat_le (length ms) 64) (check_macros (sorted (entries ms)) (places (sorted (placed ms)))) (refuse 16 (slice_index (places_of ms) 64))

-- the macros meet no refusal, and if no two have one name then fields are judged with the table that is made as with the macros in
-- the order of the drawing; or the refusal that they meet
abbrev pub Made : List Macro → Result Macros Failure → Type 0
Made ms (Ok m) = (judged ms ≡ read tt) × (Distinct (names_of (entries ms)) → (w : Bytes) → field (finished (table_of m)) w ≡ field (finished (entries ms)) w)
Made ms (Err (Refused f)) = judged ms ≡ refuse (number f.refusal) f.place
Made ms (Err NoMemory) = Unit {0}
