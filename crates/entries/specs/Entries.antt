-- What the macros and the list of a drawing come to.
use Rattle.std.specs.Prelude.{◌≡◌, List, [], ◌++◌, map, Ok, Err, vec_items, Result, Vec}
use Rattle.std.specs.declared.alloc.Global.{Global}
use Rattle.refusal.specs.Numbers.{number}
use Rattle.refusal.specs.declared.kinds.Failure.{Failure}
use Rattle.refusal.specs.declared.kinds.Failure.TheVariants.{Refused, NoMemory}
use Rattle.scan.specs.Names.{Bytes}
use Rattle.scan.specs.Words.{Word, texts}
use Rattle.verdict.specs.Circuit.{sorted}
use Rattle.verdict.specs.Macros.{finished, field}
use Rattle.verdict.specs.Verdict.{Read, read, refuse, ◌>>=◌, places, check_macro_names, check_macros, macro_table, macro_places, entry, check_list}
use Rattle.sections.specs.Walks.{twos, odd}
use Rattle.macros.specs.Tables.{table_of}
use Rattle.macros.specs.declared.table.Macros.{Macros}
use Rattle.draft.specs.Entries.{entry_of, place_of}
use Rattle.draft.specs.declared.entry.Entry.{Entry}

-- the macros' names one after the other, and then their texts, of the words of the first section
abbrev pub macros_judged : List Word → Read (Unit {0})
macros_judged ws = do
  _ ← check_macro_names [] (map (λ m. m.0) (twos ws) ++ odd ws)
  check_macros (sorted (macro_table (twos ws))) (places (macro_places (twos ws)))

-- the macros meet no refusal, and fields are judged as with those of the words; or the refusal that they meet
abbrev pub MacrosRead : List Word → Result Macros Failure → Type 0
MacrosRead ws (Ok m) = (macros_judged ws ≡ read tt) × ((w : Bytes) → field (finished (table_of m)) w ≡ field (finished (macro_table (twos ws))) w)
MacrosRead ws (Err (Refused f)) = macros_judged ws ≡ refuse (number f.refusal) f.place
MacrosRead ws (Err NoMemory) = Unit {0}

-- the list meets no refusal: its names with their stars, and the places of their words
pub record Listed (ws : List Word) (es : List Entry) : Type 0 where
  pub judged : check_list [] ws ≡ read tt
  pub names : map entry_of es ≡ map entry (texts ws)
  pub places : map place_of es ≡ map (λ (w : Word). ((entry w.text).0, w.at)) ws

abbrev pub ListRead : List Word → Result (Vec Entry Global) Failure → Type 0
ListRead ws (Ok v) = Listed ws (vec_items v)
ListRead ws (Err (Refused f)) = check_list [] ws ≡ refuse (number f.refusal) f.place
ListRead ws (Err NoMemory) = Unit {0}
