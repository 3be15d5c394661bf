-- The checks after the closing stop, of the parts and the list that were read, and the circuit that they make.
use Rattle.std.specs.Prelude.{◌≡◌, ℕ, Bool, List, map, length, Ok, Err, vec_items, Result}
use Rattle.refusal.specs.Numbers.{number}
use Rattle.refusal.specs.declared.kinds.Failure.{Failure}
use Rattle.refusal.specs.declared.kinds.Failure.TheVariants.{Refused, NoMemory}
use Rattle.graph.specs.Needs.{Orders}
use Rattle.scan.specs.Names.{Bytes}
use Rattle.verdict.specs.Macros.{names_of}
use Rattle.verdict.specs.Parts.{Body}
use Rattle.verdict.specs.Circles.{on_circle}
use Rattle.verdict.specs.Circuit as verdict
use Rattle.verdict.specs.Circuit.{sorted, circuit_of, needs, body_reads, body_at}
use Rattle.verdict.specs.Verdict.{Read, read, refuse, ◌>>=◌, places, refuse_first, check_among}
use Rattle.circuit.specs.declared.wiring.Circuit.{Circuit}
use Rattle.circuit.specs.Meaning.{meaning}
use Rattle.draft.specs.Entries.{entry_of, place_of}
use Rattle.draft.specs.declared.entry.Entry.{Entry}
use Rattle.draft.specs.Drafts.{parts_of, places_of, references_of}
use Rattle.draft.specs.declared.drafts.Draft.{Draft}

-- 20, then 21, each at the least name, then 22 in text order
abbrev pub named : Draft → List Entry → Read (Unit {0})
named d es = do
  _ ← check_among 20 (names_of (sorted (places_of d))) (sorted (map place_of es))
  _ ← check_among 21 (names_of (sorted (map place_of es))) (sorted (places_of d))
  check_among 22 (names_of (sorted (places_of d))) (references_of d)

-- the circuit of the parts and the list
abbrev pub wired : Draft → List Entry → verdict.Circuit
wired d es = circuit_of (map entry_of es) (parts_of d)

-- 23, at the least name on a circle
abbrev pub uncircled : Draft → List Entry → Read (Unit {0})
uncircled d es = refuse_first 23 (on_circle (length (wired d es).parts) (needs (wired d es).parts)) (places (sorted (places_of d)))

-- does the part of rank i read the one of rank j, be it a memory too?
abbrev pub reads_part : List (Bytes × Body ℕ) → ℕ → ℕ → Bool
reads_part ps i j = body_reads j (body_at ps i)

-- the checks are passed; the circuit means that of the parts and the list, and its order sets each part after all that it reads
pub record Joined (d : Draft) (es : List Entry) (c : Circuit) : Type 0 where
  pub checked : named d es ≡ read tt
  pub no_circle : uncircled d es ≡ read tt
  pub circuit : meaning c ≡ wired d es
  pub order : Orders (length (meaning c).parts) (reads_part (meaning c).parts) (vec_items c.order)

abbrev pub Linked : Draft → List Entry → Result Circuit Failure → Type 0
Linked d es (Ok c) = Joined d es c
Linked d es (Err (Refused f)) = (named d es >>= (λ u. uncircled d es)) ≡ refuse (number f.refusal) f.place
Linked d es (Err NoMemory) = Unit {0}
