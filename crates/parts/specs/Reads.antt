-- What reading one part from its words comes to, and what it adds to the parts that were read before.
use Rattle.std.specs.Prelude.{◌≡◌, ℕ, List, [], ◌∷◌, ◌++◌, Ok, Err, Result, slice_index_or}
use Rattle.refusal.specs.Numbers.{number}
use Rattle.refusal.specs.declared.kinds.Failure.{Failure}
use Rattle.refusal.specs.declared.kinds.Failure.TheVariants.{Refused, NoMemory}
use Rattle.scan.specs.Names.{Bytes}
use Rattle.scan.specs.Words.{Word, texts}
use Rattle.verdict.specs.Items.{constant, bits, Expression}
use Rattle.verdict.specs.Macros.{Table}
use Rattle.verdict.specs.Parts.{Part, Reading, reads, refuses, lacks, claims, a_name, some_items, some_words, read_part}
use Rattle.verdict.specs.Limits.{Taken}
use Rattle.verdict.specs.Sections.{Next}
use Rattle.verdict.specs.Verdict.{Read, read, refuse, settle, place_in}
use Rattle.draft.specs.Drafts.{parts_of, places_of, references_of, taken_of}
use Rattle.draft.specs.declared.drafts.Draft.{Draft}

-- the names in an expression, each with this place
abbrev pub named_in : ℕ → Expression Bytes → List (Bytes × ℕ)
named_in place [] = []
named_in place (constant v w ∷ is) = named_in place is
named_in place (bits n b t ∷ is) = (n, place) ∷ named_in place is

-- the names in the expressions of a part, each with the place of its field, in text order
abbrev pub referred : {X : Type 0} → List Word → Reading X → List (Bytes × ℕ)
referred ws (reads x) = []
referred ws (refuses n i) = []
referred ws (lacks n) = []
referred ws (claims (a_name n) i r) = referred ws r
referred ws (claims (some_items e) i r) = named_in (place_in ws i) e ++ referred ws r
referred ws (claims (some_words n) i r) = referred ws r

-- what the words of a part come to after the parts that were read before, with these macros
abbrev pub comes_to : Table → List Word → Next → Draft → Read (Part × Taken)
comes_to t ws next d = settle ws next (taken_of d) (read_part t (texts ws))

-- one part more behind those that were there
pub record Added (t : Table) (ws : List Word) (next : Next) (before after : Draft) : Type 0 where
  pub part : Part
  pub settled : comes_to t ws next before ≡ read (part, taken_of after)
  pub parts : parts_of after ≡ parts_of before ++ part ∷ []
  pub places : places_of after ≡ places_of before ++ (slice_index_or (texts ws) 1 [], place_in ws 1) ∷ []
  pub references : references_of after ≡ references_of before ++ referred ws (read_part t (texts ws))

-- the part is added, or the refusal that it meets
abbrev pub PartRead : Table → List Word → Next → Draft → Draft → Result (Unit {0}) Failure → Type 0
PartRead t ws next before after (Ok u) = Added t ws next before after
PartRead t ws next before after (Err (Refused f)) = comes_to t ws next before ≡ refuse (number f.refusal) f.place
PartRead t ws next before after (Err NoMemory) = Unit {0}
