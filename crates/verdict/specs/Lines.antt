-- The order of a drawing's lines means nothing: what that says of texts.
use Rattle.std.specs.Prelude.{◌≡◌, ℕ, ◌+◌, ◌<◌, ◌≤◌, ◌⊎◌, List, [], ◌∷◌, map, length, slice_index_or}
use Rattle.graph.specs.Needs.{Orders, LeastOnCircle}
use Rattle.scan.specs.Names.{Bytes}
use Rattle.scan.specs.Words.{texts}
use Rattle.verdict.specs.Macros.{names_of}
use Rattle.verdict.specs.Sections.{word_from, Sections, sections}
use Rattle.verdict.specs.Circuit.{Circuit, needs}
use Rattle.verdict.specs.Verdict.{read, refuse, Drawn, drawn, verdict, accepted, refused}

-- the same elements in two orders
pub data Reordered {X : Type 0} : List X → List X → Type 0 where
  nothing : Reordered [] []
  keep : (x : X) {xs ys : List X} → Reordered xs ys → Reordered (x ∷ xs) (x ∷ ys)
  swap : (x y : X) (xs : List X) → Reordered (x ∷ y ∷ xs) (y ∷ x ∷ xs)
  twice : {xs ys zs : List X} → Reordered xs ys → Reordered ys zs → Reordered xs zs

-- the words of the macros, without their places
abbrev pub macro_texts : Sections → List (Bytes × Bytes)
macro_texts s = map (λ m. (m.0.text, m.1.text)) s.macros

-- the words of each part, without their places
abbrev pub part_texts : Sections → List (List Bytes)
part_texts s = map texts s.parts

-- all words of macros, list and each part alike; only the parts' order differs
pub record SameButOrder (s s' : Sections) : Type 0 where
  pub macros : macro_texts s ≡ macro_texts s'
  pub list : texts s.listed ≡ texts s'.listed
  pub parts : Reordered (part_texts s) (part_texts s')

-- two such texts, if both are accepted, give one circuit
abbrev pub LinesMeanNothing : Type 0
LinesMeanNothing =
    (t t' : Bytes) (c c' : Circuit) (n n' p p' : ℕ) → verdict t ≡ accepted c n p → verdict t' ≡ accepted c' n' p' →
    SameButOrder (sections t) (sections t') → (c ≡ c') × (n ≡ n')

-- a text with its two stops, and with a text for each macro
pub record Complete (s : Sections) : Type 0 where
  pub no_half : s.half ≡ []
  pub list_stop : ℕ
  pub list_stopped : s.after_list ≡ word_from list_stop
  pub parts_stop : ℕ
  pub parts_stopped : s.after_parts ≡ word_from parts_stop

-- such a text is accepted if the other one is, as the same circuit
abbrev pub AcceptedAlike : Type 0
AcceptedAlike =
    (t t' : Bytes) (c : Circuit) (n p : ℕ) → verdict t ≡ accepted c n p → length t' ≤ 131072 → (whole : Complete (sections t')) →
    SameButOrder (sections t) (sections t') → verdict t' ≡ accepted c n (whole.parts_stop + 1)

-- v sets each ALU and selector after those that it reads
abbrev pub SetsInOrder : Circuit → List ℕ → Type 0
SetsInOrder c v = Orders (length c.parts) (needs c.parts) v

-- an order exists, and the text is accepted
pub record Ordered (t : Bytes) (d : Drawn) : Type 0 where
  pub order : (v : List ℕ) × SetsInOrder d.circuit v
  pub verdict_is : verdict t ≡ accepted d.circuit d.count d.end

-- no order exists, and the text is refused at the least name on a circle
pub record Circular (t : Bytes) (d : Drawn) : Type 0 where
  pub no_order : (v : List ℕ) → SetsInOrder d.circuit v → ⊥
  pub at : ℕ
  pub least : LeastOnCircle (length d.circuit.parts) (needs d.circuit.parts) at
  pub verdict_is : verdict t ≡ refused 23 (slice_index_or d.names at ([], 0)).1

-- a text is refused as circular exactly if it meets nothing else and no order exists
abbrev pub CircularExactly : Type 0
CircularExactly =
    (t : Bytes) →
    ((d : Drawn) → drawn t ≡ read d → Ordered t d ⊎ Circular t d)
    × ((n p : ℕ) → drawn t ≡ refuse n p → (verdict t ≡ refused n p) × (n < 23))

-- the names whose places are told are those of the circuit, in its order
abbrev pub NamesByRank : Type 0
NamesByRank = (t : Bytes) (d : Drawn) → drawn t ≡ read d → names_of d.names ≡ names_of d.circuit.parts
