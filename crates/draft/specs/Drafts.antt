-- What the parts that were read so far mean, and what they took of what is limited in a drawing.
use Rattle.std.specs.Prelude.{◌≡◌, ℕ, List, [], map, reverse, vec_items}
use Rattle.scan.specs.Names.{Bytes}
use Rattle.scan.specs.NameBytes.{name_bytes}
use Rattle.scan.specs.declared.names.Name.{Name}
use Rattle.word.specs.declared.value.Word.{Word}
use Rattle.verdict.specs.Items.{Expression}
use Rattle.verdict.specs.Parts.{Part, Body, alu, selector, memory}
use Rattle.verdict.specs.Limits.{Taken}
use Rattle.circuit.specs.declared.parts.Item.{Item}
use Rattle.circuit.specs.declared.parts.Span.{Span}
use Rattle.circuit.specs.Rows.{row}
use Rattle.circuit.specs.declared.parts.Body.{Body as StoredBody}
use Rattle.circuit.specs.declared.parts.Body.TheVariants.{Alu, Selector, Memory}
use Rattle.circuit.specs.Meaning.{item_by, values_of}
use Rattle.draft.specs.declared.drafts.Draft.{Draft}
use Rattle.draft.specs.declared.drafts.Drafted.{Drafted}
use Rattle.draft.specs.declared.drafts.Reference.{Reference}

-- the expression that a span of the items is
abbrev pub expression_of : List (Item Name) → Span → Expression Bytes
expression_of items s = map (item_by name_bytes) (row items s)

-- what a part is, its expressions, cases and first words being spans of the draft's lists
abbrev pub body_of : List (Item Name) → List Span → List Word → StoredBody Span Span Span → Body Bytes
body_of items cases first (Memory a d o vs) = memory (expression_of items a) (expression_of items d) (expression_of items o) (values_of (row first vs))
body_of items cases first (Alu f l r) = alu (expression_of items f) (expression_of items l) (expression_of items r)
body_of items cases first (Selector s cs) = selector (expression_of items s) (map (expression_of items) (row cases cs))

-- a part by its name and what it is
abbrev pub part_of : List (Item Name) → List Span → List Word → Drafted → Part
part_of items cases first p = (name_bytes p.name, body_of items cases first p.body)

-- the parts in text order
abbrev pub parts_of : Draft → List Part
parts_of d = map (part_of (vec_items d.kept) (vec_items d.cases) (vec_items d.first)) (vec_items d.parts)

abbrev pub names_of : Draft → List Bytes
names_of d = map (λ (p : Drafted). name_bytes p.name) (vec_items d.parts)

-- each part's name with its place
abbrev pub places_of : Draft → List (Bytes × ℕ)
places_of d = map (λ (p : Drafted). (name_bytes p.name, p.place)) (vec_items d.parts)

-- each name in an expression with the place of its field
abbrev pub references_of : Draft → List (Bytes × ℕ)
references_of d = map (λ (r : Reference). (name_bytes r.name, r.place)) (vec_items d.references)

-- the names met, the last one first, the items and the memory words
abbrev pub taken_of : Draft → Taken
taken_of d = record { names = reverse (names_of d); items = d.items.taken; memory = d.words.taken }

-- nothing was read yet
pub record Blank (d : Draft) : Type 0 where
  pub parts : vec_items d.parts ≡ []
  pub kept : vec_items d.kept ≡ []
  pub cases : vec_items d.cases ≡ []
  pub first : vec_items d.first ≡ []
  pub references : vec_items d.references ≡ []
  pub items : d.items.taken ≡ 0
  pub most_items : d.items.most ≡ 2048
  pub words : d.words.taken ≡ 0
  pub most_words : d.words.most ≡ 4096
