-- The clean listing of a circuit: the text that is read back as it.
use Rattle.std.specs.Prelude.{ℕ, Bool, cond, List, [], ◌∷◌, ◌++◌, map, length, decimal, slice_index_or}
use Rattle.scan.specs.Names.{Bytes}
use Rattle.verdict.specs.Items.{Item, constant, bits, Expression}
use Rattle.verdict.specs.Macros.{names_of}
use Rattle.verdict.specs.Parts.{Body, alu, selector, memory}
use Rattle.verdict.specs.Circuit.{Circuit}

-- pieces with a separator between them
abbrev pub joined_by : ℕ → List Bytes → Bytes
joined_by s [] = []
joined_by s (p ∷ []) = p
joined_by s (p ∷ q ∷ ps) = p ++ (s ∷ joined_by s (q ∷ ps))

-- `value.width` or `name.b.t`
abbrev pub item_text : List Bytes → Item ℕ → Bytes
item_text names (constant v w) = joined_by 46 (decimal v ∷ decimal w ∷ [])
item_text names (bits r b t) = joined_by 46 (slice_index_or names r [] ∷ decimal b ∷ decimal t ∷ [])

abbrev pub expression_text : List Bytes → Expression ℕ → Bytes
expression_text names e = joined_by 44 (map (item_text names) e)

-- the letter, the name and the fields; a memory's size is `-n`, with its first words
abbrev pub part_texts : List Bytes → Bytes → Body ℕ → List Bytes
part_texts names n (alu f l r) = (65 ∷ []) ∷ n ∷ map (expression_text names) (f ∷ l ∷ r ∷ [])
part_texts names n (selector s cs) = (83 ∷ []) ∷ n ∷ map (expression_text names) (s ∷ cs)
part_texts names n (memory a d o vs) = (77 ∷ []) ∷ n ∷ (map (expression_text names) (a ∷ d ∷ o ∷ []) ++ ((45 ∷ decimal (length vs)) ∷ map decimal vs))

-- a listed name, with its star
abbrev pub entry_text : Bytes × Bool → Bytes
entry_text e = e.0 ++ cond e.1 (42 ∷ []) []

-- `clean`, the list and a stop, and the parts and a stop, a line each
abbrev pub listing_lines : Circuit → List Bytes
listing_lines c =
    (99 ∷ 108 ∷ 101 ∷ 97 ∷ 110 ∷ [])
    ∷ (map entry_text c.listed ++ ((46 ∷ []) ∷ (map (λ p. joined_by 32 (part_texts (names_of c.parts) p.0 p.1)) c.parts ++ ((46 ∷ []) ∷ []))))

abbrev pub in_lines : List Bytes → Bytes
in_lines [] = []
in_lines (l ∷ ls) = l ++ (10 ∷ in_lines ls)

abbrev pub listing : Circuit → Bytes
listing c = in_lines (listing_lines c)
