-- The circuit of a drawing: the listed names, and the parts by rank.
use Rattle.std.specs.Prelude.{ℕ, suc, Bool, true, false, cond, not, ◌&&◌, ◌||◌, List, [], ◌∷◌, map, ◌==◌, slice_index_or}
use Rattle.scan.specs.Names.{Bytes, same, before}
use Rattle.verdict.specs.Items.{Item, constant, bits, Expression}
use Rattle.verdict.specs.Macros.{names_of}
use Rattle.verdict.specs.Parts.{Body, alu, selector, memory, Part}

-- before the first entry with a later name
abbrev pub insert : {X : Type 0} → Bytes × X → List (Bytes × X) → List (Bytes × X)
insert e [] = e ∷ []
insert e (x ∷ xs) = cond (before e.0 x.0) (e ∷ x ∷ xs) (x ∷ insert e xs)

-- by name
abbrev pub sorted : {X : Type 0} → List (Bytes × X) → List (Bytes × X)
sorted [] = []
sorted (e ∷ es) = insert e (sorted es)

-- the place of a name among others
abbrev pub rank_in : List Bytes → Bytes → ℕ
rank_in [] n = 0
rank_in (m ∷ ms) n = cond (same m n) 0 (suc (rank_in ms n))

abbrev pub rank_item : List Bytes → Item Bytes → Item ℕ
rank_item names (constant v w) = constant v w
rank_item names (bits n b t) = bits (rank_in names n) b t

abbrev pub rank_expression : List Bytes → Expression Bytes → Expression ℕ
rank_expression names e = map (rank_item names) e

abbrev pub rank_body : List Bytes → Body Bytes → Body ℕ
rank_body names (alu f l r) = alu (rank_expression names f) (rank_expression names l) (rank_expression names r)
rank_body names (selector s cs) = selector (rank_expression names s) (map (rank_expression names) cs)
rank_body names (memory a d o vs) = memory (rank_expression names a) (rank_expression names d) (rank_expression names o) vs

-- the listed names with their stars, in list order, and the parts by rank: no places, no text order, no order of evaluation
pub record Circuit : Type 0 where
  pub listed : List (Bytes × Bool)
  pub parts : List (Bytes × Body ℕ)

-- parts that stand by name, telling each other by rank
abbrev pub ranked : List Part → List (Bytes × Body ℕ)
ranked ps = map (λ p. (p.0, rank_body (names_of ps) p.1)) ps

abbrev pub circuit_of : List (Bytes × Bool) → List Part → Circuit
circuit_of entries ps = record { listed = entries; parts = ranked (sorted ps) }

-- some element passes
abbrev pub some : {X : Type 0} → (X → Bool) → List X → Bool
some p [] = false
some p (x ∷ xs) = p x || some p xs

abbrev pub item_reads : ℕ → Item ℕ → Bool
item_reads j (constant v w) = false
item_reads j (bits r b t) = r == j

-- is this an ALU or a selector that reads the part of rank j?
abbrev pub body_reads : ℕ → Body ℕ → Bool
body_reads j (alu f l r) = some (item_reads j) f || some (item_reads j) l || some (item_reads j) r
body_reads j (selector s cs) = some (item_reads j) s || some (some (item_reads j)) cs
body_reads j (memory a d o vs) = false

abbrev pub is_memory : Body ℕ → Bool
is_memory (alu f l r) = false
is_memory (selector s cs) = false
is_memory (memory a d o vs) = true

abbrev pub body_at : List (Bytes × Body ℕ) → ℕ → Body ℕ
body_at ps i = (slice_index_or ps i ([], memory [] [] [] [])).1

-- does the part of rank i ask for the one of rank j first: an ALU or a selector that reads another?
abbrev pub needs : List (Bytes × Body ℕ) → ℕ → ℕ → Bool
needs ps i j = body_reads j (body_at ps i) && not (is_memory (body_at ps j))
