-- What a circuit in storage means: the circuit that the verdict on a text speaks of.
use Rattle.std.specs.Prelude.{ℕ, suc, ◌-◌, List, [], ◌∷◌, map, vec_items, slice_index_or, Vec}
use Rattle.std.specs.declared.alloc.Global.{Global}
use Rattle.scan.specs.Names.{Bytes}
use Rattle.scan.specs.NameBytes.{name_bytes}
use Rattle.word.specs.declared.value.Word.{Word}
use Rattle.verdict.specs.Items.{Item, constant, bits, Expression}
use Rattle.verdict.specs.Parts.{Body, alu, selector, memory}
use Rattle.verdict.specs.Circuit as verdict
use Rattle.circuit.specs.declared.parts.Item.{Item as StoredItem}
use Rattle.circuit.specs.declared.parts.Item.TheVariants.{Constant, Bits}
use Rattle.circuit.specs.declared.parts.Expression.{Expression as StoredExpression}
use Rattle.circuit.specs.declared.parts.Expression.TheVariants.{One, More}
use Rattle.circuit.specs.declared.parts.Body.{Body as StoredBody}
use Rattle.circuit.specs.declared.parts.Body.TheVariants.{Alu, Selector, Memory}
use Rattle.circuit.specs.declared.parts.Listed.{Listed}
use Rattle.circuit.specs.declared.parts.Part.{Part}
use Rattle.circuit.specs.declared.wiring.Circuit.{Circuit}
use Rattle.circuit.specs.Rows.{row}

-- a constant by its value and its width, or bits of the part that R tells, from the first through the last
abbrev pub item_by : {R S : Type 0} → (R → S) → StoredItem R → Item S
item_by tell (Constant word width) = constant word.value width.bits
item_by tell (Bits r range) = bits (tell r) range.first range.last

-- how many bits an item has
abbrev pub width_of : {R : Type 0} → StoredItem R → ℕ
width_of (Constant word width) = width.bits
width_of (Bits r range) = suc range.last - range.first

-- the items of an expression in storage, the highest first, where these are those of its part's expressions that have several
abbrev pub listed : List (StoredItem ℕ) → StoredExpression → List (StoredItem ℕ)
listed joined (One i) = i ∷ []
listed joined (More span) = row joined span

abbrev pub values_of : List Word → List ℕ
values_of ws = map (λ (w : Word). w.value) ws

-- what a part is that owns its cases and first words
abbrev pub OwnedBody : Type 0 → Type 0
OwnedBody E = StoredBody E (Vec E Global) (Vec Word Global)

-- what a part is, its expressions being told by how each is read
abbrev pub body_by : {E S : Type 0} → (E → Expression S) → OwnedBody E → Body S
body_by read (Memory a d o first) = memory (read a) (read d) (read o) (values_of (vec_items first))
body_by read (Alu f l r) = alu (read f) (read l) (read r)
body_by read (Selector s cs) = selector (read s) (map read (vec_items cs))

-- the expression of items that tell their parts by rank
abbrev pub expression_of : List (StoredItem ℕ) → StoredExpression → Expression ℕ
expression_of joined e = map (item_by (λ r. r)) (listed joined e)

-- a part by its name and what it is
abbrev pub part_of : Part → Bytes × Body ℕ
part_of p = (name_bytes p.name, body_by (expression_of (vec_items p.joined)) p.body)

-- the name of the part of a rank
abbrev pub name_at : List Part → ℕ → Bytes
name_at ps rank = slice_index_or (map (λ (p : Part). name_bytes p.name) ps) rank []

-- the listed names with their stars, and the parts by rank
abbrev pub meaning : Circuit → verdict.Circuit
meaning c = record {
  listed = map (λ (l : Listed). (name_at (vec_items c.parts) l.rank, l.traced)) (vec_items c.listed);
  parts = map part_of (vec_items c.parts);
}
