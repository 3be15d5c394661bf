-- What the items of the code mean.
use Rattle.std.specs.Prelude.{ℕ}
use Rattle.circuit.specs.declared.parts.Item.{Item as CodeItem}
use Rattle.circuit.specs.declared.parts.Item.TheVariants.{Constant, Bits}
use Rattle.scan.specs.declared.names.Name.{Name}
use Rattle.scan.specs.Names.{Bytes}
use Rattle.scan.specs.NameBytes.{name_bytes}
use Rattle.word.specs.declared.value.Word.{Word}
use Rattle.verdict.specs.Items.{Item, constant, bits}

-- a constant by its value and its width, or the bits of a part from the first through the last
abbrev pub item_of : CodeItem Name → Item Bytes
item_of (Constant word width) = constant word.value width.bits
item_of (Bits name range) = bits (name_bytes name) range.first range.last

-- two words by their values
abbrev pub values_of : Word × Word → ℕ × ℕ
values_of p = (p.0.value, p.1.value)
