-- An item has as many bits in storage as in what it means.
use Rattle.std.proofs.Common.{◌≡◌, refl}
use Rattle.verdict.specs.Items.{width}
use Rattle.circuit.specs.declared.parts.Item.{Item as StoredItem}
use Rattle.circuit.specs.declared.parts.Item.TheVariants.{Constant, Bits}
use Rattle.circuit.specs.Meaning.{item_by, width_of}

pub same_width : {R S : Type 0} (tell : R → S) (i : StoredItem R) → width_of i ≡ width (item_by tell i)
same_width tell (Constant word w) = refl
same_width tell (Bits r range) = refl
