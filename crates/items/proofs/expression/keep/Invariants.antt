-- New items stand behind those that were there, and read in turn they begin what the whole field tells.
use Rattle.std.proofs.Common.{◌≡◌, List, ◌++◌, map, vec_items}
use Rattle.circuit.specs.declared.parts.Item.{Item as CodeItem}
use Rattle.scan.specs.declared.names.Name.{Name}
use Rattle.numbers.specs.Splits.{remaining}
use Rattle.verdict.specs.Items.{item}
use Rattle.items.specs.Meaning.{item_of}
use Rattle.items.specs.Told.{in_turn, items_in_turn}
use Rattle.items.proofs.Turns.{after}
use Rattle.items.proofs.expression.keep.Given as goal

abbrev pub invariant-loop-text : goal.invariant-loop-text
invariant-loop-text l =
    (new : List (CodeItem Name)) × (vec_items l.items ≡ vec_items l.initial.items ++ new)
    × (after (map item_of new) (in_turn (map item (remaining l.text-iterator))) ≡ items_in_turn l.field)
