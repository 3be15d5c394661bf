-- What is there with the items that are left behind it comes, in its low 31 bits, to what all items come to.
use Rattle.std.proofs.Common.{◌≡◌, ◌%◌, ◌^◌, drop, map}
use Rattle.verdict.specs.Values.{joined_after}
use Rattle.circuit.specs.Meaning.{item_by}
use Rattle.circuit.specs.Worth.{shown_by, worth}
use Rattle.circuit.proofs.values.joined.Given as goal

abbrev pub invariant-loop-item : goal.invariant-loop-item
invariant-loop-item l = joined_after (shown_by l.shown) l.value.value (map (item_by (λ r. r)) (drop l.item-index l.items)) % 2 ^ 31 ≡ worth l.shown l.items
