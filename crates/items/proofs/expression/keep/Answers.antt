-- A refused item is the first refused.
use Rattle.std.proofs.Common.{◌≡◌, map}
use Rattle.std.proofs.lemmas.Result.{err_from_is_err_and}
use Rattle.numbers.specs.Judged.{bad}
use Rattle.numbers.specs.Splits.{remaining}
use Rattle.items.specs.Meaning.{item_of}
use Rattle.items.specs.Least.{fault_number}
use Rattle.items.specs.Told.{items_in_turn}
use Rattle.items.proofs.Turns.{turn_bad, turn_never}
use Rattle.items.proofs.expression.keep.Goals as goal

pub returns-in_err-item : goal.returns-in_err-item
returns-in_err-item c =
    let inv = c.loop-text.invariant in
    let told = c.in_err-item.ensures in
    let first : items_in_turn c.args.field.now ≡ bad (fault_number c.in_err-item.field-0.0) =
    turn_bad (map item_of inv.0) _ c.in-Some.text.now (remaining c.next.new.self) (remaining c.loop-text.text-iterator)
    told.judged
    c.in-Some.ensures.steps
    inv.2 in
    let p = err_from_is_err_and c.from_residual.result c.from_residual.ensures.1 in
    rw (p.1, p.2) (record { new = inv.0; behind = inv.1; read = (first, told.placed); whole = λ es. turn_never c.args.field.now _ es first })
