-- The item at the index is joined behind what is there.
use Rattle.std.proofs.Common.{rules, ℕ}
use Rattle.circuit.specs.Worth.{shown_by}
use Rattle.circuit.proofs.Joins.{step_at}
use Rattle.circuit.proofs.Widths.{same_width}
use Rattle.circuit.proofs.values.joined.Goals as goal

pub loop-item-preserved : goal.loop-item-preserved
loop-item-preserved c =
    let step = step_at (shown_by c.args.shown.now) c.loop-item.value.value c.loop-item.item-index c.args.items.now in
    let wide = same_width {R = ℕ} {S = ℕ} (λ r. r) in
    search rules
