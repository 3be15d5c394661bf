-- Each of the eight ports is fresh.
use Rattle.std.proofs.Common.{ap, ◌∙◌, rules}
use Rattle.device.specs.Rows.{row}
use Rattle.device.proofs.Places.{row_each}
use Rattle.panel.specs.Meant.{port_meaning, fresh}
use Rattle.panel.proofs.Panel.new.Goals as goal

pub returns : goal.returns
returns c =
    let made = c.from_fn.ensures.items in
    ap (row port_meaning) c.from.ensures.0 ∙ row_each port_meaning (λ _. fresh) 8 c.from_fn.result made.long (λ k d l. let h = (made.at k d l).2 in search rules)
