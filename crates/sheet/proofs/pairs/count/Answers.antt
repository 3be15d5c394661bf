-- The words counted are all that wait.
use Rattle.std.proofs.lemmas.Iterator.Consumers.{count_from_yields_List, YieldsList-from_first}
use Rattle.sheet.specs.Waits.{waits}
use Rattle.sheet.proofs.pairs.count.Goals as goal

pub returns : goal.returns
returns c = count_from_yields_List c.new.result c.count.result c.count.ensures.ran (YieldsList-from_first (λ w. w.value) waits _ c.new.ensures)
