-- The row ends at the first stop.
use Rattle.std.proofs.Common.{sym}
use Rattle.std.proofs.lemmas.List.{take_rest}
use Rattle.sections.proofs.Cuts.{up_to_stop_holds}
use Rattle.sections.proofs.rows.up_to_stop.Goals as goal

pub returns-in-Some : goal.returns-in-Some
returns-in-Some c = simp take_rest (sym (up_to_stop_holds c.args.end c.args.words.now c.in-Some.at (sym c.in-Some.ensures)))
