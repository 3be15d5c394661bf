-- The macros' words come first, then two rows up to stops.
use Rattle.std.proofs.lemmas.List.{take_rest}
use Rattle.sections.proofs.Cuts.{sections_cut}
use Rattle.sections.proofs.rows.sections_of.Goals as goal

pub returns-clause-sections : goal.returns-clause-sections
returns-clause-sections c = sections_cut c.args.end c.args.words.now c.macro_words-count.result c.up_to_stop-list.result c.up_to_stop-parts.result c.macro_words-count.ensures.count (simp take_rest at c.up_to_stop-list.ensures) c.up_to_stop-parts.ensures
