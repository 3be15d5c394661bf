-- Past the end the digits are counted alone.
use Rattle.std.proofs.Common.{rules, refl, arith, decimal}
use Rattle.lines.proofs.Lays.{adds_past}
use Rattle.lines.proofs.Page.number.Goals as goal

pub returns-then-self : goal.returns-then-self
returns-then-self c =
    let digits = c.number_length.ensures.digits in
    adds_past (decimal c.args.number) c.number_length.result c.args.self.now _ (search rules) (search (rules, arith, digits)) refl refl c.saturating_add-self.ensures
