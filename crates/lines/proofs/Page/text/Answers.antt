-- What fits is copied to its place, and all of it is counted.
use Rattle.std.proofs.Common.{◌≡◌, ◌+◌, ◌-◌, rules, arith}
use Rattle.lines.proofs.Lays.{laid_part}
use Rattle.lines.proofs.Page.text.Goals as goal

pub returns : goal.returns
returns c =
    let page = c.args.self.now in
    let from = c.min-from.result in
    let fit = c.min-fit.result in
    let wide : from + fit - from ≡ fit = omega arith in
    let copied = c.copy_from_slice.ensures.after in
    let laid = laid_part c.args.bytes.now page.out.now page.at from fit (omega (arith, c.min-from.ensures)) (omega (arith, c.min-fit.ensures)) in
    record {
      same_reference = search rules;
      put = record { after = search (rules, arith); holds = cc };
    }
