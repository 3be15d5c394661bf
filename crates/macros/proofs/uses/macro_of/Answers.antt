-- The entries have the macros' names.
use Rattle.std.proofs.Common.{ap, rules}
use Rattle.names.specs.Positions.{position_in}
use Rattle.macros.proofs.Entries.{names_are}
use Rattle.macros.proofs.uses.macro_of.Goals as goal

pub returns : goal.returns
returns c =
    let same = ap (λ ns. position_in ns c.args.used.now) (names_are c.args.table.now) in
    record { first = cc; within = search rules }
