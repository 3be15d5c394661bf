-- One port of the row is changed.
use Rattle.std.proofs.Common.{rules}
use Rattle.device.specs.Meaning.{given_port}
use Rattle.device.proofs.Places.{row_set}
use Rattle.device.proofs.row.ArrayVecDevice.give.Goals as goal

pub returns-in-Some-clause-after : goal.returns-in-Some-clause-after
returns-in-Some-clause-after g c =
    row_set g.P.Port.meaning c.args.self.now.items c.args.port c.give.new.self c.in-Some.at.now given_port (search rules) c.in-Some.ensures.value c.give.ensures.after
