-- One port of the row is changed.
use Rattle.std.proofs.Common.{rules}
use Rattle.device.specs.Meaning.{taken_port}
use Rattle.device.proofs.Places.{row_set}
use Rattle.device.proofs.row.ArrayVecDevice.take.Goals as goal

pub returns-in-Some-clause-after : goal.returns-in-Some-clause-after
returns-in-Some-clause-after g c =
    row_set g.P.Port.meaning c.args.self.now.items c.args.port c.take.new.self c.in-Some.at.now (taken_port c.args.word.value) (search rules) c.in-Some.ensures.value c.take.ensures.after
