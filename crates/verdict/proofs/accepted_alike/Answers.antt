use Rattle.verdict.proofs.Accepted.{accepted_alike}
use Rattle.verdict.proofs.accepted_alike.Goals as goal

pub returns : goal.returns
returns c = accepted_alike
