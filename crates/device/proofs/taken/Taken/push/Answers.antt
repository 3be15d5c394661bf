-- The word is written just behind those kept, where there was space.
use Rattle.std.proofs.Common.{rules}
use Rattle.device.proofs.Takings.{admitted_free, more_free, less_sub, kept_more}
use Rattle.device.proofs.taken.Taken.push.Goals as goal

pub returns : goal.returns
returns g c = search (rules, admitted_free, more_free, less_sub, kept_more)
