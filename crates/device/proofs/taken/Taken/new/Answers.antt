-- An array of N words has the length N.
use lib.ListN.{length-replicate}
use Rattle.std.proofs.Common.{rules}
use Rattle.device.proofs.taken.Taken.new.Goals as goal

pub invariant_of-result : goal.invariant_of-result
invariant_of-result g c = record { long = length-replicate _ _; within = search rules }
