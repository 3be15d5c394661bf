use Rattle.verdict.proofs.AllSound.{listing_accepted}
use Rattle.verdict.proofs.listing_accepted.Goals as goal

pub returns : goal.returns
returns c = listing_accepted
