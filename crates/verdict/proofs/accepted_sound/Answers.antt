use Rattle.verdict.proofs.AllSound.{accepted_sound}
use Rattle.verdict.proofs.accepted_sound.Goals as goal

pub returns : goal.returns
returns c = accepted_sound
