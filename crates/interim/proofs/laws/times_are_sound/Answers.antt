use Rattle.interim.proofs.SoundParts.{times_sound}
use Rattle.interim.proofs.laws.times_are_sound.Goals as goal

pub returns : goal.returns
returns c = times_sound
