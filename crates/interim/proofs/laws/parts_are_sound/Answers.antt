use Rattle.interim.proofs.SoundParts.{parts_sound}
use Rattle.interim.proofs.laws.parts_are_sound.Goals as goal

pub returns : goal.returns
returns c = parts_sound
