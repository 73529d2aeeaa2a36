use Rattle.interim.proofs.OneMeaning.{sound_means}
use Rattle.interim.proofs.laws.sound_zones_mean.Goals as goal

pub returns : goal.returns
returns g c = λ zone days seconds base dialect date clock r sound means. sound_means sound (g.Tz.TimeZone.off zone) days seconds base dialect date clock r means
