use Rattle.std.proofs.Common.{refl, ◌-ℤ◌}
use Rattle.civil.specs.Times.{wall_of}
use Rattle.zoned.specs.Moment.{seconds_east}
use Rattle.zoned.proofs.OneOffset.{shown_once}
use Rattle.zoned.proofs.fixed.FixedOffsetCivil.civil.Goals as goal

pub returns-clause-counts : goal.returns-clause-counts
returns-clause-counts c = λ _. (wall_of c.args._wall.now -ℤ seconds_east c.args.self.now, shown_once _ (seconds_east c.args.self.now) _ (λ _. refl), refl)
