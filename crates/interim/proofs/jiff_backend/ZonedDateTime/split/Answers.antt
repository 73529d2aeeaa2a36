use Rattle.jiff.specs.ZonedView.{plain_zoned}
use Rattle.jiff_core.specs.Date.{epoch_day}
use Rattle.jiff_core.proofs.DateLemmas.{epoch_day_range}
use Rattle.interim.specs.Jiff.{jiff_days}
use Rattle.interim.proofs.JiffInstants.{zoned_shows}
use Rattle.interim.proofs.Stretches.{is_within-of}
use Rattle.interim.proofs.jiff_backend.ZonedDateTime.split.Goals as goal

pub returns-clause-wall : goal.returns-clause-wall
returns-clause-wall c = zoned_shows (plain_zoned c.args.self) c.date.result c.time.result c.date.ensures c.time.ensures

pub returns-clause-bound : goal.returns-clause-bound
returns-clause-bound c =
    let range = epoch_day_range c.date.result in
    is_within-of jiff_days (epoch_day c.date.result) range.0 range.1
