use Rattle.timeline.proofs.DatePlaces.{weekday_in_kind}
use Rattle.timeline.proofs.dates.weekday_at.Goals as goal

pub returns-clause-value : goal.returns-clause-value
returns-clause-value c = λ y kind. weekday_in_kind y c.args.kind c.args.place kind
