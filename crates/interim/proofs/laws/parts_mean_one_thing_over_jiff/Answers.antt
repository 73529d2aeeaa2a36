use Rattle.std.proofs.Common.{◌+ℤ◌}
use Rattle.jiff_tz.specs.Zone.{offset_at}
use Rattle.interim.specs.Jiff.{IsPlacedBy, instant}
use Rattle.interim.proofs.JiffInstants.{placed_by_once}
use Rattle.interim.proofs.OneMeaning.{means_once_over}
use Rattle.interim.proofs.laws.parts_mean_one_thing_over_jiff.Goals as goal

pub returns : goal.returns
returns c = record {
  placed = placed_by_once;
  once = λ zone days seconds base dialect date clock r r' p q. means_once_over c.month_days_are_days.ensures (λ s f. s +ℤ offset_at zone (instant s f)) (IsPlacedBy zone) days seconds base dialect date clock r r' (placed_by_once zone) p q;
}
