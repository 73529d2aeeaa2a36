use Rattle.std.proofs.Common.{ℕ, Some, ap, refl, ◌∙◌}
use Rattle.civil.specs.Times.{wall_of}
use Rattle.tell.proofs.NearWalls.{second_inside, second_outside}
use Rattle.tell.proofs.located.LocatedDateTime.new.Goals as goal

pub returns-in-Some-clause-moment : goal.returns-in-Some-clause-moment
returns-in-Some-clause-moment g c =
    let utc = c.naive_utc.ensures in
    let nanos = utc.nanos ∙ (c.in-Some.ensures.fraction ∙ c.and_time.ensures.nanos) in (
      wall_of c.naive_utc.result,
      rw utc.wall (rw c.and_time.ensures.wall at c.in-Some.ensures.placed),
      ap (λ (f : ℕ). Some (wall_of c.naive_utc.result, f)) nanos ∙ rw (second_inside (wall_of c.naive_utc.result) c.naive_utc.result.in_calendar) refl,
    )

pub returns-in-None-clause-moment : goal.returns-in-None-clause-moment
returns-in-None-clause-moment g c =
    let outside = c.in-None.ensures.outside in
    (outside.0, rw c.and_time.ensures.wall at outside.1, rw (second_outside outside.0 outside.2) refl)
