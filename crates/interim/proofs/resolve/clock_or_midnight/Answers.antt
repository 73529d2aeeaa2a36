use Rattle.std.proofs.Common.{◌≡◌, ℕ, Option, Some, None, sym, ap, ◌∙◌}
use Rattle.interim.specs.declared.types.TimeSpec.{TimeSpec}
use Rattle.interim.specs.Meaning.{Lands}
use Rattle.interim.specs.Aims.{aim, clock_or, midnight}
use Rattle.interim.specs.DatesAndTimes.{time_at}
use Rattle.interim.proofs.Answered.{refused_lands, lands_at, time_at-midnight}
use Rattle.interim.proofs.resolve.clock_or_midnight.Goals as goal

pub returns-in_err-time-in-None-clause-moment : goal.returns-in_err-time-in-None-clause-moment
returns-in_err-time-in-None-clause-moment g c =
    let places = g.Dt.DateTime.may_place c.args.tz in
    let seconds = g.Dt.DateTime.seconds in
    let day = g.Dt.Date.Date.number c.args.date in
    refused_lands g.Dt.Time.Time.memory g.Dt.DateTime.memory (λ (t : g.row.Dt-Time.Denot). g.Dt.Time.Time.time t) (λ (d : g.row.Dt.Denot). g.Dt.DateTime.moment d) _ _ (time_at 0 0 0) (Lands places seconds (clock_or g.Dt.Date.Date.calendar midnight c.args.clock day)) c.from_residual.ensures.1 g.met.Dt.DateTime.time_wants
    (λ e. let never : Some midnight ≡ None = sym time_at-midnight ∙ e in cc) c.in_err-time-in-None.ensures

pub returns-in_ok-time-in-None-clause-moment : goal.returns-in_ok-time-in-None-clause-moment
returns-in_ok-time-in-None-clause-moment g c =
    let day = g.Dt.Date.Date.number c.args.date in
    let found : Some midnight ≡ Some (g.Dt.Time.Time.time c.in_ok-time-in-None.time) = sym time_at-midnight ∙ c.in_ok-time-in-None.ensures in
    let same : midnight ≡ g.Dt.Time.Time.time c.in_ok-time-in-None.time = cc in
    lands_at _ _ _ _ _ _ _ (sym (ap (λ (clock : Option TimeSpec). clock_or g.Dt.Date.Date.calendar midnight clock day) c.in-None.is ∙ ap (λ (time : ℕ × ℕ). Some (aim None day time)) same)) c.new.ensures.moment
