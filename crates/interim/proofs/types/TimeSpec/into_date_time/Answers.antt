use Rattle.std.proofs.Common.{◌≡◌, ℤ, Option, Some, pos, ◌+ℤ◌, ◌-ℤ◌, ◌*ℤ◌, ◌/◌, rules, sym, ap, ◌∙◌, arith, to_z, of_z, to_z-of_z, w64, FitsSigned}
use Rattle.jiff_core.proofs.SignedLemmas.{signed_casts}
use Rattle.interim.specs.Refusal.{within}
use Rattle.interim.specs.Aims.{AtSecond, aim, clock_on}
use Rattle.interim.specs.Meaning.{Lands}
use Rattle.interim.proofs.Answered.{refused_lands, lands_nothing, lands_at, clock_on-no_time, clock_on-no_day, clock_on-is}
use Rattle.interim.proofs.types.TimeSpec.into_date_time.Goals as goal

pub returns-in_err-time-clause-moment : goal.returns-in_err-time-clause-moment
returns-in_err-time-clause-moment g c =
    let places = g.Dt.DateTime.may_place c.args.tz in
    let seconds = g.Dt.DateTime.seconds in
    let days = g.Dt.Date.Date.calendar in
    let day = g.Dt.Date.Date.number c.args.date in
    refused_lands g.Dt.Time.Time.memory g.Dt.DateTime.memory (λ (t : g.row.Dt-Time.Denot). g.Dt.Time.Time.time t) (λ (d : g.row.Dt.Denot). g.Dt.DateTime.moment d) _ _ _ (Lands places seconds (clock_on days c.args.self day)) c.from_residual.ensures.1 g.met.Dt.DateTime.time_wants
    (λ e. lands_nothing places seconds (clock_on days c.args.self day) (clock_on-no_time days c.args.self day e)) c.in_err-time.ensures

pub returns-in_err-day-clause-moment : goal.returns-in_err-day-clause-moment
returns-in_err-day-clause-moment g c =
    let places = g.Dt.DateTime.may_place c.args.tz in
    let seconds = g.Dt.DateTime.seconds in
    let days = g.Dt.Date.Date.calendar in
    let day = g.Dt.Date.Date.number c.args.date in
    let hours : to_z w64 (c.args.self.hour / 24) ≡ pos (c.args.self.hour / 24) = omega (arith, signed_casts) in
    refused_lands g.Dt.Date.Date.memory g.Dt.DateTime.memory (λ (d : g.row.Dt-Date.Denot). g.Dt.Date.Date.number d) (λ (d : g.row.Dt.Denot). g.Dt.DateTime.moment d) _ _ _ (Lands places seconds (clock_on days c.args.self day)) c.from_residual-in_err-day.ensures.1 g.met.Dt.DateTime.date_wants
    (λ e. lands_nothing places seconds (clock_on days c.args.self day) (clock_on-no_day days c.args.self day _ c.in_ok-time.ensures (ap (λ (n : ℤ). within days (day +ℤ n)) (sym hours) ∙ e))) c.in_err-day.ensures

pub returns-in-None-clause-moment : goal.returns-in-None-clause-moment
returns-in-None-clause-moment g c =
    let days = g.Dt.Date.Date.calendar in
    let day = g.Dt.Date.Date.number c.args.date in
    let day' = g.Dt.Date.Date.number c.in_ok-day.day in
    let time = g.Dt.Time.Time.time c.in_ok-time.time in
    let hours : to_z w64 (c.args.self.hour / 24) ≡ pos (c.args.self.hour / 24) = omega (arith, signed_casts) in
    let on = clock_on-is days c.args.self day day' time c.in_ok-time.ensures (ap (λ (n : ℤ). within days (day +ℤ n)) (sym hours) ∙ c.in_ok-day.ensures) in
    lands_at _ _ _ _ _ _ _ (sym (on ∙ ap (λ (o : Option ℤ). Some (aim o day' time)) c.in-None.is)) c.new.ensures.moment

pub returns-in-Some-clause-moment : goal.returns-in-Some-clause-moment
returns-in-Some-clause-moment g c =
    let days = g.Dt.Date.Date.calendar in
    let day = g.Dt.Date.Date.number c.args.date in
    let day' = g.Dt.Date.Date.number c.in_ok-day.day in
    let time = g.Dt.Time.Time.time c.in_ok-time.time in
    let hours : to_z w64 (c.args.self.hour / 24) ≡ pos (c.args.self.hour / 24) = omega (arith, signed_casts) in
    let on = clock_on-is days c.args.self day day' time c.in_ok-time.ensures (ap (λ (n : ℤ). within days (day +ℤ n)) (sym hours) ∙ c.in_ok-day.ensures) in
    let fits : FitsSigned w64 c.in-Some.secs = search rules in
    let secs : to_z w64 (of_z w64 c.in-Some.secs) ≡ c.in-Some.secs = to_z-of_z fits in
    lands_at _ _ _ _ _ _ _ (ap (λ (n : ℤ). Some (AtSecond (pos 86400 *ℤ day' +ℤ pos time.0 -ℤ n) time.1)) secs ∙ sym (on ∙ ap (λ (o : Option ℤ). Some (aim o day' time)) c.in-Some.is)) c.at_offset.ensures.moment
