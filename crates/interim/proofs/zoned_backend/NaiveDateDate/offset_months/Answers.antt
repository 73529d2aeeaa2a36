use Rattle.std.proofs.Common.{◌≡◌, false, true, ℤ, refl, ap, subst, ◌∙◌, to_z, of_z, to_z-of_z, w32}
use Rattle.civil.specs.CivilDates.{IsDay, IsDateOf}
use Rattle.civil.specs.Months.{months_on}
use Rattle.interim.proofs.Stretches.{found_day, no_day, date_on}
use Rattle.interim.proofs.zoned_backend.NaiveDateDate.offset_months.Goals as goal

pub returns-in-Some : goal.returns-in-Some
returns-in-Some c =
    let inside : IsDay c.args.self = subst IsDay c.day_number-day.ensures.value c.day_number-day.ensures.bound in
    let date = c.dates_are_days.ensures.onto c.args.self inside in
    let of : IsDateOf c.args.self date.0 date.1 date.2 = record { exists = date.3; is = date.4 } in
    let same : to_z w32 (of_z w32 c.args.months) ≡ c.args.months = to_z-of_z c.ranges.months in
    let P : ℤ → Type 0 = λ (n : ℤ). IsDay (months_on date.0 date.1 date.2 n) in (
      date.0,
      date.1,
      date.2,
      date_on c.args.self date.0 date.1 date.2 of,
      found_day (months_on date.0 date.1 date.2 c.args.months) c.in-Some.date (subst P same ((c.in-Some.ensures.some date.0 date.1 date.2 of).0 refl)) (c.in-Some.ensures.value date.0 date.1 date.2 of ∙ ap (λ (n : ℤ). months_on date.0 date.1 date.2 n) same),
    )

pub returns-in-None : goal.returns-in-None
returns-in-None c =
    let inside : IsDay c.args.self = subst IsDay c.day_number-day.ensures.value c.day_number-day.ensures.bound in
    let date = c.dates_are_days.ensures.onto c.args.self inside in
    let of : IsDateOf c.args.self date.0 date.1 date.2 = record { exists = date.3; is = date.4 } in
    let same : to_z w32 (of_z w32 c.args.months) ≡ c.args.months = to_z-of_z c.ranges.months in
    let P : ℤ → Type 0 = λ (n : ℤ). IsDay (months_on date.0 date.1 date.2 n) → false ≡ true in
    let outside = subst P same (c.in-None.ensures.some date.0 date.1 date.2 of).1 in (
      date.0,
      date.1,
      date.2,
      date_on c.args.self date.0 date.1 date.2 of,
      no_day (months_on date.0 date.1 date.2 c.args.months) (λ is. let never : false ≡ true = outside is in cc),
    )
