use Rattle.std.proofs.Common.{◌≡◌, ◌↔◌, ℤ, ◌+ℤ◌, ◌-◌, IsSome, IfSome, to_z, of_z, to_z-of_z, w32, w64, subst, ap, arith}
use Rattle.civil.specs.Calendar.{year_start, days_in_year}
use Rattle.civil.specs.CivilDates.{IsDay}
use Rattle.civil.specs.Ordinals.{IsOrdinal, ordinal_day}
use Rattle.jiff_core.proofs.SignedLemmas.{signed_casts}
use Rattle.civil.proofs.Setters.{ordinal_day-is, ordinal_inside}
use Rattle.civil.proofs.date.date_of_ordinal.Goals as goal
use Rattle.civil.proofs.date.date_of_ordinal.Goals.{After-from_day}

-- the year has the day
is_ordinal : (c : After-from_day) → IsOrdinal c.args.year c.args.ordinal
is_ordinal c =
    let year : to_z w32 (of_z w32 c.args.year) ≡ c.args.year = to_z-of_z c.ranges.year in
    record { first = omega arith; last = omega (arith, c.year_length.ensures, ap days_in_year year) }

-- and its number is what was computed
number : (c : After-from_day) → to_z w64 (of_z w64 (to_z w64 (of_z w64 c.days_before_year.result) +ℤ to_z w64 (c.args.ordinal - 1))) ≡ ordinal_day c.args.year c.args.ordinal
number c =
    let year : to_z w32 (of_z w32 c.args.year) ≡ c.args.year = to_z-of_z c.ranges.year in
    let o = is_ordinal c in
    let inside = ordinal_inside c.args.year c.args.ordinal c.requires o in
    let at = ordinal_day-is c.args.year c.args.ordinal in
    omega (arith, signed_casts, c.days_before_year.ensures.value, c.days_before_year.ensures.bound, ap year_start year, at, inside.first, inside.last)

pub returns-clause-some : goal.returns-clause-some
returns-clause-some c =
    let o = is_ordinal c in
    let P : ℤ → Type 0 = λ day. IsSome c.from_day.result ↔ IsDay day in
    let some = subst P (number c) c.from_day.ensures.some in
    (λ _. o, λ _. some.1 (ordinal_inside c.args.year c.args.ordinal c.requires o))

pub returns-clause-value : goal.returns-clause-value
returns-clause-value c =
    let P : ℤ → Type 0 = λ day. IfSome c.from_day.result (λ date. date ≡ day) in
    subst P (number c) c.from_day.ensures.value
