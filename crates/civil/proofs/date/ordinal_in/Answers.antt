use Rattle.std.proofs.Common.{◌≡◌, ℤ, ◌-ℤ◌, to_z, of_z, to_z-of_z, w64, ap, ◌∙◌, arith}
use Rattle.civil.specs.Calendar.{year_start}
use Rattle.jiff_core.proofs.SignedLemmas.{signed_casts, one_part}
use Rattle.civil.proofs.DateOfDay.{ordinal_in}
use Rattle.civil.proofs.date.ordinal_in.Goals as goal
use Rattle.civil.proofs.date.ordinal_in.Goals.{After-days_before_year}

-- the year's first day
start : (c : After-days_before_year) → c.days_before_year.result ≡ year_start c.args.year
start c = c.days_before_year.ensures.value ∙ ap year_start (to_z-of_z c.ranges.year)

-- the number that the code casts
abbrev number : After-days_before_year → ℤ
number c = to_z w64 (of_z w64 (to_z w64 (of_z w64 c.args.day) -ℤ to_z w64 (of_z w64 c.days_before_year.result)))

pub overflow_sub-result : goal.overflow_sub-result
overflow_sub-result c = let o = ordinal_in c.args.day c.args.year c.requires in omega (arith, signed_casts, start c, o.0, o.1, o.2, one_part (number c))

pub overflow_cast-result : goal.overflow_cast-result
overflow_cast-result c = let o = ordinal_in c.args.day c.args.year c.requires in omega (arith, signed_casts, start c, o.0, o.1, o.2, one_part (number c))

pub returns-clause-value : goal.returns-clause-value
returns-clause-value c = let o = ordinal_in c.args.day c.args.year c.requires in omega (arith, signed_casts, start c, o.0, o.1, o.2, one_part (number c))

pub returns-clause-bound : goal.returns-clause-bound
returns-clause-bound c = let o = ordinal_in c.args.day c.args.year c.requires in omega (arith, signed_casts, start c, o.0, o.1, o.2, one_part (number c))
