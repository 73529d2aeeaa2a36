use Rattle.std.proofs.Common.{◌≡◌, false, true, refl, rules, to_z, of_z, to_z-of_z, w32}
use Rattle.interim.proofs.Stretches.{found_date, no_date}
use Rattle.interim.proofs.zoned_backend.NaiveDateDate.from_ymd.Goals as goal

pub returns-in-Some : goal.returns-in-Some
returns-in-Some c =
    let same : to_z w32 (of_z w32 c.args.year) ≡ c.args.year = to_z-of_z c.ranges.year in
    found_date c.args.year (to_z w32 (of_z w32 c.args.year)) c.args.month c.args.day c.in-Some.date same (c.in-Some.ensures.some.0 refl) (search rules) c.in-Some.ensures.value

pub returns-in-None : goal.returns-in-None
returns-in-None c =
    let same : to_z w32 (of_z w32 c.args.year) ≡ c.args.year = to_z-of_z c.ranges.year in
    no_date c.month_days_are_days.ensures c.args.year (to_z w32 (of_z w32 c.args.year)) c.args.month c.args.day same (λ is. let no : false ≡ true = c.in-None.ensures.some.1 is in cc)
