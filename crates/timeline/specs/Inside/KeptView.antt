-- What a `YearRule` keeps, and what is true of it.
use Rattle.std.specs.Prelude.{◌≤◌, IsTrue, ◌+ℤ◌, ◌≤ℤ◌}
use Rattle.timeline.specs.Zone.{fits_i32}
use Rattle.timeline.specs.Ranges.{least_28, greatest_28}
use Rattle.timeline.specs.Inside.KeptRules.{KeptRule}
use Rattle.timeline.specs.declared.rule.YearRule.TheInside.{Inside}

-- what the fields keep of a rule
abbrev pub kept_view : Inside → KeptRule
kept_view a = record {
  start = a.start;
  end = a.end;
  extra = a.extra;
  raw = a.raw;
  start_is_first = a.start_is_first;
  first_year = a.first_year;
}

-- its offsets fit 32 bits, and its first year 28; the seconds of its dates are those of a day
pub record IsKept (k : KeptRule) : Type 0 where
  pub sum : IsTrue (fits_i32 (k.raw +ℤ k.extra))
  pub from_year : least_28 ≤ℤ k.first_year
  pub to_year : k.first_year ≤ℤ greatest_28
  pub start_seconds : k.start.seconds ≤ 86400
  pub end_seconds : k.end.seconds ≤ 86400
