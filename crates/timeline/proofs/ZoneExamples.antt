-- Worked examples of rules, timelines, gaps and laws. Each holds as both sides compute.
use Rattle.std.proofs.Common.{◌≡◌, true, false, refl, ap, pos, negsuc, ◌<ℤ◌, Some, None, [], ◌∷◌, arith}
use Rattle.std.proofs.lemmas.Int.{ints}
use Rattle.civil.specs.Calendar.{days_from_zero, year_start, days_of_months, year_second}
use Rattle.timeline.specs.declared.offset.Offset.{Offset}
use Rattle.timeline.specs.declared.offset.Transition.{Transition}
use Rattle.timeline.specs.Zone.{DateRule, PlainRule, PlainZone}
use Rattle.timeline.specs.RuleDays.{first_on, last_on, rule_date}
use Rattle.timeline.specs.Rule.{rule_second, first_entry, second_entry}
use Rattle.timeline.specs.Timeline.{entry_at, before_entry}
use Rattle.timeline.specs.Placement.{IsGapOf}
use Rattle.timeline.specs.Laws.{KeepsBefore}

start_2008 : year_start (pos 2008) ≡ pos 13879
unfolding year_start days_from_zero
start_2008 = refl

start_2025 : year_start (pos 2025) ≡ pos 20089
unfolding year_start days_from_zero
start_2025 = refl

-- the first Sunday not before 8 March, and not before 1 November, both at 2:00 by the wall
abbrev us_start : DateRule
us_start = record { month = 2; day = pos 8; code = negsuc 0; seconds = 7200; mode = 0 }

abbrev us_end : DateRule
us_end = record { month = 10; day = pos 1; code = negsuc 0; seconds = 7200; mode = 0 }

abbrev us : PlainRule
us = record { start = us_start; end = us_end; extra = pos 3600; raw = negsuc 28799; first_year = pos 2008 }

abbrev standard : Offset
standard = record { offset = negsuc 28799; rule_applies = false }

abbrev daylight : Offset
daylight = record { offset = negsuc 25199; rule_applies = true }

abbrev la : PlainZone
la = record {
  initial = standard;
  table = record { since = pos 1173607200; offset = negsuc 25199; rule_applies = true } ∷ record { since = pos 1194166800; offset = negsuc 28799; rule_applies = false } ∷ [];
  early = 0;
  late = 0;
  rule = Some us;
  type_offsets = (negsuc 28799, pos 0) ∷ (negsuc 28799, pos 3600) ∷ [];
  type_map = 1 ∷ 0 ∷ [];
  links = [];
}

us_start_day : rule_date us_start (pos 2025) ≡ pos 20156
unfolding rule_date first_on days_of_months
us_start_day = rw start_2025 refl

us_end_day : rule_date us_end (pos 2025) ≡ pos 20394
unfolding rule_date first_on days_of_months
us_end_day = rw start_2025 refl

-- the third Saturday of August 2025 is the 16th, and the last Sunday not after 31 March the 30th
third_saturday : rule_date (record { month = 7; day = pos 3; code = pos 7; seconds = 0; mode = 0 }) (pos 2025) ≡ pos 20316
unfolding rule_date first_on days_of_months
third_saturday = rw start_2025 refl

last_sunday : rule_date (record { month = 2; day = negsuc 30; code = negsuc 0; seconds = 0; mode = 0 }) (pos 2025) ≡ pos 20177
unfolding rule_date last_on days_of_months
last_sunday = rw start_2025 refl

us_first : first_entry us (pos 2025) ≡ record { since = pos 1741514400; offset = negsuc 25199; rule_applies = true }
unfolding rule_second
us_first = rw us_start_day refl

us_second : second_entry us (pos 2025) ≡ record { since = pos 1762074000; offset = negsuc 28799; rule_applies = false }
unfolding rule_second
us_second = rw us_end_day refl

-- entries 0 and 1 are the table's; entries 36 and 37 are those of 2025
entry_0 : entry_at la 0 ≡ Some (record { since = pos 1173607200; offset = negsuc 25199; rule_applies = true })
entry_0 = refl

entry_36 : entry_at la 36 ≡ Some (record { since = pos 1741514400; offset = negsuc 25199; rule_applies = true })
unfolding rule_second
entry_36 = rw us_start_day refl

before_0 : before_entry la 0 ≡ standard
before_0 = refl

before_36 : before_entry la 36 ≡ standard
before_36 = refl

-- the last year of the rule is 2147483646
no_entry : entry_at la 4294963280 ≡ None
no_entry = refl

-- 2025-03-09 02:30 lies in the gap of entry 36
gap_2025 : IsGapOf la (pos 1741487400) 36
gap_2025 = (_, entry_36, omega (arith, ints), omega (arith, ints))

-- what holds after the table is what the rule's first transition comes after
la_before : KeepsBefore la
la_before = refl

-- both transitions on one day are too near: law 4 fails
abbrev four : PlainRule
four = record { start = us_start; end = us_start; extra = pos 3600; raw = negsuc 28799; first_year = pos 2008 }

four_day : rule_date us_start (pos 2008) ≡ pos 13947
unfolding rule_date first_on days_of_months
four_day = rw start_2008 refl

four_first : first_entry four (pos 2008) ≡ record { since = pos 1205056800; offset = negsuc 25199; rule_applies = true }
unfolding rule_second
four_first = rw four_day refl

four_second : second_entry four (pos 2008) ≡ record { since = pos 1205053200; offset = negsuc 28799; rule_applies = false }
unfolding rule_second
four_second = rw four_day refl

-- 1 January at 1:00 by the wall of a zone two hours east lies in the year before: law 8 fails
abbrev eight : PlainRule
eight = record {
  start = record { month = 0; day = pos 1; code = pos 0; seconds = 3600; mode = 0 };
  end = record { month = 6; day = pos 1; code = pos 0; seconds = 7200; mode = 0 };
  extra = pos 3600;
  raw = pos 7200;
  first_year = pos 2008;
}

eight_day : rule_date eight.start (pos 2008) ≡ pos 13879
unfolding rule_date days_of_months
eight_day = rw start_2008 refl

eight_first : first_entry eight (pos 2008) ≡ record { since = pos 1199142000; offset = pos 10800; rule_applies = true }
unfolding rule_second
eight_first = rw eight_day refl

eight_early : (first_entry eight (pos 2008)).since <ℤ year_second (pos 2008)
eight_early = let second = ap (λ (e : Transition). e.since) eight_first in omega (arith, ints, second, start_2008)
