-- Where the entries are that tell of a year: in the table, or the two of the rule; or the year comes after them all.
use Rattle.std.specs.Prelude.{◌≡◌, Option, None, Some, IfSome, int_lt, if◌then◌else◌, ℤ, ◌<ℤ◌, ◌≤ℤ◌}
use Rattle.civil.specs.Calendar.{year_second}
use Rattle.timeline.specs.declared.lookups.YearEntries.{YearEntries}
use Rattle.timeline.specs.declared.lookups.YearEntries.TheVariants as year
use Rattle.timeline.specs.Zone.{PlainRule, end_year}
use Rattle.timeline.specs.Rule.{first_entry, second_entry}
use Rattle.timeline.specs.Timeline.{offset_of}
use Rattle.timeline.specs.WallPromises.{IsOfYear}
use Rattle.timeline.specs.Inside.Reach.{first_of_32, IsInside}

-- before its first year a rule has no transitions, and from year 2,147,483,647 on none but what that year begins with
abbrev pub rule_entries_in : PlainRule → ℤ → YearEntries
rule_entries_in r y =
    if int_lt y r.first_year then year.Table
    else (if int_lt y end_year then year.Rule (offset_of (second_entry r y)) (first_entry r y) (second_entry r y)
    else year.Past (offset_of (second_entry r y)))

-- without a rule there are those of the table alone
abbrev pub entries_in : Option PlainRule → ℤ → YearEntries
entries_in None y = year.Table
entries_in (Some r) y = rule_entries_in r y

-- the year of a second; or, where it lies before or after the years of 32 bits, the first or the last of these
pub data IsNearestYear (y t : ℤ) : Type 0 where
  inside : IsOfYear y t → IsNearestYear y t
  before : y ≡ first_of_32 → t <ℤ year_second y → IsNearestYear y t
  after : y ≡ end_year → year_second y ≤ℤ t → IsNearestYear y t

-- a rule's first year is neither the first nor the last of 32 bits
abbrev pub StartsInside : Option PlainRule → Type 0
StartsInside rule = IfSome rule (λ r. IsInside r.first_year)
