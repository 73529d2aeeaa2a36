-- The dates of a rule, from its numbers (docs/FORMATS.md, "Zone fields").
use Rattle.std.specs.Int.{w32, cast_signed}
use Rattle.std.specs.Ordering.{int_eq}
use Rattle.std.specs.Prelude.{ℕ, ◌==◌, nat_le, nat_lt, Bool, ◌&&◌, ◌||◌, if◌then◌else◌, Option, ℤ, pos, negsuc, ◌-ℤ◌, int_lt, int_le, unsigned_abs}
use Rattle.resb_tree.specs.Options.{when}
use Rattle.timeline.specs.Zone.{DateRule}

-- 32 bits with their sign
abbrev pub as_i32 : ℕ → ℤ
as_i32 n = cast_signed w32 n

-- the longest that a month may be, January first
abbrev pub longest_month : ℕ → ℕ
longest_month m = if m == 1 then 29 else (if (m == 3) || (m == 5) || (m == 8) || (m == 10) then 30 else 31)

-- from the first number to the second, both among them
abbrev pub between : ℤ → ℤ → ℤ → Bool
between low high z = int_le low z && int_le z high

-- the day that a weekday code allows: any day of the month, the first to fifth weekday, or a day of either sign
abbrev pub is_rule_day : ℕ → ℤ → ℤ → Bool
is_rule_day month code day =
    if int_eq code (pos 0) then between (pos 1) (pos (longest_month month)) day
    else (if int_lt (pos 0) code then between (pos 1) (pos 5) day
    else (nat_le 1 (unsigned_abs day) && nat_le (unsigned_abs day) (longest_month month)))

-- five numbers that are a date
abbrev pub is_date : ℤ → ℤ → ℤ → ℤ → ℤ → Bool
is_date month day code seconds mode =
    between (pos 0) (pos 11) month && between (negsuc 6) (pos 7) code && between (pos 0) (pos 86400) seconds
    && between (pos 0) (pos 2) mode && is_rule_day (unsigned_abs month) code day

-- the date that they are
abbrev pub date_from : ℤ → ℤ → ℤ → ℤ → ℤ → DateRule
date_from month day code seconds mode = record { month = unsigned_abs month; day = day; code = code; seconds = unsigned_abs seconds; mode = unsigned_abs mode }

-- a date from its five numbers
unfoldable pub date_rule : ℤ → ℤ → ℤ → ℤ → ℤ → Option DateRule
date_rule month day code seconds mode = when (is_date month day code seconds mode) (date_from month day code seconds mode)
