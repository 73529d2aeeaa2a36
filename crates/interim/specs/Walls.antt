-- Wall times, and steps between them (docs/GRAMMAR.md, "The meaning").
use Rattle.std.specs.Prelude.{ℕ, Option, option_and_then, ℤ, pos, negsuc, ◌+ℤ◌}
use Rattle.std.specs.declared.cmp.Ordering.{Ordering}
use Rattle.std.specs.declared.cmp.Ordering.TheVariants.{Less, Equal, Greater}
use Rattle.std.specs.Ordering.{int_cmp}
use Rattle.interim.specs.declared.types.Direction.{Direction}
use Rattle.interim.specs.declared.types.Direction.TheVariants.{Next, Last, Here}
use Rattle.interim.specs.Refusal.{Ends}
use Rattle.interim.specs.DatesAndTimes.{date_at}

-- the base's wall time: its day, and its time of that day
pub record Wall : Type 0 where
  pub day : ℤ
  pub time : ℕ × ℕ

-- `Last` goes one back from what is after the base, and `Next` one on from what is before it
abbrev pub step_by : Direction → Ordering → ℤ
step_by Last Greater = negsuc 0
step_by Last Equal = pos 0
step_by Last Less = pos 0
step_by Next Less = pos 1
step_by Next Equal = pos 0
step_by Next Greater = pos 0
step_by Here order = pos 0

-- a day of a month in the base's year, or a year back or on; both dates exist
unfoldable pub month_day : Ends → ℤ → ℤ → ℕ → ℕ → Direction → Option ℤ
month_day days base year m d direction =
    option_and_then (λ day. date_at days (year +ℤ step_by direction (int_cmp day base)) m d) (date_at days year m d)

-- a weekday without a direction is the next one
abbrev pub sought : Direction → Direction
sought Last = Last
sought Next = Next
sought Here = Next
