-- Intervals, and their products (docs/GRAMMAR.md, "Words").
use Rattle.std.specs.Prelude.{ℤ, ◌*ℤ◌, FitsSigned}
use Rattle.std.specs.Int.{w32}
use Rattle.interim.specs.declared.types.Interval.{Interval}
use Rattle.interim.specs.declared.types.Interval.TheVariants.{Seconds, Days, Months}

-- how many seconds, days or months it counts
abbrev pub count_of : Interval → ℤ
count_of (Seconds n) = n
count_of (Days n) = n
count_of (Months n) = n

-- so many times the interval, in the same unit
abbrev pub scaled : Interval → ℤ → Interval
scaled (Seconds n) k = Seconds (n *ℤ k)
scaled (Days n) k = Days (n *ℤ k)
scaled (Months n) k = Months (n *ℤ k)

-- so many times a unit fit 32 bits with a sign
abbrev pub ProductFits : Interval → ℤ → Type 0
ProductFits i k = FitsSigned w32 (count_of i *ℤ k)
