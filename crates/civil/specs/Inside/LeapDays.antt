-- Leap days as the code counts them. Serves a private contract alone.
use Rattle.std.specs.Prelude.{ℤ, pos, ◌+ℤ◌, ◌-ℤ◌}
use Rattle.std.specs.Int.{int_div_euclid}

-- the leap days of the years up to y, less those up to the year 0: by division, rounded down
unfoldable pub leap_days_to : ℤ → ℤ
leap_days_to y = int_div_euclid y (pos 4) -ℤ int_div_euclid y (pos 100) +ℤ int_div_euclid y (pos 400)
