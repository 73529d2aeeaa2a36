-- How an offset is written: +hh:mm, and :ss where it has seconds (docs/ZONES.md, "Zones of `zoned`").
use Rattle.std.specs.Prelude.{ℕ, ◌/◌, ◌%◌, ◌==◌, List, ◌∷◌, ◌++◌, codes, if◌then◌else◌, ℤ, pos, int_lt, unsigned_abs}
use Rattle.std.specs.Fmt.{decimal}
use Rattle.civil.specs.Dates.{two_digits}

-- a minus below 0, and else a plus
abbrev pub offset_sign : ℤ → List ℕ
offset_sign seconds = if int_lt seconds (pos 0) then codes "-" else codes "+"

-- the hours, a colon and the minutes; then a colon and the seconds, where there are any
abbrev pub clock_text : ℕ → List ℕ
clock_text n =
    if n % 60 == 0
    then two_digits (n / 3600) (58 ∷ (decimal (n / 60 % 60 / 10) ++ decimal (n / 60 % 60 % 10)))
    else two_digits (n / 3600) (58 ∷ two_digits (n / 60 % 60) (58 ∷ (decimal (n % 60 / 10) ++ decimal (n % 60 % 10))))

-- the sign of an offset of so many seconds, then its hours, minutes and, where it has any, seconds
abbrev pub offset_text : ℤ → List ℕ
offset_text seconds = offset_sign seconds ++ clock_text (unsigned_abs seconds)
