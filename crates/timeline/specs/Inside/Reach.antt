-- The days, seconds and years that sums are made of, so that none wraps (docs/ZONES.md, "Look-ups"). Serves private contracts
-- alone.
use Rattle.std.specs.Prelude.{ℤ, pos, negsuc, ◌<ℤ◌, ◌≤ℤ◌}
use Rattle.timeline.specs.Zone.{end_year}

-- a day no farther from day 0 than 900,000,000,000 days, as each day of the years of 32 bits is
abbrev pub IsInReach : ℤ → Type 0
IsInReach day = (negsuc 899999999999 ≤ℤ day) × (day ≤ℤ pos 900000000000)

-- a second no farther from the first one of day 0 than 800,000,000,000 days are long, as the first one of each such year is
abbrev pub IsSecondInReach : ℤ → Type 0
IsSecondInReach second = (negsuc 69119999999999999 ≤ℤ second) × (second ≤ℤ pos 69120000000000000)

-- the first year of 32 bits; the last one is that in which rules end
abbrev pub first_of_32 : ℤ
first_of_32 = negsuc 2147483647

-- a year that is neither
abbrev pub IsInside : ℤ → Type 0
IsInside year = (first_of_32 <ℤ year) × (year <ℤ end_year)
