-- Offsets of less than a day (docs/ZONES.md, "Zones of `zoned`").
use Rattle.std.specs.Prelude.{ℤ, pos, negsuc, ◌≤ℤ◌}

-- less than a day to either side
pub record IsOffset (seconds : ℤ) : Type 0 where
  pub west : negsuc 86398 ≤ℤ seconds
  pub east : seconds ≤ℤ pos 86399
