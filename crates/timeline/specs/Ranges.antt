-- The ranges of a yearly rule's numbers, and of its first year in a zone (docs/FORMATS.md, "Rules" and "Zone fields").
use Rattle.std.specs.Prelude.{◌<◌, ◌≤◌, unsigned_abs, ℤ, pos, negsuc}
use Rattle.timeline.specs.Zone.{DateRule}

-- the least number of 28 bits with its sign, as a bundle has them
abbrev pub least_28 : ℤ
least_28 = negsuc 134217727

-- and the greatest one
abbrev pub greatest_28 : ℤ
greatest_28 = pos 134217727

-- a month of the year, a day that a month may have, of either sign, seconds of a day, and one of three modes
pub record IsDateInRange (r : DateRule) : Type 0 where
  pub month : r.month < 12
  pub some_day : 1 ≤ unsigned_abs r.day
  pub last_day : unsigned_abs r.day ≤ 31
  pub seconds : r.seconds ≤ 86400
  pub mode : r.mode ≤ 2
