-- A zone as plain data (docs/FORMATS.md, "Zone fields").
use Rattle.std.specs.Prelude.{ℕ, Bool, ◌&&◌, List, Option, ℤ, pos, negsuc, int_le}
use Rattle.timeline.specs.declared.offset.Offset.{Offset}
use Rattle.timeline.specs.declared.offset.Transition.{Transition}

-- one of the two dates of a yearly rule: a month from 0, a day, a weekday code (1 is Sunday), seconds of the day,
-- and what these are counted by (0 is wall time, 1 standard time, 2 UTC)
pub record DateRule : Type 0 where
  pub month : ℕ
  pub day : ℤ
  pub code : ℤ
  pub seconds : ℕ
  pub mode : ℕ

-- a yearly rule with the extra offset that its start adds
pub record RawRule : Type 0 where
  pub start : DateRule
  pub end : DateRule
  pub extra : ℤ

-- a yearly rule in a zone, with the zone's standard offset and the first year in which it holds
pub record PlainRule : Type 0 where
  pub start : DateRule
  pub end : DateRule
  pub extra : ℤ
  pub raw : ℤ
  pub first_year : ℤ

-- the initial offset, the table of transitions with the lengths of its first and third part, and perhaps a rule;
-- the three lists after them are kept as they were read
pub record PlainZone : Type 0 where
  pub initial : Offset
  pub table : List Transition
  pub early : ℕ
  pub late : ℕ
  pub rule : Option PlainRule
  pub type_offsets : List (ℤ × ℤ)
  pub type_map : List ℕ
  pub links : List ℕ

-- rules have transitions in the years below this one, which is the last of 32 bits
abbrev pub end_year : ℤ
end_year = pos 2147483647

-- a number of 32 bits with its sign
abbrev pub fits_i32 : ℤ → Bool
fits_i32 z = int_le (negsuc 2147483647) z && int_le z (pos 2147483647)

-- a rule in a zone of that standard offset, from that year on
abbrev pub plain_rule : RawRule → ℤ → ℤ → PlainRule
plain_rule rule raw year =
    record { start = rule.start; end = rule.end; extra = rule.extra; raw = raw; first_year = year }
