-- The two transitions of a yearly rule in a year (docs/ZONES.md, "Rules").
use Rattle.std.specs.Prelude.{ℕ, ◌==◌, nat_lt, Bool, false, not, if◌then◌else◌, ℤ, pos, ◌+ℤ◌, ◌-ℤ◌, ◌*ℤ◌, unsigned_abs}
use Rattle.std.specs.Ordering.{int_eq}
use Rattle.timeline.specs.Zone.{DateRule, PlainRule}
use Rattle.timeline.specs.declared.offset.Transition.{Transition}
use Rattle.timeline.specs.RuleDays.{rule_date}

-- what a time of day is less than UTC by: the offset before, the standard offset, or nothing
abbrev pub counted_by : ℕ → ℤ → ℤ → ℤ
counted_by mode before raw = if mode == 0 then before else (if mode == 1 then raw else pos 0)

-- the second of a date in a year: its day's first second, its second of the day, less what that is counted by
unfoldable pub rule_second : DateRule → ℤ → ℤ → ℤ → ℤ
rule_second r before raw y = pos 86400 *ℤ rule_date r y +ℤ pos r.seconds -ℤ counted_by r.mode before raw

-- the start adds the extra offset, the end adds none, and the offset before each is the other's
abbrev pub start_entry : PlainRule → ℤ → Transition
start_entry r y = record {
  since = rule_second r.start r.raw r.raw y;
  offset = r.raw +ℤ r.extra;
  rule_applies = not (int_eq r.extra (pos 0));
}

-- the end's transition in a year
abbrev pub end_entry : PlainRule → ℤ → Transition
end_entry r y = record { since = rule_second r.end (r.raw +ℤ r.extra) r.raw y; offset = r.raw; rule_applies = false }

-- the start is a year's first transition, unless its month, or in the same month the size of its day, is greater
abbrev pub start_is_first : PlainRule → Bool
start_is_first r =
    if r.start.month == r.end.month then not (nat_lt (unsigned_abs r.end.day) (unsigned_abs r.start.day))
    else nat_lt r.start.month r.end.month

-- the first transition of a year
abbrev pub first_entry : PlainRule → ℤ → Transition
first_entry r y = if start_is_first r then start_entry r y else end_entry r y

-- the second transition of a year
abbrev pub second_entry : PlainRule → ℤ → Transition
second_entry r y = if start_is_first r then end_entry r y else start_entry r y
