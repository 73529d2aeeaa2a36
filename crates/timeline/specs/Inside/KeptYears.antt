-- The transitions of a year, from what is kept of a rule (docs/ZONES.md, "Kinds of year"). Serves private contracts alone.
use Rattle.std.specs.Prelude.{◌≡◌, ℕ, false, not, slice_index_or, ℤ, pos, ◌+ℤ◌, ◌-ℤ◌, ◌*ℤ◌}
use Rattle.std.specs.Ordering.{int_eq}
use Rattle.civil.specs.Calendar.{year_start, year_kind}
use Rattle.timeline.specs.declared.offset.Transition.{Transition}
use Rattle.timeline.specs.declared.rule.TimeMode.{TimeMode}
use Rattle.timeline.specs.declared.rule.TimeMode.TheVariants.{Wall, Standard, Utc}
use Rattle.timeline.specs.declared.rule.KindDate.{KindDate}
use Rattle.timeline.specs.Inside.KeptRules.{KeptRule}

-- what is taken off a wall time to tell the second: the offset before it, the standard offset, or nothing
abbrev pub taken_off : TimeMode → ℤ → ℤ → ℤ
taken_off Wall before raw = before
taken_off Standard before raw = raw
taken_off Utc before raw = pos 0

-- the second of a date in a year that begins on this day and is of this kind
abbrev pub kind_second : KindDate → ℤ → ℤ → ℤ → ℕ → ℤ
kind_second d before raw start k =
    pos 86400 *ℤ (start +ℤ slice_index_or d.places k (pos 0)) +ℤ pos d.seconds -ℤ taken_off d.mode before raw

-- the year begins on this day and is of this kind
pub record BeginsYear (y day : ℤ) (k : ℕ) : Type 0 where
  pub first_day : day ≡ year_start y
  pub kind : k ≡ year_kind y

-- the start's transition in a year that begins on this day and is of this kind
abbrev pub kept_start : KeptRule → ℤ → ℕ → Transition
kept_start r start k = record {
  since = kind_second r.start r.raw r.raw start k;
  offset = r.raw +ℤ r.extra;
  rule_applies = not (int_eq r.extra (pos 0));
}

-- and the end's
abbrev pub kept_end : KeptRule → ℤ → ℕ → Transition
kept_end r start k = record { since = kind_second r.end (r.raw +ℤ r.extra) r.raw start k; offset = r.raw; rule_applies = false }
