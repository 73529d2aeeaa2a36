-- What is kept of a yearly rule to tell its years by their kinds (docs/ZONES.md, "Kinds of year"). Serves private contracts
-- alone.
use Rattle.std.specs.Prelude.{◌≡◌, ℕ, ◌<◌, ◌==◌, Bool, if◌then◌else◌, List, map, slice_index_or, ℤ, pos, ◌≤ℤ◌}
use Rattle.std.specs.List.{range_with_len}
use Rattle.timeline.specs.declared.rule.TimeMode.{TimeMode}
use Rattle.timeline.specs.declared.rule.TimeMode.TheVariants.{Wall, Standard, Utc}
use Rattle.timeline.specs.declared.rule.KindDate.{KindDate}
use Rattle.timeline.specs.Zone.{DateRule, PlainRule}
use Rattle.timeline.specs.Rule.{start_is_first}
use Rattle.timeline.specs.Kinds.{place_in_kind}

-- the places in years of the 14 kinds
unfoldable pub places_of : DateRule → List ℤ
places_of r = map (place_in_kind r) (range_with_len 0 14)

-- the places in years of all kinds lie from one place to another
abbrev pub LieWithin : List ℤ → ℤ → ℤ → Type 0
LieWithin places from to = (k : ℕ) → k < 14 → (from ≤ℤ slice_index_or places k (pos 0)) × (slice_index_or places k (pos 0) ≤ℤ to)

-- what the seconds of the day are counted by
abbrev pub time_mode : ℕ → TimeMode
time_mode n = if n == 0 then Wall else (if n == 1 then Standard else Utc)

-- what is kept of a date: its place in each kind of year, its second of the day, and what that is counted by
abbrev pub kind_date : DateRule → KindDate
kind_date r = record { places = places_of r; seconds = r.seconds; mode = time_mode r.mode }

-- what is kept of a rule to tell its years
pub record KeptRule : Type 0 where
  pub start : KindDate
  pub end : KindDate
  pub extra : ℤ
  pub raw : ℤ
  pub start_is_first : Bool
  pub first_year : ℤ

-- what is kept of a rule: both dates, its offsets, which date is first, and its first year
unfoldable pub kept_rule : PlainRule → KeptRule
kept_rule r = record {
  start = kind_date r.start;
  end = kind_date r.end;
  extra = r.extra;
  raw = r.raw;
  start_is_first = start_is_first r;
  first_year = r.first_year;
}

-- P is true of each rule of which this is kept
abbrev pub OfItsRule : KeptRule → (PlainRule → Type 0) → Type 0
OfItsRule k P = (r : PlainRule) → k ≡ kept_rule r → P r
