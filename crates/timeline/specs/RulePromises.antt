-- What the days and transitions of rules keep, as laws (docs/ZONES.md, "Rules").
use Rattle.std.specs.Prelude.{◌≡◌, ℕ, ◌<◌, ℤ, pos, ◌+ℤ◌, ◌*ℤ◌, ◌≤ℤ◌}
use Rattle.civil.specs.Calendar.{year_start, year_kind, weekday_of}
use Rattle.timeline.specs.declared.offset.Transition.{Transition}
use Rattle.timeline.specs.Zone.{DateRule, PlainRule}
use Rattle.timeline.specs.RuleDays.{rule_date, first_on, last_on}
use Rattle.timeline.specs.Rule.{first_entry, second_entry}
use Rattle.timeline.specs.Kinds.{place_in_kind}

-- d is the first day from `from` on that has the weekday w
pub record IsFirstFrom (w from d : ℤ) : Type 0 where
  pub weekday : weekday_of d ≡ w
  pub begins : from ≤ℤ d
  pub first : (e : ℤ) → from ≤ℤ e → weekday_of e ≡ w → d ≤ℤ e

-- d is the last such day up to `to`
pub record IsLastTo (w to d : ℤ) : Type 0 where
  pub weekday : weekday_of d ≡ w
  pub ends : d ≤ℤ to
  pub last : (e : ℤ) → e ≤ℤ to → weekday_of e ≡ w → e ≤ℤ d

-- the days that a rule's date counts from are these
pub record RuleDaysAreNearest : Type 0 where
  pub first : (w : ℕ) (from : ℤ) → w < 7 → IsFirstFrom (pos w) from (first_on 6 (pos w) from)
  pub last : (w : ℕ) (to : ℤ) → w < 7 → IsLastTo (pos w) to (last_on 6 (pos w) to)

-- a date of a rule is as many days after 1 January in all years of a kind
abbrev pub RulesGoByKind : Type 0
RulesGoByKind = (r : DateRule) (y : ℤ) → rule_date r y ≡ year_start y +ℤ place_in_kind r (year_kind y)

-- a transition is another one so many seconds later
pub record IsLater (seconds : ℤ) (e f : Transition) : Type 0 where
  pub since : f.since ≡ e.since +ℤ seconds
  pub offset : f.offset ≡ e.offset
  pub rule_applies : f.rule_applies ≡ e.rule_applies

-- the transitions of each year come again after 400 years, which are 146,097 days
pub record RulesRepeat : Type 0 where
  pub first : (r : PlainRule) (y : ℤ) → IsLater (pos 86400 *ℤ pos 146097) (first_entry r y) (first_entry r (y +ℤ pos 400))
  pub second : (r : PlainRule) (y : ℤ) → IsLater (pos 86400 *ℤ pos 146097) (second_entry r y) (second_entry r (y +ℤ pos 400))
