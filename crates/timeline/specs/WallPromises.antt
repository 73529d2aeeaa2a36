-- Where the wall seconds of a lawful zone lie, as laws (docs/ZONES.md, "Placement").
use Rattle.std.specs.Prelude.{◌≡◌, ◌⊎◌, ℕ, ◌+◌, Some, IfSome, ℤ, pos, ◌+ℤ◌, ◌-ℤ◌, ◌<ℤ◌, ◌≤ℤ◌}
use Rattle.civil.specs.Calendar.{year_second}
use Rattle.timeline.specs.declared.offset.PossibleOffset.{PossibleOffset}
use Rattle.timeline.specs.Zone.{PlainZone, PlainRule, end_year}
use Rattle.timeline.specs.Rule.{first_entry, second_entry}
use Rattle.timeline.specs.Timeline.{offset_at, entry_at, table_place}
use Rattle.timeline.specs.Placement.{IsPlaced, IsInStretch, Showing}
use Rattle.timeline.specs.Lookups.{AnswersWall, placing}
use Rattle.timeline.specs.Laws.{IsLawful}
use Rattle.timeline.specs.TableLaws.{IsSmall}

-- each wall second of a lawful zone is shown by one second or two, or lies in one gap
abbrev pub WallSecondsShow : Type 0
WallSecondsShow = (z : PlainZone) (w : ℤ) → IsLawful z → Showing z w

-- so each has a place
abbrev pub WallSecondsArePlaced : Type 0
WallSecondsArePlaced = (z : PlainZone) (w : ℤ) → IsLawful z → (s : ℤ) × IsPlaced z w s

-- no offset in force is a day or more
abbrev pub OffsetsAreSmall : Type 0
OffsetsAreSmall = (z : PlainZone) (t : ℤ) → IsLawful z → IsSmall (offset_at z t).offset

-- what a look-up by wall second answers in a lawful zone tells where the wall second is placed
abbrev pub AnswersPlace : Type 0
AnswersPlace = (z : PlainZone) (w : ℤ) (answer : PossibleOffset) → IsLawful z → AnswersWall z w answer → IsPlaced z w (w -ℤ (placing answer).offset)

-- w is a second of the year y: counted by the wall for a wall second, and at UTC for another
pub record IsOfYear (y w : ℤ) : Type 0 where
  pub from : year_second y ≤ℤ w
  pub to : w <ℤ year_second (y +ℤ pos 1)

-- the nth entry is one of the two that the rule has in the year y
abbrev pub IsRuleEntry : PlainZone → PlainRule → ℤ → ℕ → Type 0
IsRuleEntry z r y n = (entry_at z n ≡ Some (first_entry r y)) ⊎ (entry_at z n ≡ Some (second_entry r y))

-- in which stretches a wall second w of the year y can lie
pub record HasTwoCandidates (z : PlainZone) (y w : ℤ) : Type 0 where
  -- from the rule's first year on, in those of the year's two entries alone
  pub by_rule : IfSome z.rule (λ r. r.first_year ≤ℤ y → (n : ℕ) → IsInStretch z w n → IsRuleEntry z r y n)
  -- and from the year that has none any more in no stretch
  pub past_rule : IfSome z.rule (λ r. r.first_year ≤ℤ y → end_year ≤ℤ y → (n : ℕ) → IsInStretch z w n → ⊥)
  -- before that year, or without a rule, in those of two neighbours: with w taken as a second, the last entry of the table
  -- that is not after it, and the next
  pub by_table : IfSome z.rule (λ r. y <ℤ r.first_year) → (n : ℕ) → IsInStretch z w n → (n + 1 ≡ table_place z w) ⊎ (n ≡ table_place z w)

-- a wall second of a lawful zone lies in the stretches of two neighbours at most, which can be told beforehand
abbrev pub TwoCandidates : Type 0
TwoCandidates = (z : PlainZone) (y w : ℤ) → IsLawful z → IsOfYear y w → HasTwoCandidates z y w
