-- Worked examples of told distances that are read back.
use Rattle.std.proofs.Common.{pos, refl, codes}
use Rattle.tongues.specs.declared.unit.TimeUnit.TheVariants as u
use Rattle.interim.specs.declared.types.Interval.TheVariants.{Days, Months}
use Rattle.interim.specs.DatePart.{date_part, first, head}
use Rattle.interim.specs.NumberHeads.{number_head, number_then_word}
use Rattle.interim.specs.CountedDates.{units_on}
use Rattle.interim.specs.Grammar.{both_parts, parts_of, duration_of}
use Rattle.interim.specs.ReadingSteps.{follows}
use Rattle.interim.specs.TimePart.{time_part, whole_time}
use Rattle.interim.specs.Tokens.{more, kind_of, split_at, tokens, tokens_of}
use Rattle.interim.specs.Words.{month_of, unit_of, is_ago}
use Rattle.tell.specs.ReadBack.{SaysBack}

three_weeks : SaysBack (codes "3 weeks ago") u.Weeks 3
unfolding parts_of both_parts duration_of tokens_of tokens split_at more kind_of date_part first head number_head number_then_word month_of unit_of units_on is_ago time_part whole_time follows
three_weeks = record { interval = Days (pos 7); of_unit = refl; parts = λ dialect. refl; duration = refl }

most_years : SaysBack (codes "9999 years ago") u.Years 9999
unfolding parts_of both_parts duration_of tokens_of tokens split_at more kind_of date_part first head number_head number_then_word month_of unit_of units_on is_ago time_part whole_time follows
most_years = record { interval = Months (pos 12); of_unit = refl; parts = λ dialect. refl; duration = refl }
