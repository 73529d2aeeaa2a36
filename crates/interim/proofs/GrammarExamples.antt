-- Phrases, with the parts or the fault that the definitions give them.
use Rattle.std.proofs.Common.{◌≡◌, List, ℕ, Option, Some, None, Result, Ok, Err, codes, negsuc, refl}
use Rattle.interim.specs.declared.errors.DateError.{DateError}
use Rattle.interim.specs.declared.errors.DateError.TheVariants.{ExpectedToken, EndOfText}
use Rattle.interim.specs.declared.errors.Expected.TheVariants as expected
use Rattle.interim.specs.declared.types.ByName.TheVariants as by_name
use Rattle.interim.specs.declared.types.DateSpec.{DateSpec}
use Rattle.interim.specs.declared.types.DateSpec.TheVariants.{FromName}
use Rattle.interim.specs.declared.types.DateTimeSpec.{DateTimeSpec}
use Rattle.interim.specs.declared.types.Dialect.TheVariants.{Uk, Us}
use Rattle.interim.specs.declared.types.Direction.TheVariants.{Here}
use Rattle.interim.specs.declared.types.Interval.TheVariants.{Seconds}
use Rattle.interim.specs.declared.types.TimeSpec.{TimeSpec}
use Rattle.interim.specs.DatePart.{date_part, first, head}
use Rattle.interim.specs.WordHeads.{word_head, month_head}
use Rattle.interim.specs.NumberHeads.{number_head, number_then_word}
use Rattle.interim.specs.NumberedDates.{dashed, slashed}
use Rattle.interim.specs.CountedDates.{units_on}
use Rattle.interim.specs.DateForms.{absolute}
use Rattle.interim.specs.Grammar.{both_parts, parts_of, duration_of}
use Rattle.interim.specs.Parts.{clock, with_offset}
use Rattle.interim.specs.ReadingSteps.{number, dash, follows, following_number, pass_over}
use Rattle.interim.specs.TimeEnds.{fraction, written_offset, closing}
use Rattle.interim.specs.ClockTimes.{after_minute, formal}
use Rattle.interim.specs.OpenHours.{after_hour}
use Rattle.interim.specs.TimePart.{whole_time, time_part}
use Rattle.interim.specs.Tokens.{more, kind_of, split_at, tokens, tokens_of, phrase_tokens}
use Rattle.interim.specs.Words.{month_of, weekday_of, unit_of, day_of_word, direction_of, half_of, is_ago, is_capital_t}

abbrev uk : List ℕ → Result DateTimeSpec DateError
uk phrase = parts_of Uk (phrase_tokens phrase)

abbrev us : List ℕ → Result DateTimeSpec DateError
us phrase = parts_of Us (phrase_tokens phrase)

abbrev read : Option DateSpec → Option TimeSpec → Result DateTimeSpec DateError
read date time = Ok (record { date = date; time = time })

exact : uk (codes "2018-03-23T20:00") ≡ read (Some (absolute 2018 3 23)) (Some (clock 20 0 0 0))
unfolding parts_of both_parts tokens_of tokens split_at more kind_of date_part first head number_head dashed number dash time_part whole_time follows is_capital_t after_hour formal after_minute closing
exact = refl

day_first : uk (codes "4/7/18") ≡ read (Some (absolute 2018 7 4)) None
unfolding parts_of both_parts tokens_of tokens split_at more kind_of date_part first head number_head slashed number follows time_part whole_time
day_first = refl

month_first : us (codes "4/7/18") ≡ read (Some (absolute 2018 4 7)) None
unfolding parts_of both_parts tokens_of tokens split_at more kind_of date_part first head number_head slashed number follows time_part whole_time
month_first = refl

weekday : uk (codes "friday 8pm") ≡ read (Some (FromName (by_name.WeekDay 4) Here)) (Some (clock 20 0 0 0))
unfolding parts_of both_parts tokens_of tokens split_at more kind_of date_part first head day_of_word direction_of word_head month_of weekday_of time_part whole_time follows is_capital_t after_hour half_of
weekday = refl

month_passes_over : uk (codes "june friday") ≡ read (Some (FromName (by_name.MonthName 6) Here)) None
unfolding parts_of both_parts tokens_of tokens split_at more kind_of date_part first head day_of_word direction_of word_head month_head following_number pass_over month_of time_part whole_time follows
month_passes_over = refl

minutes_ago : duration_of (phrase_tokens (codes "15m ago")) ≡ Ok (Seconds (negsuc 899))
unfolding duration_of parts_of both_parts tokens_of tokens split_at more kind_of date_part first head number_head number_then_word month_of unit_of units_on is_ago time_part whole_time follows
minutes_ago = refl

written_west : uk (codes "12:00:00.5 -07:30") ≡ read None (Some (with_offset (clock 12 0 0 5) (negsuc 26999)))
unfolding parts_of both_parts tokens_of tokens split_at more kind_of date_part first head number_head number time_part formal after_minute fraction follows closing written_offset
written_west = refl

no_ago : uk (codes "5 days x") ≡ Err (ExpectedToken expected.Ago (record { start = 7; end = 8 }))
unfolding parts_of both_parts tokens_of tokens split_at more kind_of date_part first head number_head number_then_word month_of unit_of units_on is_ago
no_ago = refl

directed_hour : uk (codes "next 5:00") ≡ Err (EndOfText expected.DayOrMonth)
unfolding parts_of both_parts tokens_of tokens split_at more kind_of date_part first day_of_word direction_of head number_head
directed_hour = refl

nothing : uk (codes "") ≡ Err (EndOfText expected.EmptyDate)
unfolding parts_of both_parts tokens_of tokens date_part first head
nothing = refl
