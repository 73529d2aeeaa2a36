-- The wall second of a phrase of the plain form lies well inside the calendar.
use Rattle.std.proofs.Common.{◌≡◌, ℕ, ◌<◌, length, Ok, Result, ℤ, pos, negsuc, ◌+ℤ◌, ◌-ℤ◌, ◌≤ℤ◌, subst, arith}
use Rattle.std.specs.Prelude.{MatchResult}
use Rattle.civil.specs.Calendar.{day_of, wall_second}
use Rattle.civil.specs.CivilDates.{IsDate, IsDay}
use Rattle.civil.specs.Clock.{IsWallSecond}
use Rattle.jiff_core.proofs.SignedLemmas.{signed_arith}
use Rattle.interim.specs.declared.errors.DateError.{DateError}
use Rattle.interim.specs.declared.types.DateSpec.TheVariants.{Absolute}
use Rattle.interim.specs.declared.types.DateTimeSpec.{DateTimeSpec}
use Rattle.std.proofs.Common.{Some}
use Rattle.interim.specs.Grammar.{parts_of}
use Rattle.interim.specs.PartLaws.{AreSmallParts, IsFaultIn}
use Rattle.interim.specs.MeaningLaws.{PlainFormsAreInside}
use Rattle.interim.specs.Tokens.{phrase_tokens}
use Rattle.interim.proofs.PlainMeaning.{CivilLaws, date_in_year, few_days_on}
use Rattle.interim.proofs.PlainReading.{form_read}
use Rattle.interim.proofs.SoundParts.{parts_sound}

-- a date of a year from 0 on lies long after the calendar's first day
late_day : CivilLaws → (y : ℤ) (m d : ℕ) → IsDate y m d → pos 0 ≤ℤ y → negsuc 800000 ≤ℤ day_of y m d
late_day laws y m d is first =
    omega (arith, signed_arith, (date_in_year laws.months y m d is).begun, laws.counts.epoch, laws.years.least (pos 0) y first, laws.years.most (pos 0) (pos 1970) (omega (arith, signed_arith)))

inside_of : (day : ℤ) (hour min sec : ℕ) (w : ℤ) → negsuc 800000 ≤ℤ day → IsDay (day +ℤ pos 900) → hour < 10012 → min < 60 → sec < 60
    → w ≡ wall_second day hour min sec → IsWallSecond (w -ℤ pos 86400) × IsWallSecond (w +ℤ pos 86400)
inside_of day hour min sec w low high h m s is =
    let last = high.last in (
      record { first = omega (arith, signed_arith, low, is); last = omega (arith, signed_arith, last, is, h, m, s) },
      record { first = omega (arith, signed_arith, low, is); last = omega (arith, signed_arith, last, is, h, m, s) },
    )

pub plain_inside : CivilLaws → PlainFormsAreInside
plain_inside laws dialect phrase w form =
    let date = form.0 in
    let time = form.1 in
    let named = form.2 in
    let wall = form.3 in
    let whole : DateTimeSpec = record { date = Some (Absolute date); time = Some time } in
    let is : parts_of dialect (phrase_tokens phrase) ≡ Ok whole = form_read dialect named.form (phrase_tokens phrase) date time named.spelling named.date_is named.time_is in
    let Small : Result DateTimeSpec DateError → Type 0 = λ x. MatchResult x AreSmallParts (IsFaultIn (length phrase)) in
    let small = subst Small is (parts_sound dialect phrase) in
    inside_of (day_of date.year date.month date.day) time.hour time.min time.sec w (late_day laws date.year date.month date.day wall.date_exists small.date.first_year)
    (few_days_on laws date.year date.month date.day 900 wall.date_exists small.date.last_year (omega arith)) small.time.hour wall.minute_exists wall.second_exists wall.wall_is
