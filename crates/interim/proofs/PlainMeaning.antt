-- A phrase of the plain form means the wall second that it names, as the zone places it.
use Rattle.std.proofs.Common.{◌≡◌, inl, inr, ℕ, ◌/◌, ◌%◌, ◌<◌, length, Option, Some, None, Ok, Result, true, false, ℤ, pos, ◌+ℤ◌, ◌≤ℤ◌, refl, sym, ap, subst, ◌∙◌, ◌*ℤ◌, arith}
use Rattle.std.specs.Prelude.{option_and_then, MatchResult}
use Rattle.civil.specs.Calendar.{day_of}
use Rattle.civil.specs.CivilDates.{HoldsDay, IsDate, IsDay}
use Rattle.civil.specs.Clock.{IsWallSecond, clock_second}
use Rattle.jiff_core.proofs.SignedLemmas.{signed_arith}
use Rattle.civil.specs.DateLaws.{MonthDaysAreDays, YearsHaveTheirDays}
use Rattle.civil.specs.Laws.{CountsYears, DatesAreDays}
use Rattle.zoned.specs.Placing.{IsPlaced}
use Rattle.interim.specs.declared.errors.DateError.{DateError}
use Rattle.interim.specs.declared.types.AbsDate.{AbsDate}
use Rattle.interim.specs.declared.types.DateSpec.TheVariants.{Absolute}
use Rattle.interim.specs.declared.types.DateTimeSpec.{DateTimeSpec}
use Rattle.interim.specs.declared.types.Dialect.{Dialect}
use Rattle.interim.specs.declared.types.TimeSpec.{TimeSpec}
use Rattle.interim.specs.Grammar.{parts_of}
use Rattle.interim.specs.PartLaws.{AreSmallParts, IsFaultIn}
use Rattle.interim.specs.Aims.{Aim, AtWall, aim, clock_or, clock_time, midnight}
use Rattle.interim.specs.Meaning.{Lands, MeansIn, moment_at}
use Rattle.interim.specs.DatesAndTimes.{date_at}
use Rattle.interim.specs.MeaningLaws.{PlainFormsMean}
use Rattle.interim.specs.PlainForm.{IsWall}
use Rattle.interim.specs.Refusal.{civil_days, civil_seconds}
use Rattle.interim.specs.Tokens.{phrase_tokens}
use Rattle.interim.proofs.Answered.{clock_on-is}
use Rattle.interim.proofs.PlainReading.{form_read, time_plain}
use Rattle.interim.proofs.SoundParts.{parts_sound}
use Rattle.interim.proofs.Stretches.{found_date, found_day, found_time, is_within-of}

-- what `civil` keeps of its dates
pub record CivilLaws : Type 0 where
  pub counts : CountsYears
  pub dates : DatesAreDays
  pub months : MonthDaysAreDays
  pub years : YearsHaveTheirDays

-- a date lies in its year
pub date_in_year : MonthDaysAreDays → (y : ℤ) (m d : ℕ) → IsDate y m d → HoldsDay y (day_of y m d)
date_in_year law y m d is = law.in_year y m d (record { from = is.first_month; to = is.last_month; first = is.first_day; last = is.last_day })

-- some days after a date of a year of four digits the calendar has not ended
pub few_days_on : CivilLaws → (y : ℤ) (m d n : ℕ) → IsDate y m d → y ≤ℤ pos 9999 → n < 1000 → IsDay (day_of y m d +ℤ pos n)
few_days_on laws y m d n is last few =
    let inside = laws.dates.inside y m d is in
    let over = (date_in_year laws.months y m d is).not_over in
    record {
      first = omega (arith, signed_arith, inside.first);
      last = omega (arith, signed_arith, over, laws.counts.epoch, laws.years.least (y +ℤ pos 1) (pos 10000) (omega (arith, signed_arith)), laws.years.most (pos 1970) (pos 10000) (omega (arith, signed_arith)));
    }

-- the time of the day that a clock time without a fraction tells
plain_clock : (time : TimeSpec) → time.min < 60 → time.sec < 60 → time.microsec ≡ 0 → clock_time time ≡ Some (clock_second (time.hour % 24) time.min time.sec, 0)
plain_clock time a b e =
    let at = found_time (time.hour % 24) time.min time.sec _ 0 (record { in_day = omega arith; in_hour = a; in_minute = b }) refl refl in
    rw (at, e) refl

-- a date and a clock time lead to their wall second
plain_aim : CivilLaws → (date : AbsDate) (time : TimeSpec) (w : ℤ) → IsWall date time w → date.year ≤ℤ pos 9999 → time.hour < 10012 → time.offset ≡ None → time.microsec ≡ 0
    → option_and_then (clock_or civil_days midnight (Some time)) (date_at civil_days date.year date.month date.day) ≡ Some (AtWall w 0)
plain_aim laws date time w wall year hour offset micros =
    let day = day_of date.year date.month date.day in
    let later = day +ℤ pos (time.hour / 24) in
    let clock = clock_second (time.hour % 24) time.min time.sec in
    let found = found_date date.year date.year date.month date.day day refl wall.date_exists (laws.dates.inside date.year date.month date.day wall.date_exists) refl in
    let inside = found_day later later (few_days_on laws date.year date.month date.day (time.hour / 24) wall.date_exists year (omega (arith, hour))) refl in
    let leads = clock_on-is civil_days time day later (clock, 0) (plain_clock time wall.minute_exists wall.second_exists micros) inside in
    let same : pos 86400 *ℤ later +ℤ pos clock ≡ w = omega (arith, signed_arith, wall.wall_is) in
    rw found (leads ∙ (ap (λ (o : Option ℤ). Some (aim o later (clock, 0))) offset ∙ ap (λ (x : ℤ). Some (AtWall x 0)) same))

-- from a base with a wall time of the calendar they mean its place
plain_from_wall : (off : ℤ → ℤ) (base : ℤ × ℕ) (dialect : Dialect) (date : AbsDate) (time : TimeSpec) (w : ℤ) (r : Option (ℤ × ℕ))
    → option_and_then (clock_or civil_days midnight (Some time)) (date_at civil_days date.year date.month date.day) ≡ Some (AtWall w 0)
    → IsWallSecond (base.0 +ℤ off base.0)
    → MeansIn off civil_days civil_seconds base dialect (Some (Absolute date)) (Some time) r
    → (s : ℤ) × IsPlaced off w s × (r ≡ moment_at civil_seconds s 0)
plain_from_wall off base dialect date time w r leads inside p =
    elim p.2 [
      | inl q ↦
          let a = q.1 in
          let P : Option Aim → Type 0 = λ (found : Option Aim). Lands (λ w f s. IsPlaced off w s) civil_seconds found r in
          subst P (a.1 ∙ leads) a.2
      | inr q ↦
          let never : true ≡ false = sym (is_within-of civil_days p.0.day (omega (arith, signed_arith, p.1.shown, p.1.in_day, inside.first)) (omega (arith, signed_arith, p.1.shown, p.1.in_day, inside.last))) ∙ q.0 in
          cc
    ]

pub plain_means : CivilLaws → PlainFormsMean
plain_means laws = record {
  placed = λ off dialect phrase w base parts r form read inside means.
      let date = form.0 in
      let time = form.1 in
      let named = form.2 in
      let wall = form.3 in
      let plain = time_plain named.form.time named.form.half time named.time_is in
      let whole : DateTimeSpec = record { date = Some (Absolute date); time = Some time } in
      let is : parts_of dialect (phrase_tokens phrase) ≡ Ok whole = form_read dialect named.form (phrase_tokens phrase) date time named.spelling named.date_is named.time_is in
      let same : parts ≡ whole = cc in
      let Small : Result DateTimeSpec DateError → Type 0 = λ x. MatchResult x AreSmallParts (IsFaultIn (length phrase)) in
      let small = subst Small is (parts_sound dialect phrase) in
      let leads = plain_aim laws date time w wall small.date.last_year small.time.hour plain.0 plain.1 in
      let M : DateTimeSpec → Type 0 = λ x. MeansIn off civil_days civil_seconds base dialect x.date x.time r in
      plain_from_wall off base dialect date time w r leads inside (subst M same means);
}
