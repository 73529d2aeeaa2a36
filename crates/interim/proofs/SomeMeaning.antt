-- The parts of a phrase have a meaning, or none, where each wall second has a place.
use Rattle.std.proofs.Common.{◌≡◌, inl, inr, ℕ, true, Option, Some, None, ℤ, ◌+ℤ◌, refl, arith}
use Rattle.std.proofs.lemmas.Bool.{cases_Bool}
use Rattle.std.specs.Prelude.{option_and_then}
use Rattle.civil.specs.Clock.{wall_day, wall_clock}
use Rattle.civil.specs.Months.{months_on}
use Rattle.civil.specs.Shown.{Shows}
use Rattle.civil.specs.Laws.{DatesAreDays}
use Rattle.jiff_core.proofs.SignedLemmas.{signed_arith, int_rem_euclid-parts}
use Rattle.zoned.specs.Placing.{IsPlaced}
use Rattle.interim.specs.declared.types.ByName.{ByName}
use Rattle.interim.specs.declared.types.ByName.TheVariants as by_name
use Rattle.interim.specs.declared.types.DateSpec.{DateSpec}
use Rattle.interim.specs.declared.types.DateSpec.TheVariants.{Absolute, Relative, FromName}
use Rattle.interim.specs.declared.types.Dialect.{Dialect}
use Rattle.interim.specs.declared.types.Direction.{Direction}
use Rattle.interim.specs.declared.types.Interval.TheVariants.{Seconds, Days, Months}
use Rattle.interim.specs.declared.types.TimeSpec.{TimeSpec}
use Rattle.interim.specs.Aims.{Aim, AtSecond, AtWall, clock_on, clock_or, midnight}
use Rattle.interim.specs.Walls.{Wall, month_day}
use Rattle.interim.specs.DatesAndTimes.{IsDateOn, date_at}
use Rattle.interim.specs.PartMeanings.{LeadsTo, PartsLeadTo}
use Rattle.interim.specs.Inside.Resolving.{IsFromWall}
use Rattle.interim.specs.NamedDates.{IsNamed, week_day}
use Rattle.interim.specs.Meaning.{Lands, MeansFromWall, MeansIn, moment_at}
use Rattle.interim.specs.MeaningLaws.{SomeMeaning}
use Rattle.interim.specs.Refusal.{civil_days, civil_seconds, is_within, within}
use Rattle.interim.proofs.Stretches.{date_on, is_within-tells}

-- all parts but an interval of seconds
abbrev AreFromWall : Option DateSpec → Type 0
AreFromWall None = Unit {0}
AreFromWall (Some spec) = IsFromWall spec

-- and what is led to lies at a moment, or at none
some_lands : (off : ℤ → ℤ) (found : Option Aim) → ((w : ℤ) → (s : ℤ) × IsPlaced off w s) → (r : Option (ℤ × ℕ)) × Lands (λ w f s. IsPlaced off w s) civil_seconds found r
some_lands off None places = (None, refl)
some_lands off (Some (AtSecond s f)) places = (moment_at civil_seconds s f, refl)
some_lands off (Some (AtWall w f)) places =
    let at = places w in
    (moment_at civil_seconds at.0 f, (at.0, at.1, refl))

module _ (law : DatesAreDays) where
  -- a day of the calendar has a date
  some_date : (day : ℤ) → is_within civil_days day ≡ true → (y : ℤ) × (m : ℕ) × (d : ℕ) × IsDateOn day y m d
  some_date day is =
      let ends = is_within-tells civil_days day is in
      let date = law.onto day (record { first = ends.0; last = ends.1 }) in
      (date.0, date.1, date.2, date_on day date.0 date.1 date.2 (record { exists = date.3; is = date.4 }))

  -- a name means a day, or none
  some_named : (wall : Wall) (dialect : Dialect) (clock : Option TimeSpec) (name : ByName) (direction : Direction) → is_within civil_days wall.day ≡ true → (found : Option ℤ) × IsNamed civil_days wall dialect clock name direction found
  some_named wall dialect clock (by_name.WeekDay n) direction is = (week_day civil_days wall dialect n direction clock, refl)
  some_named wall dialect clock (by_name.MonthName m) direction is =
      let at = some_date wall.day is in
      (month_day civil_days wall.day at.0 m 1 direction, (at.0, at.1, at.2, at.3, refl))
  some_named wall dialect clock (by_name.DayMonth day m) direction is =
      let at = some_date wall.day is in
      (month_day civil_days wall.day at.0 m day direction, (at.0, at.1, at.2, at.3, refl))

  -- a date part leads somewhere, or nowhere
  some_leads : (wall : Wall) (dialect : Dialect) (spec : DateSpec) (clock : Option TimeSpec) → IsFromWall spec → is_within civil_days wall.day ≡ true → (found : Option Aim) × LeadsTo civil_days wall dialect spec clock found
  some_leads wall dialect (Absolute date) clock from is = (option_and_then (clock_or civil_days midnight clock) (date_at civil_days date.year date.month date.day), refl)
  some_leads wall dialect (Relative (Seconds n)) clock from is = absurd from
  some_leads wall dialect (Relative (Days n)) clock from is = (option_and_then (clock_or civil_days wall.time clock) (within civil_days (wall.day +ℤ n)), refl)
  some_leads wall dialect (Relative (Months n)) clock from is =
      let at = some_date wall.day is in
      (option_and_then (clock_or civil_days midnight clock) (within civil_days (months_on at.0 at.1 at.2 n)), (at.0, at.1, at.2, at.3, refl))
  some_leads wall dialect (FromName name direction) clock from is =
      let day = some_named wall dialect clock name direction is in
      (option_and_then (clock_or civil_days midnight clock) day.0, (day.0, day.1, refl))

  some_parts : (wall : Wall) (dialect : Dialect) (date : Option DateSpec) (clock : Option TimeSpec) → AreFromWall date → is_within civil_days wall.day ≡ true → (found : Option Aim) × PartsLeadTo civil_days wall dialect date clock found
  some_parts wall dialect (Some spec) clock from is = some_leads wall dialect spec clock from is
  some_parts wall dialect None (Some clock) from is = (clock_on civil_days clock wall.day, refl)
  some_parts wall dialect None None from is = (None, refl)

  some_from_wall : (off : ℤ → ℤ) (base : ℤ × ℕ) (dialect : Dialect) (date : Option DateSpec) (clock : Option TimeSpec) → AreFromWall date → ((w : ℤ) → (s : ℤ) × IsPlaced off w s)
      → (r : Option (ℤ × ℕ)) × MeansFromWall (λ s f w. Shows off s w) (λ w f s. IsPlaced off w s) civil_days civil_seconds base dialect date clock r
  unfolding wall_day wall_clock
  some_from_wall off base dialect date clock from places =
      let shown = base.0 +ℤ off base.0 in
      let wall : Wall = record { day = wall_day shown; time = (wall_clock shown, base.1) } in
      elim (cases_Bool (is_within civil_days wall.day)) [
        | inl is ↦
            let found = some_parts wall dialect date clock from is in
            let lands = some_lands off found.0 places in
            (lands.0, (wall, record { shown = omega (arith, signed_arith, int_rem_euclid-parts); in_day = omega (arith, signed_arith, int_rem_euclid-parts); nanos_kept = refl }, inl (is, (found.0, found.1, lands.1))))
        | inr is ↦ (None, (wall, record { shown = omega (arith, signed_arith, int_rem_euclid-parts); in_day = omega (arith, signed_arith, int_rem_euclid-parts); nanos_kept = refl }, inr (is, refl)))
      ]

  some_means : (off : ℤ → ℤ) (base : ℤ × ℕ) (dialect : Dialect) (date : Option DateSpec) (clock : Option TimeSpec) → ((w : ℤ) → (s : ℤ) × IsPlaced off w s)
      → (r : Option (ℤ × ℕ)) × MeansIn off civil_days civil_seconds base dialect date clock r
  some_means off base dialect (Some (Relative (Seconds n))) clock places = (moment_at civil_seconds (base.0 +ℤ n) base.1, refl)
  some_means off base dialect (Some (Relative (Days n))) clock places = some_from_wall off base dialect (Some (Relative (Days n))) clock (record {}) places
  some_means off base dialect (Some (Relative (Months n))) clock places = some_from_wall off base dialect (Some (Relative (Months n))) clock (record {}) places
  some_means off base dialect (Some (Absolute date)) clock places = some_from_wall off base dialect (Some (Absolute date)) clock (record {}) places
  some_means off base dialect (Some (FromName name direction)) clock places = some_from_wall off base dialect (Some (FromName name direction)) clock (record {}) places
  some_means off base dialect None clock places = some_from_wall off base dialect None clock (record {}) places

  pub something : SomeMeaning
  something = record { some = some_means }
