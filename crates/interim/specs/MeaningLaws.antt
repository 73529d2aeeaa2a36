-- What holds of the meaning of a phrase's parts, in a zone that tells an offset at each second (docs/GRAMMAR.md, "The meaning").
use Rattle.std.specs.Prelude.{◌≡◌, ℕ, ℤ, pos, ◌+ℤ◌, ◌-ℤ◌, List, Option, Ok}
use Rattle.civil.specs.Clock.{IsWallSecond}
use Rattle.zoned.specs.Placing.{IsPlaced}
use Rattle.interim.specs.declared.types.DateSpec.{DateSpec}
use Rattle.interim.specs.declared.types.DateTimeSpec.{DateTimeSpec}
use Rattle.interim.specs.declared.types.Dialect.{Dialect}
use Rattle.interim.specs.declared.types.TimeSpec.{TimeSpec}
use Rattle.interim.specs.Grammar.{parts_of}
use Rattle.interim.specs.Meaning.{Means, MeansIn, ShowsIf, PlacesIf, moment_at}
use Rattle.interim.specs.PlainForm.{IsPlainForm}
use Rattle.interim.specs.Refusal.{Ends, civil_days, civil_seconds}
use Rattle.interim.specs.Tokens.{phrase_tokens}

-- the parts mean one moment, or they have no meaning, and never both
pub record OneMeaning : Type 0 where
  pub once : (off : ℤ → ℤ) (days seconds : Ends) (base : ℤ × ℕ) (dialect : Dialect) (date : Option DateSpec) (clock : Option TimeSpec) (r r' : Option (ℤ × ℕ))
      → MeansIn off days seconds base dialect date clock r → MeansIn off days seconds base dialect date clock r' → r ≡ r'

-- in a zone that places each wall second somewhere, any parts have a meaning from any base, or it is said that they have none
pub record SomeMeaning : Type 0 where
  pub some : (off : ℤ → ℤ) (base : ℤ × ℕ) (dialect : Dialect) (date : Option DateSpec) (clock : Option TimeSpec)
      → ((w : ℤ) → (s : ℤ) × IsPlaced off w s)
      → (r : Option (ℤ × ℕ)) × MeansIn off civil_days civil_seconds base dialect date clock r

-- what holds where a zone shows and places as these offsets want, if it is sound, is the meaning where it is sound
abbrev pub SoundMeaning : Type 0 → (ℤ → ℤ) → Type 0
SoundMeaning sound off =
    (days seconds : Ends) (base : ℤ × ℕ) (dialect : Dialect) (date : Option DateSpec) (clock : Option TimeSpec) (r : Option (ℤ × ℕ))
    → sound → Means (ShowsIf sound off) (PlacesIf sound off) days seconds base dialect date clock r
    → MeansIn off days seconds base dialect date clock r

-- a phrase of the plain form means the wall second that it names: the moment, without a fraction, at which the zone places it,
-- where the calendar has that second; whatever the base, if its wall time is one of the calendar
pub record PlainFormsMean : Type 0 where
  pub placed : (off : ℤ → ℤ) (dialect : Dialect) (phrase : List ℕ) (w : ℤ) (base : ℤ × ℕ) (parts : DateTimeSpec) (r : Option (ℤ × ℕ))
      → IsPlainForm dialect phrase w
      → parts_of dialect (phrase_tokens phrase) ≡ Ok parts
      → IsWallSecond (base.0 +ℤ off base.0)
      → MeansIn off civil_days civil_seconds base dialect parts.date parts.time r
      → (s : ℤ) × IsPlaced off w s × (r ≡ moment_at civil_seconds s 0)

-- the wall second of a phrase of the plain form lies inside the calendar, by more than a day
abbrev pub PlainFormsAreInside : Type 0
PlainFormsAreInside = (dialect : Dialect) (phrase : List ℕ) (w : ℤ) → IsPlainForm dialect phrase w
    → IsWallSecond (w -ℤ pos 86400) × IsWallSecond (w +ℤ pos 86400)
