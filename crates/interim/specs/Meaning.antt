-- The meaning of a phrase's parts from a base (docs/GRAMMAR.md, "The meaning").
use Rattle.std.specs.Prelude.{◌≡◌, ◌⊎◌, ℕ, ◌<◌, false, IsTrue, if◌then◌else◌, Option, Some, None, ℤ, pos, ◌+ℤ◌, ◌*ℤ◌}
use Rattle.civil.specs.Shown.{Shows}
use Rattle.zoned.specs.Placing.{IsPlaced}
use Rattle.interim.specs.declared.types.Dialect.{Dialect}
use Rattle.interim.specs.declared.types.Interval.TheVariants.{Seconds, Days, Months}
use Rattle.interim.specs.declared.types.DateSpec.{DateSpec}
use Rattle.interim.specs.declared.types.DateSpec.TheVariants.{Absolute, Relative, FromName}
use Rattle.interim.specs.declared.types.TimeSpec.{TimeSpec}
use Rattle.interim.specs.Refusal.{Ends, is_within}
use Rattle.interim.specs.Aims.{Aim, AtSecond, AtWall}
use Rattle.interim.specs.Walls.{Wall}
use Rattle.interim.specs.PartMeanings.{PartsLeadTo}

-- a second with its nanoseconds, where the calendar has it
abbrev pub moment_at : Ends → ℤ → ℕ → Option (ℤ × ℕ)
moment_at seconds s f = if is_within seconds s then Some (s, f) else None

-- the moment that is reached, or none: nothing is led to, or its second is outside the calendar; `places` says where the zone
-- places a wall second with its nanoseconds
abbrev pub Lands : (ℤ → ℕ → ℤ → Type 0) → Ends → Option Aim → Option (ℤ × ℕ) → Type 0
Lands places seconds None r = r ≡ None
Lands places seconds (Some (AtSecond s f)) r = r ≡ moment_at seconds s f
Lands places seconds (Some (AtWall w f)) r = (s : ℤ) × places w f s × (r ≡ moment_at seconds s f)

-- the wall time of a base, where `shows` says which wall seconds its zone shows there
pub record IsWallAt (shows : ℤ → ℕ → ℤ → Type 0) (base : ℤ × ℕ) (wall : Wall) : Type 0 where
  pub shown : shows base.0 base.1 (pos 86400 *ℤ wall.day +ℤ pos wall.time.0)
  pub in_day : wall.time.0 < 86400
  pub nanos_kept : wall.time.1 ≡ base.1

-- the meaning of a date part and a time part from a base, but for intervals of seconds: the base has a wall time of the
-- calendar, and the parts lead from it to a moment, or to none; or it has no such wall time
abbrev pub MeansFromWall : (ℤ → ℕ → ℤ → Type 0) → (ℤ → ℕ → ℤ → Type 0) → Ends → Ends → ℤ × ℕ → Dialect → Option DateSpec → Option TimeSpec → Option (ℤ × ℕ) → Type 0
MeansFromWall shows places days seconds base dialect date clock r =
    (wall : Wall) × IsWallAt shows base wall
    × ((IsTrue (is_within days wall.day) × ((found : Option Aim) × PartsLeadTo days wall dialect date clock found × Lands places seconds found r))
    ⊎ ((is_within days wall.day ≡ false) × (r ≡ None)))

-- what a date part and a time part mean from a base, which is a second with its nanoseconds: `Some` is their moment, and `None`
-- says that they have no meaning; `shows` and `places` say what the base's zone shows, and where it places a wall time
abbrev pub Means : (ℤ → ℕ → ℤ → Type 0) → (ℤ → ℕ → ℤ → Type 0) → Ends → Ends → ℤ × ℕ → Dialect → Option DateSpec → Option TimeSpec → Option (ℤ × ℕ) → Type 0
Means shows places days seconds base dialect (Some (Relative (Seconds n))) clock r = r ≡ moment_at seconds (base.0 +ℤ n) base.1
Means shows places days seconds base dialect (Some (Relative (Days n))) clock r = MeansFromWall shows places days seconds base dialect (Some (Relative (Days n))) clock r
Means shows places days seconds base dialect (Some (Relative (Months n))) clock r = MeansFromWall shows places days seconds base dialect (Some (Relative (Months n))) clock r
Means shows places days seconds base dialect (Some (Absolute date)) clock r = MeansFromWall shows places days seconds base dialect (Some (Absolute date)) clock r
Means shows places days seconds base dialect (Some (FromName name direction)) clock r = MeansFromWall shows places days seconds base dialect (Some (FromName name direction)) clock r
Means shows places days seconds base dialect None clock r = MeansFromWall shows places days seconds base dialect None clock r

-- what a zone with these offsets shows at a second, and where it places a wall time, if it is sound
abbrev pub ShowsIf : Type 0 → (ℤ → ℤ) → ℤ → ℕ → ℤ → Type 0
ShowsIf sound off s f w = sound → Shows off s w

-- where such a zone places a wall time
abbrev pub PlacesIf : Type 0 → (ℤ → ℤ) → ℤ → ℕ → ℤ → Type 0
PlacesIf sound off w f s = sound → IsPlaced off w s

-- the meaning in a zone that tells the offset `off` at each second
abbrev pub MeansIn : (ℤ → ℤ) → Ends → Ends → ℤ × ℕ → Dialect → Option DateSpec → Option TimeSpec → Option (ℤ × ℕ) → Type 0
MeansIn off days seconds base dialect date clock r =
    Means (λ s f w. Shows off s w) (λ w f s. IsPlaced off w s) days seconds base dialect date clock r
