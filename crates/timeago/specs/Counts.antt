-- The counts by which a distance is told (docs/WORDS.md, "Counts").
use Rattle.std.specs.Prelude.{◌≡◌, ℕ, ◌+◌, ◌-◌, ◌*◌, ◌<◌, ◌≤◌, ◌⊎◌, List, [], ◌∷◌, if◌then◌else◌, nat_le}
use Rattle.tongues.specs.Units.{unit_size}
use Rattle.timeago.specs.Settings.{Settings}
use Rattle.tongues.specs.declared.unit.TimeUnit.{TimeUnit}
use Rattle.tongues.specs.declared.unit.TimeUnit.TheVariants as u

-- the biggest unit that is not above a rest, or a nanosecond
abbrev pub biggest : ℕ → TimeUnit
biggest rest =
    if nat_le (unit_size u.Years) rest then u.Years else (
    if nat_le (unit_size u.Months) rest then u.Months else (
    if nat_le (unit_size u.Weeks) rest then u.Weeks else (
    if nat_le (unit_size u.Days) rest then u.Days else (
    if nat_le (unit_size u.Hours) rest then u.Hours else (
    if nat_le (unit_size u.Minutes) rest then u.Minutes else (
    if nat_le (unit_size u.Seconds) rest then u.Seconds else (
    if nat_le (unit_size u.Milliseconds) rest then u.Milliseconds else (
    if nat_le (unit_size u.Microseconds) rest then u.Microseconds else u.Nanoseconds))))))))

-- the smaller of two units
abbrev pub lower : TimeUnit → TimeUnit → TimeUnit
lower a b = if nat_le (unit_size a) (unit_size b) then a else b

-- the bigger of two units
abbrev pub higher : TimeUnit → TimeUnit → TimeUnit
higher a b = if nat_le (unit_size a) (unit_size b) then b else a

-- the unit by which a rest is told: lowered to the greatest unit, then raised to the least one
unfoldable pub allowed_unit : Settings → ℕ → TimeUnit
allowed_unit f rest = higher f.min_unit (lower (biggest rest) f.max_unit)

-- the greatest count
abbrev pub u64_max : ℕ
u64_max = 18446744073709551615

-- these counts, in this order, are told of a rest of so many nanoseconds, where so many may still be told: each is the
-- greatest number of its unit that the rest holds, of at most 64 bits, and the rest after it is told on
abbrev pub Counts : Settings → ℕ → ℕ → List (TimeUnit × ℕ) → Type 0
Counts f items rest [] = (items ≡ 0) ⊎ (rest < unit_size f.min_unit)
Counts f items rest (told ∷ others) =
    (0 < items) × (told.0 ≡ allowed_unit f rest) × (1 ≤ told.1) × (told.1 ≤ u64_max) × (told.1 * unit_size told.0 ≤ rest)
    × ((rest < (told.1 + 1) * unit_size told.0) ⊎ (told.1 ≡ u64_max))
    × Counts f (items - 1) (rest - told.1 * unit_size told.0) others
