-- Which seconds of a zone show a wall second (docs/ZONES.md, "Placement").
use Rattle.std.specs.Prelude.{ℤ}
use Rattle.civil.specs.Shown as shown
use Rattle.timeline.specs.Zone.{PlainZone}
use Rattle.timeline.specs.Timeline.{offset_at}

-- the offset in force at a second, without its flag: by it a clock in the zone shows wall seconds
abbrev pub seconds_at : PlainZone → ℤ → ℤ
seconds_at z t = (offset_at z t).offset

-- a clock in the zone shows w at the second t
abbrev pub Shows : PlainZone → ℤ → ℤ → Type 0
Shows z t w = shown.Shows (seconds_at z) t w

-- no second shows w
abbrev pub IsNeverShown : PlainZone → ℤ → Type 0
IsNeverShown z w = shown.IsNeverShown (seconds_at z) w

-- s is the first second that shows w
abbrev pub IsFirstShown : PlainZone → ℤ → ℤ → Type 0
IsFirstShown z w s = shown.IsFirstShown (seconds_at z) w s

-- t is the one second that shows w
abbrev pub IsShownOnce : PlainZone → ℤ → ℤ → Type 0
IsShownOnce z w t = shown.IsShownOnce (seconds_at z) w t

-- t and u are the two seconds that show w, in this order
abbrev pub IsShownTwice : PlainZone → ℤ → ℤ → ℤ → Type 0
IsShownTwice z w t u = shown.IsShownTwice (seconds_at z) w t u
