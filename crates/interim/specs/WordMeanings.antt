-- Which unit, day, direction and half of the day a word names (docs/GRAMMAR.md, "Words").
use Rattle.std.specs.Prelude.{ℕ, ℤ, pos, negsuc, Bool, ◌||◌, List, take, Option, Some, None, codes, if◌then◌else◌}
use Rattle.std.specs.Str.{bytes_eq}
use Rattle.interim.specs.declared.types.Direction.{Direction}
use Rattle.interim.specs.declared.types.Direction.TheVariants.{Next, Last, Here}
use Rattle.interim.specs.declared.types.Interval.{Interval}
use Rattle.interim.specs.declared.types.Interval.TheVariants.{Seconds, Days, Months}
use Rattle.interim.specs.declared.words.Half.{Half}
use Rattle.interim.specs.declared.words.Half.TheVariants.{Am, Pm}

-- this letter alone, or a word that begins with these two
abbrev pub is_short_for : List ℕ → List ℕ → List ℕ → Bool
is_short_for word letter two = bytes_eq word letter || bytes_eq (take 2 word) two

-- a unit of time
abbrev pub unit_from : List ℕ → Option Interval
unit_from word =
    if is_short_for word (codes "s") (codes "se") then Some (Seconds (pos 1)) else (
    if is_short_for word (codes "m") (codes "mi") then Some (Seconds (pos 60)) else (
    if is_short_for word (codes "h") (codes "ho") then Some (Seconds (pos 3600)) else (
    if is_short_for word (codes "d") (codes "da") then Some (Days (pos 1)) else (
    if is_short_for word (codes "w") (codes "we") then Some (Days (pos 7)) else (
    if bytes_eq (take 2 word) (codes "mo") then Some (Months (pos 1)) else (
    if is_short_for word (codes "y") (codes "ye") then Some (Months (pos 12)) else None))))))

-- a day by its distance in days from the base's
abbrev pub day_from : List ℕ → Option ℤ
day_from word =
    if bytes_eq word (codes "now") || bytes_eq word (codes "today") then Some (pos 0) else (
    if bytes_eq word (codes "yesterday") then Some (negsuc 0) else (
    if bytes_eq word (codes "tomorrow") then Some (pos 1) else None))

-- the word of a direction
abbrev pub direction_from : List ℕ → Option Direction
direction_from word =
    if bytes_eq word (codes "next") then Some Next else (
    if bytes_eq word (codes "last") then Some Last else (
    if bytes_eq word (codes "this") then Some Here else None))

-- am or pm
abbrev pub half_from : List ℕ → Option Half
half_from word =
    if bytes_eq word (codes "am") then Some Am else (
    if bytes_eq word (codes "pm") then Some Pm else None)
