-- How a name is kept.
use Rattle.std.specs.Prelude.{◌≡◌, ◌≤◌, ℕ, List, take}
use Rattle.std.specs.Str.{IsAscii}
use Rattle.std.specs.String.{string_bytes}
use Rattle.zoneinfo64.specs.declared.utf16.Spelling.{Spelling}
use Rattle.zoneinfo64.specs.declared.utf16.Spelling.TheVariants as spelling
use Rattle.zoneinfo64.specs.NamedZone.{name_text}

-- the units of a name
abbrev pub units_of : Spelling → List ℕ
units_of (spelling.Short units bytes len) = take len units
units_of (spelling.Long units text) = units

-- a short name has its units and its bytes, 32 at most
pub record IsShort (units bytes : List ℕ) (len : ℕ) : Type 0 where
  pub room : len ≤ 32
  pub ascii : IsAscii (take len bytes)
  pub same : take len bytes ≡ name_text (take len units)

-- what is kept in UTF-8 is the characters of the units
abbrev pub IsSpelling : Spelling → Type 0
IsSpelling (spelling.Short units bytes len) = IsShort units bytes len
IsSpelling (spelling.Long units text) = string_bytes text ≡ name_text units
