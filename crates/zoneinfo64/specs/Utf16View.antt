-- The characters that a `Utf16Chars` has left (docs/FORMATS.md, "Names").
use Rattle.std.specs.Prelude.{ℕ, List}
use Rattle.std.specs.Char.Utf16.{utf16_lossy_chars}
use Rattle.zoneinfo64.specs.declared.utf16.Utf16Chars.{Utf16Chars}

-- the characters that are left, with U+FFFD for a surrogate that stands alone
abbrev pub chars_in : Utf16Chars → List ℕ
chars_in s = utf16_lossy_chars s.units.now
