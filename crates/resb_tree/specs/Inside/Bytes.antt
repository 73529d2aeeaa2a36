-- The bytes that a number holds, the first of them lowest (docs/FORMATS.md, "The 16-bit area").
use Rattle.std.specs.Prelude.{◌≡◌, ℕ, zero, suc, ◌+◌, ◌/◌, ◌%◌, List, ⊤}
use Rattle.resb_tree.specs.Words.{byte_in}

-- so many bytes of the words, from a place on
abbrev pub HoldBytes : List ℕ → ℕ → ℕ → ℕ → Type 0
HoldBytes words at zero number = ⊤
HoldBytes words at (suc count) number = (number % 256 ≡ byte_in words at) × HoldBytes words (at + 1) count (number / 256)
