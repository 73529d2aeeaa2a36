-- The zones of a bundle's bytes (docs/ARCHITECTURE.md, "Statuses").
use Rattle.std.specs.Prelude.{ℕ, ◌+◌, ◌*◌, ◌==◌, ◌%◌, nat_lt, if◌then◌else◌, List, [], ◌∷◌, length, Option, Some, None, option_and_then}
use Rattle.zoneinfo64.specs.NamedZone.{NamedZone}
use Rattle.zoneinfo64.specs.Bundle.{zones_of_words}

-- words of four bytes, the low byte first
abbrev pub words_of : List ℕ → List ℕ
words_of (a ∷ b ∷ c ∷ d ∷ bytes) = (a + 256 * b + 65536 * c + 16777216 * d) ∷ words_of bytes
words_of other = []

-- the most bytes of a bundle
abbrev pub most_bundle : ℕ
most_bundle = 4194304

-- the words of a bundle; none where it has over 4,194,304 bytes or a length that 4 does not divide
unfoldable pub bundle_words : List ℕ → Option (List ℕ)
bundle_words bytes =
    if nat_lt most_bundle (length bytes) then None
    else (if length bytes % 4 == 0 then Some (words_of bytes) else None)

-- the zones of a bundle; none also where its words give no zone list
unfoldable pub bundle_zones : List ℕ → Option (List NamedZone)
bundle_zones bytes = option_and_then zones_of_words (bundle_words bytes)
