-- The zones of a large input (docs/ARCHITECTURE.md, "Large inputs").
use Rattle.std.specs.Prelude.{ℕ, zero, suc, ◌+◌, ◌*◌, ◌/◌, ◌%◌, false, List, [], ◌∷◌, ◌++◌, None, ℤ, pos, ◌-ℤ◌, codes}
use Rattle.timeline.specs.Zone.{PlainZone}
use Rattle.zoneinfo64.specs.NamedZone.{NamedZone, IsZone}

-- what f gives for 1, 2 and so on, up to a number
abbrev pub up_to : {A : Type 0} → (ℕ → A) → ℕ → List A
up_to f zero = []
up_to f (suc n) = up_to f n ++ f (n + 1) ∷ []

-- one decimal digit of a number, as a character
abbrev pub digit : ℕ → ℕ → ℕ
digit n place = 48 + n / place % 10

-- `Load/` and the number in five digits
abbrev pub zone_name : ℕ → List ℕ
zone_name n = codes "Load/" ++ digit n 10000 ∷ digit n 1000 ∷ digit n 100 ∷ digit n 10 ∷ digit n 1 ∷ []

-- in seconds east of Greenwich
abbrev pub load_offset : ℕ → ℤ
load_offset n = pos (900 * (n % 97)) -ℤ pos 43200

-- one offset at all seconds: no transition and no rule
abbrev pub fixed_zone : ℤ → PlainZone
fixed_zone offset = record {
  initial = record { offset = offset; rule_applies = false };
  table = [];
  early = 0;
  late = 0;
  rule = None;
  type_offsets = (offset, pos 0) ∷ [];
  type_map = [];
  links = [];
}

-- the nth zone: its offset holds at all seconds
abbrev pub load_zone : ℕ → NamedZone
load_zone n = record { name = zone_name n; region = codes "001"; place = IsZone (fixed_zone (load_offset n)) }

-- the zones 1 to so many
abbrev pub load_zones : ℕ → List NamedZone
load_zones count = up_to load_zone count
