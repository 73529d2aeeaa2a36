-- The fields of the code as those that the definitions speak of, and how they are cut off one by one.
use Rattle.std.specs.Prelude.{ℕ, List, take, ◌==◌, Option, Some, None, option_and_then, ℤ, position}
use Rattle.std.specs.Option.{option_map}
use Rattle.interim.specs.declared.types.Dialect.{Dialect}
use Rattle.tell.specs.Fields.{LineFields, cut, number_of, base_of, dialect_of}
use Rattle.tell.specs.declared.fields.Fields.{Fields}

-- the fields of a line as what they hold
abbrev pub fields_view : Fields → LineFields
fields_view f = record { zone = f.zone.now; base = f.base; dialect = f.dialect; phrase = f.phrase.now }

-- the same, if there are fields
abbrev pub option_view : Option Fields → Option LineFields
option_view None = None
option_view (Some f) = Some (fields_view f)

-- the number that stands before the first tab, and how many digits it has
abbrev pub number_cut : List ℕ → Option (ℕ × ℕ)
number_cut bytes = option_and_then (λ i. option_map (λ n. (n, i)) (number_of (take i bytes))) (position (λ b. b == 9) bytes)

-- the base that stands before the first tab, and what follows the tab
abbrev pub base_cut : List ℕ → Option (ℤ × List ℕ)
base_cut text = option_and_then (λ parts. option_map (λ base. (base, parts.1)) (base_of parts.0)) (cut text)

-- the dialect that stands before the first tab, and what follows the tab
abbrev pub dialect_cut : List ℕ → Option (Dialect × List ℕ)
dialect_cut text = option_and_then (λ parts. option_map (λ dialect. (dialect, parts.1)) (dialect_of parts.0)) (cut text)
