-- The commands of the program (docs/ARCHITECTURE.md, "The way of the data").
use Rattle.std.specs.Prelude.{ℕ, ◌==◌, nat_lt, if◌then◌else◌, List, [], ◌∷◌, map, codes, Option, Some, None, option_and_then}
use Rattle.std.specs.declared.string.String.{String}
use Rattle.std.specs.String.{string_bytes}
use Rattle.std.specs.Option.{option_map}
use Rattle.std.specs.Str.{bytes_eq}
use Rattle.timeago.specs.Codes.{coded_language}
use Rattle.tell.specs.Ago.{digits_number}
use Rattle.tell.specs.declared.program.Command.{Command}
use Rattle.tell.specs.declared.program.Command.TheVariants.{At, Ago, Load}

-- a number from 1 to 20,000 without a leading zero
abbrev pub load_count : List ℕ → Option ℕ
load_count [] = None
load_count (b ∷ digits) =
    if b == 48 then None else option_and_then (λ n. if nat_lt 20000 n then None else Some n) (digits_number (b ∷ digits))

-- `ago` and a language's code, or `load` and a number
abbrev pub two_words : List ℕ → List ℕ → Option Command
two_words name word =
    if bytes_eq name (codes "ago") then option_map (λ l. Ago l) (coded_language word)
    else (if bytes_eq name (codes "load") then option_map (λ n. Load n) (load_count word) else None)

-- `at`, a language's code, and the name of a bundle's file
abbrev pub three_words : List ℕ → List ℕ → Option Command
three_words name lang =
    if bytes_eq name (codes "at") then option_map (λ l. At l) (coded_language lang) else None

-- the command that words name
abbrev pub command_of : List (List ℕ) → Option Command
command_of (name ∷ lang ∷ bundle ∷ []) = three_words name lang
command_of (name ∷ word ∷ []) = two_words name word
command_of other = None

-- the command that strings, the words after the program's name, ask for
abbrev pub asked : {Z : Type 0} → List (String Z) → Option Command
asked args = command_of (map string_bytes args)
