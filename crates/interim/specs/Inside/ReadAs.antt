-- What a phrase is read as.
use Rattle.std.specs.Prelude.{◌≡◌, ℕ, List, Option, Ok, codes}
use Rattle.interim.specs.declared.types.DateSpec.{DateSpec}
use Rattle.interim.specs.declared.types.Dialect.{Dialect}
use Rattle.interim.specs.declared.types.TimeSpec.{TimeSpec}
use Rattle.interim.specs.declared.words.Half.{Half}
use Rattle.interim.specs.declared.words.Half.TheVariants.{Am, Pm}
use Rattle.interim.specs.Grammar.{parts_of}
use Rattle.interim.specs.Tokens.{phrase_tokens}

-- a phrase has this date part and this time part, in either dialect
abbrev pub IsReadAs : List ℕ → Option DateSpec → Option TimeSpec → Type 0
IsReadAs phrase date time = (dialect : Dialect) → parts_of dialect (phrase_tokens phrase) ≡ Ok (record { date = date; time = time })

-- am and pm in small letters
abbrev pub half_text : Half → List ℕ
half_text Am = codes "am"
half_text Pm = codes "pm"
