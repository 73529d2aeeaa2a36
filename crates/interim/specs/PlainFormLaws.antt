-- What holds of each plain form (docs/GRAMMAR.md, "The plain form").
use Rattle.std.specs.Prelude.{◌≡◌, ℕ, List, Some, None, Ok}
use Rattle.interim.specs.declared.types.AbsDate.{AbsDate}
use Rattle.interim.specs.declared.types.DateSpec.TheVariants.{Absolute}
use Rattle.interim.specs.declared.types.Dialect.{Dialect}
use Rattle.interim.specs.declared.types.TimeSpec.{TimeSpec}
use Rattle.interim.specs.Grammar.{parts_of}
use Rattle.interim.specs.PlainForm.{Names}
use Rattle.interim.specs.Tokens.{phrase_tokens}

-- a phrase of the plain form is read as its date and its clock time, with no written offset and no fraction
pub record IsReadAsNamed (dialect : Dialect) (phrase : List ℕ) (date : AbsDate) (time : TimeSpec) : Type 0 where
  pub parts : parts_of dialect (phrase_tokens phrase) ≡ Ok (record { date = Some (Absolute date); time = Some time })
  pub no_offset : time.offset ≡ None
  pub no_fraction : time.microsec ≡ 0

-- a phrase of the plain form is read as the date and the clock time that it names
abbrev pub PlainFormsAreRead : Type 0
PlainFormsAreRead = (dialect : Dialect) (phrase : List ℕ) (date : AbsDate) (time : TimeSpec) → Names dialect phrase date time → IsReadAsNamed dialect phrase date time
