-- The date of a plain form, in one of four shapes (docs/GRAMMAR.md, "The plain form").
use Rattle.std.specs.Prelude.{ℕ, List, [], ◌∷◌, map, Option, Some, option_map}
use Rattle.interim.specs.declared.types.AbsDate.{AbsDate}
use Rattle.interim.specs.declared.types.Dialect.{Dialect}
use Rattle.interim.specs.declared.types.Dialect.TheVariants.{Uk, Us}
use Rattle.interim.specs.Parts.{date_of, full_year}
use Rattle.interim.specs.TokenKinds.{Kind, Number, Word, Dash, Slash, Comma, Token}
use Rattle.interim.specs.Words.{month_of}

-- the kinds of tokens
abbrev pub kinds : List Token → List Kind
kinds = map (λ (t : Token). t.kind)

-- the numbers and the word, in the order in which they are written
pub data PlainDate : Type 0 where
  Dashed : ℕ → ℕ → ℕ → PlainDate
  Slashed : ℕ → ℕ → ℕ → PlainDate
  DayFirst : ℕ → List ℕ → ℕ → PlainDate
  MonthFirst : List ℕ → ℕ → ℕ → PlainDate

-- the tokens of a date
abbrev pub spelled_date : PlainDate → List Kind
spelled_date (Dashed year month day) = Number year ∷ Dash ∷ Number month ∷ Dash ∷ Number day ∷ []
spelled_date (Slashed first second year) = Number first ∷ Slash ∷ Number second ∷ Slash ∷ Number year ∷ []
spelled_date (DayFirst day name year) = Number day ∷ Word name ∷ Number year ∷ []
spelled_date (MonthFirst name day year) = Word name ∷ Number day ∷ Comma ∷ Number year ∷ []

-- the date that it names, if its word is a month
abbrev pub date_named : Dialect → PlainDate → Option AbsDate
date_named dialect (Dashed year month day) = Some (date_of year month day)
date_named Uk (Slashed day month year) = Some (date_of (full_year year) month day)
date_named Us (Slashed month day year) = Some (date_of (full_year year) month day)
date_named dialect (DayFirst day name year) = option_map (λ month. date_of year month day) (month_of name)
date_named dialect (MonthFirst name day year) = option_map (λ month. date_of year month day) (month_of name)
