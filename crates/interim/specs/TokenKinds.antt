-- A token of a phrase and its kind (docs/GRAMMAR.md, "Tokens").
use Rattle.std.specs.Prelude.{ℕ, List}
use Rattle.interim.specs.declared.errors.Span.{Span}

-- a number of one to four digits, a word of ASCII letters as it is written, a mark, or another character
pub data Kind : Type 0 where
  Number : ℕ → Kind
  Word : List ℕ → Kind
  Dash Slash Colon Dot Comma Plus Unknown : Kind

-- what a token is, and the bytes of the phrase that it takes
pub record Token : Type 0 where
  pub kind : Kind
  pub span : Span
