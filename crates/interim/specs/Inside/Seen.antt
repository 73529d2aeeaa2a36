-- The tokens of the code as those that the definitions speak of.
use Rattle.std.specs.Prelude.{ℕ, ◌-◌, ◌≤◌, List, [], ◌∷◌, length, take, drop, Option, Some, None}
use Rattle.interim.specs.TokenKinds.{Token, Kind, Number, Word, Dash, Slash, Colon, Dot, Comma, Plus, Unknown}
use Rattle.interim.specs.Tokens.{tokens_of}
use Rattle.interim.specs.declared.lexer.Front.{Front}
use Rattle.interim.specs.declared.lexer.Front.TheVariants as f
use Rattle.interim.specs.declared.lexer.Kind.{Kind as Written}
use Rattle.interim.specs.declared.lexer.Kind.TheVariants as w
use Rattle.interim.specs.declared.lexer.Token.{Token as WrittenToken}

-- a token's kind with the text that it borrows
abbrev pub seen_kind : Written → Kind
seen_kind (w.Number n) = Number n
seen_kind (w.Word text) = Word text.now
seen_kind w.Dash = Dash
seen_kind w.Slash = Slash
seen_kind w.Colon = Colon
seen_kind w.Dot = Dot
seen_kind w.Comma = Comma
seen_kind w.Plus = Plus
seen_kind w.Unknown = Unknown

-- a token with the text that it borrows
abbrev pub seen : WrittenToken → Token
seen t = record { kind = seen_kind t.kind; span = t.span }

-- the same, if there is one
abbrev pub seen_option : Option WrittenToken → Option Token
seen_option None = None
seen_option (Some t) = Some (seen t)

-- the same of a kind, if there is one
abbrev pub seen_kind_option : Option Written → Option Kind
seen_kind_option None = None
seen_kind_option (Some k) = Some (seen_kind k)

-- what stands at the front of a text, whose token has these bytes; at the end nothing does
abbrev pub front_kind : Front → List ℕ → Option Kind
front_kind f.End bytes = None
front_kind (f.Number n) bytes = Some (Number n)
front_kind f.Word bytes = Some (Word bytes)
front_kind f.Dash bytes = Some Dash
front_kind f.Slash bytes = Some Slash
front_kind f.Colon bytes = Some Colon
front_kind f.Dot bytes = Some Dot
front_kind f.Comma bytes = Some Comma
front_kind f.Plus bytes = Some Plus
front_kind f.Unknown bytes = Some Unknown

-- a token of so many bytes at the front of what is left of a text of so many bytes, and the tokens behind it
abbrev pub front_and : Option Kind → ℕ → ℕ → List ℕ → List Token
front_and None len total left = []
front_and (Some kind) len total left =
    record { kind = kind; span = record { start = total - length left; end = total - length (drop len left) } } ∷ tokens_of total (drop len left)

-- the tokens that are left
abbrev pub tokens_left : Front → ℕ → ℕ → List ℕ → List Token
tokens_left front len total left = front_and (front_kind front (take len left)) len total left

-- so many bytes stand at the front of what is left of a text of so many bytes
pub record IsPlace (len total : ℕ) (left : List ℕ) : Type 0 where
  pub within : len ≤ length left
  pub inside : length left ≤ total
